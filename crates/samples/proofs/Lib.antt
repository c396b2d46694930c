mod FiguresLemmas
mod LateLemmas
