use Rattle.std.proofs.Common.{ℕ, zero, suc, List, [], ◌∷◌, IsAscii, arith, lit<}
use Rattle.std.proofs.lemmas.Str.{IsUtf8-from_ascii}
use Rattle.traces.specs.Written.{Printable}
use Rattle.replay.proofs.lines.note_word.Goals as goal

-- bytes that can be printed are text
ascii : (bs : List ℕ) → Printable bs → IsAscii bs
ascii [] h i = lit< tt
ascii (b ∷ bs) h zero = omega (arith, h.0.1)
ascii (b ∷ bs) h (suc i) = ascii bs h.1 i

pub unreachable-requires : goal.unreachable-requires
unreachable-requires c = c.in-Err.ensures.cases.0 (IsUtf8-from_ascii c.args.note.now (ascii c.args.note.now c.requires))
