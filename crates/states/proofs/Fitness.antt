-- Which number refuses which rows.
use Rattle.std.proofs.Common.{◌≡◌, ℕ, ◌<◌, ◌≤◌, Bool, true, false, cond, ◌&&◌, leb, List, length, Some, None, Ok, Err, Option, Result, sym, refl, ◌∙◌, arith, MatchResult}
use Rattle.std.proofs.lemmas.Bool.{and_from, and_left, and_right, cond-true, cond-false, le-leb, lt-leb}
use Rattle.states.specs.declared.row.Row.{Row}
use Rattle.states.specs.declared.unfit.Unfit.{Unfit}
use Rattle.states.specs.Fit.{count_fits, all_within, ordered, unfitness, Fit, FitInWords, told}
use Rattle.states.proofs.Words.{to_words, from_words}

pub too_few : (rows : List Row) → length rows < 2 → unfitness rows ≡ Some 12
unfolding unfitness
too_few rows h = cond-false _ _ _ (and_left (leb 2 (length rows)) (leb (length rows) 16) (lt-leb 2 (length rows) h))

pub too_many : (rows : List Row) → 16 < length rows → unfitness rows ≡ Some 12
unfolding unfitness
too_many rows h = cond-false _ _ _ (and_right (leb 2 (length rows)) (leb (length rows) 16) (lt-leb (length rows) 16 h))

module _ (rows : List Row) (few : 2 ≤ length rows) (many : length rows ≤ 16) where
  count : count_fits rows ≡ true
  count = and_from (leb 2 (length rows)) (leb (length rows) 16) (le-leb 2 (length rows) few) (le-leb (length rows) 16 many)

  pub not_within : all_within rows ≡ false → unfitness rows ≡ Some 13
  unfolding unfitness
  not_within w = cond-true _ _ _ count ∙ cond-false _ _ _ w

  pub not_ordered : all_within rows ≡ true → ordered rows ≡ false → unfitness rows ≡ Some 14
  unfolding unfitness
  not_ordered w o = cond-true _ _ _ count ∙ cond-true _ _ _ w ∙ cond-false _ _ _ o

  pub not_refused : all_within rows ≡ true → ordered rows ≡ true → unfitness rows ≡ None
  unfolding unfitness
  not_refused w o = cond-true _ _ _ count ∙ cond-true _ _ _ w ∙ cond-true _ _ _ o

-- no number refuses the rows just if they are fit
abbrev chosen : Bool → Bool → Bool → Option ℕ
chosen a b c = cond a (cond b (cond c None (Some 14)) (Some 13)) (Some 12)

three : (a b c : Bool) → chosen a b c ≡ None → (a && (b && c)) ≡ true
three true true true e = refl
three true true false e = let z : ◌≡◌ {A = ℕ} 0 1 = cc in absurd (omega arith)
three true false c e = let z : ◌≡◌ {A = ℕ} 0 1 = cc in absurd (omega arith)
three false b c e = let z : ◌≡◌ {A = ℕ} 0 1 = cc in absurd (omega arith)

pub fit_from_none : (rows : List Row) → unfitness rows ≡ None → Fit rows
unfolding unfitness
fit_from_none rows e = three (count_fits rows) (all_within rows) (ordered rows) e

back : (a b c : Bool) → (a && (b && c)) ≡ true → chosen a b c ≡ None
back true true true e = refl
back true true false e = let z : ◌≡◌ {A = ℕ} 0 1 = grind arith in absurd (omega arith)
back true false c e = let z : ◌≡◌ {A = ℕ} 0 1 = grind arith in absurd (omega arith)
back false b c e = let z : ◌≡◌ {A = ℕ} 0 1 = grind arith in absurd (omega arith)

pub none_from_fit : (rows : List Row) → Fit rows → unfitness rows ≡ None
unfolding unfitness
none_from_fit rows fit = back (count_fits rows) (all_within rows) (ordered rows) fit

-- an answer that tells how the rows are refused tells in words whether they are fit
pub in_words : {X : Type 0} (rows : List Row) (r : Result X Unfit) → told r ≡ unfitness rows → MatchResult r (λ _. FitInWords rows) (λ _. FitInWords rows → ⊥)
in_words rows (Ok x) e = to_words rows (fit_from_none rows (sym e))
in_words rows (Err u) e = λ w. let n = none_from_fit rows (from_words rows w) in let z : ◌≡◌ {A = ℕ} 0 1 = cc in absurd (omega arith)
