-- The words of a line, cut at its spaces.
use Rattle.std.proofs.Common.{◌≡◌, ℕ, zero, suc, eqb, List, [], ◌∷◌, ◌++◌, drop, sym, refl, ◌∙◌, arith, Some, None, Ok, Err, Option, Result, MatchResult, IfErr, IsErrAnd}
use Rattle.std.specs.Option.{ok_or}
use Rattle.std.specs.Str.Parse.{AllDigits}
use Rattle.std.proofs.lemmas.Bool.{cond_both}
use Rattle.std.proofs.lemmas.Str.Parse.{digit_at, without_leading_plus_none}
use Rattle.states.specs.declared.row.Row.{Row}
use Rattle.plan.specs.declared.fault.RowFault.{RowFault}
use Rattle.plan.specs.declared.fault.RowFault.TheVariants.{WordCount, Power, Wake, Latency}
use Rattle.plan.specs.Text.{Number, RowLine, Unspaced, Cut, IsRowFault}

-- a number has no space in it
pub unspaced : (word : List ℕ) (n : ℕ) → Number word n → Unspaced word
unspaced [] n num i h e = absurd (omega arith)
unspaced (x ∷ word) n num zero h e =
    let plain : AllDigits 10 (x ∷ word) = rw (without_leading_plus_none (x ∷ word) (omega arith)) at num.0.0.1 in
    omega (arith, digit_at (x ∷ word) 0 plain h)
unspaced (x ∷ word) n num (suc i) h e =
    cond_both (eqb x 43) 1 0 (λ k. AllDigits 10 (drop k (x ∷ word)) → ⊥)
    (λ t ds. omega (arith, digit_at word i ds (omega arith)))
    (λ t ds. omega (arith, digit_at (x ∷ word) (suc i) ds h))
    num.0.0.1

-- two texts that are equal are cut at the same first space
first_space : (a b c d : List ℕ) → a ++ 32 ∷ b ≡ c ++ 32 ∷ d → Unspaced a → Unspaced c → (a ≡ c) × (b ≡ d)
first_space [] b [] d e ua uc = (refl, cc)
first_space [] b (y ∷ c) d e ua uc = absurd (uc 0 (omega arith) cc)
first_space (x ∷ a) b [] d e ua uc = absurd (ua 0 (omega arith) cc)
first_space (x ∷ a) b (y ∷ c) d e ua uc =
    let rest = first_space a b c d (cc) (λ i h. ua (suc i) (omega arith)) (λ i h. uc (suc i) (omega arith)) in
    (cc, rest.1)

-- a line has one cut
pub cut_same : (line : List ℕ) (a b : Cut line) → (a.first ≡ b.first) × (a.second ≡ b.second) × (a.third ≡ b.third)
cut_same line a b =
    let p = first_space a.first (a.second ++ 32 ∷ a.third) b.first (b.second ++ 32 ∷ b.third) (sym a.line_is ∙ b.line_is) a.first_whole b.first_whole in
    let q = first_space a.second a.third b.second b.third p.1 a.second_whole b.second_whole in
    (p.0, q.0, q.1)

-- the cut of a line that is a row
abbrev row_cut : (line : List ℕ) (row : Row) → RowLine line row → Cut line
row_cut line row l = record { first = l.power; second = l.wake; third = l.latency; line_is = l.line_is; first_whole = unspaced l.power row.power l.power_is; second_whole = unspaced l.wake row.wake l.wake_is }

-- a line with a fault is no row
pub fault_no_row : (line : List ℕ) (why : RowFault) → IsRowFault line why → (row : Row) → RowLine line row → ⊥
fault_no_row line WordCount f row l = f (row_cut line row l)
fault_no_row line Power f row l = f.1 row.power (rw (cut_same line (row_cut line row l) f.0).0 at l.power_is)
fault_no_row line Wake f row l = f.2 row.wake (rw (cut_same line (row_cut line row l) f.0).1 at l.wake_is)
fault_no_row line Latency f row l = f.3 row.latency (rw (cut_same line (row_cut line row l) f.0).2 at l.latency_is)

-- what is promised of a line that is no row
abbrev pub Refused : List ℕ → Result Row RowFault → Type 0
Refused line r = record { row : MatchResult r (RowLine line) (λ _. (row : Row) → RowLine line row → ⊥); why : IfErr r (IsRowFault line) }

-- it holds where `?` hands on the fault in place of something that is missing
pub refused : {X : Type 0} {d : RowFault} (line : List ℕ) (why : RowFault) (r : Result Row RowFault) (o : Option X) → IsErrAnd r (λ y. y ≡ d) → Err d ≡ ok_or o why → (o ≡ None → IsRowFault line why) → Refused line r
refused line why r (Some x) is e f = absurd cc
refused line why (Ok x) None is e f = absurd is
refused line why (Err y) None is e f =
    let same : y ≡ why = cc in
    rw same (record { row = fault_no_row line why (f refl); why = f refl })
