-- A table passes the test just if it is fit in words.
use Rattle.std.proofs.Common.{◌≡◌, ℕ, zero, suc, ◌<◌, ◌≤◌, true, ◌&&◌, eqb, leb, List, [], ◌∷◌, length, get_or, sym, refl, subst, arith}
use Rattle.std.proofs.lemmas.Bool.{and_parts, and_from, leb-true, eqb-true, le-leb, eq-eqb}
use Rattle.std.proofs.lemmas.Bool.Decides.{nat_tests}
use Rattle.states.specs.declared.row.Row.{Row}
use Rattle.states.specs.Table.{no_row, row_at}
use Rattle.states.specs.Fit.{within, all_within, deepens, all_deepen, ordered, count_fits, Fit, FitInWords}
use Rattle.states.proofs.Rows.{row_at-get_or}

abbrev Within : Row → Type 0
Within row = (row.power ≤ 1000000) × (row.wake ≤ 1000000000) × (row.latency ≤ 100000)

abbrev Deeper : Row → Row → Type 0
Deeper a b = (b.power < a.power) × (a.wake < b.wake) × (a.latency ≤ b.latency)

within_says : (row : Row) → within row ≡ true → Within row
within_says row h = grind (arith, nat_tests)

within_from : (row : Row) → Within row → within row ≡ true
within_from row h = grind (arith, nat_tests)

deeper_says : (a b : Row) → deepens a b ≡ true → Deeper a b
deeper_says a b h = grind (arith, nat_tests)

deeper_from : (a b : Row) → Deeper a b → deepens a b ≡ true
deeper_from a b h = grind (arith, nat_tests)

all_within_says : (rows : List Row) → all_within rows ≡ true → (k : ℕ) → k < length rows → Within (get_or rows k no_row)
all_within_says [] h k l = absurd (omega arith)
all_within_says (row ∷ rows) h zero l = within_says row (and_parts (within row) (all_within rows) h).0
all_within_says (row ∷ rows) h (suc k) l = all_within_says rows (and_parts (within row) (all_within rows) h).1 k (omega arith)

all_within_from : (rows : List Row) → ((k : ℕ) → k < length rows → Within (get_or rows k no_row)) → all_within rows ≡ true
all_within_from [] h = refl
all_within_from (row ∷ rows) h = and_from (within row) (all_within rows) (within_from row (h 0 (omega arith))) (all_within_from rows (λ k l. h (suc k) (omega arith)))

all_deepen_says : (a : Row) (rows : List Row) → all_deepen a rows ≡ true → (k : ℕ) → suc k < length (a ∷ rows) → Deeper (get_or (a ∷ rows) k no_row) (get_or (a ∷ rows) (suc k) no_row)
all_deepen_says a [] h k l = absurd (omega arith)
all_deepen_says a (b ∷ rows) h zero l = deeper_says a b (and_parts (deepens a b) (all_deepen b rows) h).0
all_deepen_says a (b ∷ rows) h (suc k) l = all_deepen_says b rows (and_parts (deepens a b) (all_deepen b rows) h).1 k (omega arith)

all_deepen_from : (a : Row) (rows : List Row) → ((k : ℕ) → suc k < length (a ∷ rows) → Deeper (get_or (a ∷ rows) k no_row) (get_or (a ∷ rows) (suc k) no_row)) → all_deepen a rows ≡ true
all_deepen_from a [] h = refl
all_deepen_from a (b ∷ rows) h = and_from (deepens a b) (all_deepen b rows) (deeper_from a b (h 0 (omega arith))) (all_deepen_from b rows (λ k l. h (suc k) (omega arith)))

abbrev Awake : Row → Type 0
Awake row = (row.wake ≡ 0) × (row.latency ≡ 0)

-- what `ordered` tests of a table that is not empty
abbrev Steps : List Row → Type 0
Steps rows = Awake (get_or rows 0 no_row) × ((k : ℕ) → suc k < length rows → Deeper (get_or rows k no_row) (get_or rows (suc k) no_row))

ordered_says : (rows : List Row) → 0 < length rows → ordered rows ≡ true → Steps rows
ordered_says [] l h = absurd (omega arith)
ordered_says (a ∷ rows) l h =
    let p = and_parts (eqb a.wake 0 && eqb a.latency 0) (all_deepen a rows) h in
    let q = and_parts (eqb a.wake 0) (eqb a.latency 0) p.0 in
    ((eqb-true a.wake 0 q.0, eqb-true a.latency 0 q.1), all_deepen_says a rows p.1)

ordered_from : (rows : List Row) → Steps rows → ordered rows ≡ true
ordered_from [] h = refl
ordered_from (a ∷ rows) h =
    and_from (eqb a.wake 0 && eqb a.latency 0) (all_deepen a rows)
    (and_from _ _ (eq-eqb a.wake 0 h.0.0) (eq-eqb a.latency 0 h.0.1))
    (all_deepen_from a rows h.1)

-- a fact of a row, at the row of a state
at : (P : Row → Type 0) (rows : List Row) (k : ℕ) → k < length rows → P (get_or rows k no_row) → P (row_at rows k)
at P rows k l h = subst P (sym (row_at-get_or rows k l)) h

back : (P : Row → Type 0) (rows : List Row) (k : ℕ) → k < length rows → P (row_at rows k) → P (get_or rows k no_row)
back P rows k l h = subst P (row_at-get_or rows k l) h

at₂ : (P : Row → Row → Type 0) (rows : List Row) (k : ℕ) → suc k < length rows → P (get_or rows k no_row) (get_or rows (suc k) no_row) → P (row_at rows k) (row_at rows (suc k))
at₂ P rows k l h = at (λ r. P r (row_at rows (suc k))) rows k (omega arith) (at (λ r. P (get_or rows k no_row) r) rows (suc k) l h)

back₂ : (P : Row → Row → Type 0) (rows : List Row) (k : ℕ) → suc k < length rows → P (row_at rows k) (row_at rows (suc k)) → P (get_or rows k no_row) (get_or rows (suc k) no_row)
back₂ P rows k l h = back (λ r. P r (get_or rows (suc k) no_row)) rows k (omega arith) (back (λ r. P (row_at rows k) r) rows (suc k) l h)

pub to_words : (rows : List Row) → Fit rows → FitInWords rows
to_words rows fit =
    let parts = and_parts (count_fits rows) (all_within rows && ordered rows) fit in
    let rest = and_parts (all_within rows) (ordered rows) parts.1 in
    let count = and_parts (leb 2 (length rows)) (leb (length rows) 16) parts.0 in
    let few = leb-true 2 (length rows) count.0 in
    let limits : (k : ℕ) → k < length rows → Within (row_at rows k) = λ k l. at Within rows k l (all_within_says rows rest.0 k l) in
    let some : 0 < length rows = omega arith in
    let steps = ordered_says rows some rest.1 in
    let awake : Awake (row_at rows 0) = at Awake rows 0 some steps.0 in
    let deeper : (k : ℕ) → suc k < length rows → Deeper (row_at rows k) (row_at rows (suc k)) = λ k l. at₂ Deeper rows k l (steps.1 k l) in
    record {
      few = few;
      many = leb-true (length rows) 16 count.1;
      powers = λ i l. (limits i l).0;
      wakes = λ i l. (limits i l).1;
      latencies = λ i l. (limits i l).2;
      awake_wake = awake.0;
      awake_latency = awake.1;
      power_falls = λ i l. (deeper i l).0;
      wake_rises = λ i l. (deeper i l).1;
      latency_stays = λ i l. (deeper i l).2;
    }

pub from_words : (rows : List Row) → FitInWords rows → Fit rows
from_words rows w =
    let counted = and_from (leb 2 (length rows)) (leb (length rows) 16) (le-leb 2 (length rows) w.few) (le-leb (length rows) 16 w.many) in
    let limited = all_within_from rows (λ k l. back Within rows k l (w.powers k l, w.wakes k l, w.latencies k l)) in
    let steps : Steps rows = (back Awake rows 0 (omega (arith, w.few)) (w.awake_wake, w.awake_latency), λ k l. back₂ Deeper rows k l (w.power_falls k l, w.wake_rises k l, w.latency_stays k l)) in
    and_from (count_fits rows) (all_within rows && ordered rows) counted (and_from (all_within rows) (ordered rows) limited (ordered_from rows steps))
