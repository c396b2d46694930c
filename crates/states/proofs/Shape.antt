-- What a fit table is like, from one state to any other.
use Rattle.std.proofs.Common.{◌≡◌, ℕ, zero, suc, ◌-◌, ◌<◌, ◌≤◌, min, List, length, get_or, ap, inl, inr, arith}
use Rattle.std.proofs.lemmas.Bool.{cases_lt}
use Rattle.states.specs.declared.row.Row.{Row}
use Rattle.states.specs.Table.{no_row, row_at, power_at, wake_at}
use Rattle.states.specs.Fit.{Fit}
use Rattle.states.proofs.Words.{to_words}

-- from each state to the next, so from each to any deeper one
all_fall : (f : ℕ → ℕ) (n : ℕ) → ((i : ℕ) → suc i < n → f (suc i) < f i) → (i j : ℕ) → i < j → j < n → f j < f i
all_fall f n step i zero l h = absurd (omega arith)
all_fall f n step i (suc j) l h =
    elim (cases_lt i j) [
      | inl m ↦ omega (arith, all_fall f n step i j m (omega arith), step j h)
      | inr m ↦ (let same : i ≡ j = omega arith in rw same (step j h))
    ]

all_rise : (f : ℕ → ℕ) (n : ℕ) → ((i : ℕ) → suc i < n → f i ≤ f (suc i)) → (i j : ℕ) → i ≤ j → j < n → f i ≤ f j
all_rise f n step i zero l h = let same : i ≡ 0 = omega arith in rw same (omega arith)
all_rise f n step i (suc j) l h =
    elim (cases_lt i (suc j)) [
      | inl m ↦ omega (arith, all_rise f n step i j (omega arith) (omega arith), step j h)
      | inr m ↦ (let same : i ≡ suc j = omega arith in rw same (omega arith))
    ]

clamped : (rows : List Row) (f : Row → ℕ) (i : ℕ) → f (row_at rows i) ≡ f (row_at rows (min i (length rows - 1)))
clamped rows f i = ap (λ (k : ℕ). f (get_or rows k no_row)) {x = min i (length rows - 1)} {y = min (min i (length rows - 1)) (length rows - 1)} (omega arith)

-- a column that does not fall in the table does not fall past its end either
rises_on : (rows : List Row) (f : Row → ℕ) → 0 < length rows → ((i : ℕ) → suc i < length rows → f (row_at rows i) ≤ f (row_at rows (suc i))) → (i j : ℕ) → i ≤ j → f (row_at rows i) ≤ f (row_at rows j)
rises_on rows f some step i j l =
    let last = length rows - 1 in
    omega (arith, clamped rows f i, clamped rows f j, all_rise (λ k. f (row_at rows k)) (length rows) step (min i last) (min j last) (omega arith) (omega arith))

pub record Shape (rows : List Row) : Type 0 where
  pub some : 0 < length rows
  pub start : wake_at rows 0 ≡ 0
  -- strictly, in the table
  pub falls : (i j : ℕ) → i < j → j < length rows → power_at rows j < power_at rows i
  -- and for every number
  pub sinks : (i j : ℕ) → i ≤ j → power_at rows j ≤ power_at rows i
  pub rises : (i j : ℕ) → i ≤ j → wake_at rows i ≤ wake_at rows j
  pub low_power : (i : ℕ) → i < length rows → power_at rows i ≤ 1000000
  pub low_wake : (i : ℕ) → i < length rows → wake_at rows i ≤ 1000000000

pub shape : (rows : List Row) → Fit rows → Shape rows
shape rows fit =
    let w = to_words rows fit in
    let some : 0 < length rows = omega (arith, w.few) in
    let falls = all_fall (power_at rows) (length rows) w.power_falls in
    let last = length rows - 1 in
    record {
      some = some;
      start = w.awake_wake;
      falls = falls;
      sinks = λ i j l. elim (cases_lt (min i last) (min j last)) [
        | inl m ↦ omega (arith, clamped rows (λ r. r.power) i, clamped rows (λ r. r.power) j, falls (min i last) (min j last) m (omega arith))
        | inr m ↦ omega (arith, ap (λ (k : ℕ). (get_or rows k no_row).power) {x = min i last} {y = min j last} (omega arith))
      ];
      rises = rises_on rows (λ r. r.wake) some (λ i l. omega (arith, w.wake_rises i l));
      low_power = w.powers;
      low_wake = w.wakes;
    }
