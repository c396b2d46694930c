-- A clean gap charged from its last tick back, state by state.
use Rattle.std.proofs.Common.{◌≡◌, ℕ, zero, suc, ◌+◌, ◌-◌, ◌*◌, ◌<◌, ◌≤◌, List, [], ◌∷◌, ◌++◌, length, get_or, sym, refl, ap, ◌∙◌, append_assoc, length-append, arith}
use Rattle.std.proofs.Math.Seq.{get_or-append_seam}
use Rattle.states.specs.declared.row.Row.{Row}
use Rattle.states.specs.Table.{no_row, row_at, power_at, wake_at}
use Rattle.states.specs.Energy.{envelope_rule, energy_of}
use Rattle.states.specs.Fit.{Fit}
use Rattle.states.specs.Overtake.{NotDeeper, HeldBetween}
use Rattle.states.proofs.Rows.{row_at-get_or}
use Rattle.states.proofs.Shape.{shape}
use Rattle.states.proofs.Least.{rule_envelope}
use Rattle.states.proofs.Sums.{powers, powers_under, powers_level}

-- what is charged and what is left make up the whole, and the ticks left are held in states above `state`
pub record Charged (rows : List Row) (gap until energy state : ℕ) : Type 0 where
  pub within : until ≤ gap
  pub whole : energy + powers rows until ≡ powers rows gap + wake_at rows (envelope_rule rows gap)
  pub left : NotDeeper rows state until

-- the powers of some ticks and the wake energy of the last state
energy_is : (rows : List Row) (gap : ℕ) → (gap ≡ 0 → ⊥) → energy_of rows gap ≡ powers rows gap + wake_at rows (envelope_rule rows gap)
energy_is rows zero h = absurd (h refl)
energy_is rows (suc gap) h = refl

module _ (rows : List Row) (fit : Fit rows) (gap : ℕ) where
  inside : (k : ℕ) → envelope_rule rows k < length rows
  inside k = (rule_envelope rows k (shape rows fit).some).inside

  -- at first the wake energy is charged, read from the rows
  pub charged_none : (read : List Row) (energy left : ℕ) → read ≡ rows → left ≡ envelope_rule rows gap → energy ≡ (get_or read left no_row).wake → Charged rows gap gap energy (length rows)
  charged_none read energy left same at is = record {
    within = omega arith;
    whole = omega (arith, is, ap (λ rs. (get_or rs left no_row).wake) same, ap (λ k. (get_or rows k no_row).wake) at, ap (λ (r : Row). r.wake) (row_at-get_or rows (envelope_rule rows gap) (inside gap)));
    left = λ k h b. inside k;
  }

  -- one state more
  pub charged_more : (until energy state ticks q t : ℕ) → Charged rows gap until energy (state + 1) → state < length rows → ticks ≤ until → NotDeeper rows state (until - ticks) → HeldBetween rows state (until - ticks) until → q ≡ power_at rows state → t ≡ ticks → Charged rows gap (until - ticks) (energy + q * t) state
  charged_more until energy state ticks q t c l few before held is count =
      let level = powers_level rows state (until - ticks) until (omega arith) held in
      let back : until - (until - ticks) ≡ ticks = omega arith in
      let product : power_at rows state * (until - (until - ticks)) ≡ q * t = rw (back, is, count) refl in
      record { within = omega (arith, c.within); whole = omega (arith, c.whole, level, product); left = before }

  pub charged_bound : (until energy state : ℕ) → Charged rows gap until energy state → energy ≤ 1000000 * gap + 1000000000
  charged_bound until energy state c = omega (arith, c.whole, powers_under rows fit gap, (shape rows fit).low_wake (envelope_rule rows gap) (inside gap))

  pub charged_all : (until energy state : ℕ) → (gap ≡ 0 → ⊥) → Charged rows gap until energy state → state ≡ 0 → energy ≡ energy_of rows gap
  charged_all zero energy state some c none = omega (arith, c.whole, energy_is rows gap some)
  charged_all (suc until) energy state some c none = absurd (omega (arith, c.left (suc until) (omega arith) (omega arith)))

-- the rows of the states that are not charged yet are the front of the table; `count` is where the code counts them from
pub record ChargedDownTo (rows : List Row) (gap until energy count : ℕ) (rest : List Row) : Type 0 where
  pub charged : Charged rows gap until energy (length rest)
  pub counted : count ≡ 0
  pub behind : List Row
  pub split : rows ≡ rest ++ behind

pub front : (rows old rest behind : List Row) (row : Row) → rows ≡ old ++ behind → old ≡ rest ++ row ∷ [] → rows ≡ rest ++ (row ∷ behind)
front rows old rest behind row split is = split ∙ ap (λ l. l ++ behind) is ∙ append_assoc rest (row ∷ []) behind

-- the last row of the front is that of the state with its number
pub front_row : (rows rest behind : List Row) (row : Row) → rows ≡ rest ++ (row ∷ behind) → (length rest < length rows) × (row ≡ row_at rows (length rest))
front_row rows rest behind row split =
    let few : length rest < length rows = omega (arith, ap length split, length-append rest (row ∷ behind)) in
    (few, sym (row_at-get_or rows (length rest) few ∙ ap (λ rs. get_or rs (length rest) no_row) split ∙ get_or-append_seam rest row behind no_row))
