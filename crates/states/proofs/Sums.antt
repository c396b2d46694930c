-- Sums of a clean gap's powers, state by state.
use Rattle.std.proofs.Common.{◌≡◌, ℕ, zero, suc, ◌+◌, ◌-◌, ◌*◌, ◌<◌, ◌≤◌, List, ap, inl, inr, mul-zero, mul-suc, arith}
use Rattle.std.proofs.lemmas.Bool.{cases_lt}
use Rattle.states.specs.declared.row.Row.{Row}
use Rattle.states.specs.Table.{power_at}
use Rattle.states.specs.Energy.{summed, envelope_rule}
use Rattle.states.specs.Fit.{Fit}
use Rattle.states.specs.Ticks.{IsFirst}
use Rattle.states.specs.Overtake.{NotDeeper, HeldBetween}
use Rattle.states.proofs.Shape.{shape}
use Rattle.states.proofs.Least.{rule_envelope}
use Rattle.states.proofs.Schedules.{never_shallower}

-- equal terms at the end of a sum
pub summed_level : (f : ℕ → ℕ) (q m d n : ℕ) → n ≡ m + d → ((k : ℕ) → m < k → k ≤ n → f k ≡ q) → summed f n ≡ summed f m + q * d
summed_level f q m zero n e h = let same : n ≡ m = omega arith in rw same (omega (arith, mul-zero q))
summed_level f q m (suc d) zero e h = absurd (omega arith)
summed_level f q m (suc d) (suc n) e h =
    omega (arith, h (suc n) (omega arith) (omega arith), mul-suc q d, summed_level f q m d n (omega arith) (λ k l b. h k l (omega arith)))

pub summed_under : (f : ℕ → ℕ) (q n : ℕ) → ((k : ℕ) → 0 < k → f k ≤ q) → summed f n ≤ q * n
summed_under f q zero h = omega (arith, mul-zero q)
summed_under f q (suc n) h = omega (arith, h (suc n) (omega arith), mul-suc q n, summed_under f q n h)

-- the powers of the first n ticks of a clean gap
abbrev pub powers : List Row → ℕ → ℕ
powers rows n = summed (λ k. power_at rows (envelope_rule rows k)) n

pub powers_under : (rows : List Row) → Fit rows → (n : ℕ) → powers rows n ≤ 1000000 * n
powers_under rows fit n =
    let s = shape rows fit in
    summed_under (λ k. power_at rows (envelope_rule rows k)) 1000000 n (λ k h. s.low_power (envelope_rule rows k) (rule_envelope rows k s.some).inside)

-- what is charged for ticks m + 1 to n, all held in state s
pub powers_level : (rows : List Row) (s m n : ℕ) → m ≤ n → HeldBetween rows s m n → powers rows n ≡ powers rows m + power_at rows s * (n - m)
powers_level rows s m n l h =
    summed_level (λ k. power_at rows (envelope_rule rows k)) (power_at rows s) m (n - m) n (omega arith) (λ k a b. ap (power_at rows) (h k a b))

-- a state that is first held at tick f: before it a shallower one, from it on this one, where none is deeper
pub first_splits : (rows : List Row) → Fit rows → (s f n : ℕ) → NotDeeper rows (s + 1) n → IsFirst rows s f → f ≤ n → NotDeeper rows s (n - (n - f + 1)) × HeldBetween rows s (n - (n - f + 1)) n
first_splits rows fit s f n below first l = (
  (λ k h b. elim (cases_lt (envelope_rule rows k) s) [
    | inl m ↦ m
    | inr m ↦ absurd (first.2 k h (omega (arith, first.0)) (omega (arith, below k h (omega arith))))
  ]),
  (λ k h b. omega (arith, first.0, first.1, never_shallower rows fit f k first.0 (omega (arith, first.0)), below k (omega arith) b)),
)

-- a state that none of these ticks is held in
pub none_held : (rows : List Row) (s n : ℕ) → NotDeeper rows (s + 1) n → ((k : ℕ) → 0 < k → k ≤ n → envelope_rule rows k ≡ s → ⊥) → NotDeeper rows s n
none_held rows s n below none k h b =
    elim (cases_lt (envelope_rule rows k) s) [
      | inl m ↦ m
      | inr m ↦ absurd (none k h b (omega (arith, below k h b)))
    ]
