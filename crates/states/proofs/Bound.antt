-- A rule that holds a state of least cost at each tick: its power never rises, and it draws at most twice the floor.
-- Of the search only this is used: what it answers has least cost.
use Rattle.std.proofs.Common.{◌≡◌, ℕ, zero, suc, ◌+◌, ◌-◌, ◌*◌, ◌<◌, ◌≤◌, List, length, refl, ap, ◌∙◌, inl, inr, mul-zero, mul-suc, mul-add, le_of_mul-le-mul_right, arith}
use Rattle.std.proofs.lemmas.Bool.{cases_lt}
use Rattle.states.specs.declared.row.Row.{Row}
use Rattle.states.specs.Table.{power_at, cost_at}
use Rattle.states.specs.Envelope.{envelope_state, envelope_of, Least}
use Rattle.states.specs.Energy.{floor_of, summed, FollowsLeast}
use Rattle.states.specs.Laws.{LeastWithinTwice}
use Rattle.states.proofs.Least.{envelope_is}

summed_below : (f g : ℕ → ℕ) → ((n : ℕ) → g n + f (suc n) ≤ g (suc n)) → (n : ℕ) → summed f n ≤ g n
summed_below f g step zero = omega arith
summed_below f g step (suc n) = omega (arith, summed_below f g step n, step n)

pub summed_above : (f : ℕ → ℕ) (q n : ℕ) → ((k : ℕ) → 0 < k → k ≤ n → q ≤ f k) → q * n ≤ summed f n
summed_above f q zero h = omega (arith, mul-zero q)
summed_above f q (suc n) h = omega (arith, mul-suc q n, summed_above f q n (λ k l m. h k l (omega arith)), h (suc n) (omega arith) (omega arith))

module _ (rows : List Row) where
  -- of two states of least cost, the later draws no more
  pub later_draws_less : (m n a b : ℕ) → m < n → Least rows m a → Least rows n b → power_at rows b ≤ power_at rows a
  later_draws_less m n a b l la lb =
      let x = power_at rows a in
      let y = power_at rows b in
      let d = n - m in
      let e : n ≡ m + d = omega arith in
      let ex : x * n ≡ x * m + x * d = ap (λ (k : ℕ). x * k) e ∙ mul-add x m d in
      let ey : y * n ≡ y * m + y * d = ap (λ (k : ℕ). y * k) e ∙ mul-add y m d in
      let h : y * d ≤ x * d = omega (arith, la.1 b lb.0, lb.1 a la.0) in
      le_of_mul-le-mul_right h (omega arith)

  -- no state of the table costs less than the floor
  pub floor_below : 0 < length rows → (n s : ℕ) → s < length rows → floor_of rows n ≤ cost_at rows n s
  unfolding floor_of envelope_of
  floor_below some zero s h = omega arith
  floor_below some (suc n) s h = (envelope_is rows (suc n) some).least s h

  -- a state of least cost costs the floor
  pub floor_of_least : 0 < length rows → (n s : ℕ) → Least rows (suc n) s → cost_at rows (suc n) s ≡ floor_of rows (suc n)
  unfolding floor_of envelope_of
  floor_of_least some n s l =
      let found = envelope_is rows (suc n) some in
      omega (arith, found.is, found.least s l.0, l.1 (envelope_state rows (suc n)) found.inside)

-- no ticks, no floor
pub floor_none : (rows : List Row) → floor_of rows 0 ≡ 0
unfolding floor_of
floor_none rows = refl

-- the search answers the floor of some ticks
pub floor_some : (rows : List Row) (n : ℕ) → (n ≡ 0 → ⊥) → (envelope_of rows n).1 ≡ floor_of rows n
unfolding floor_of envelope_of
floor_some rows zero h = absurd (h refl)
floor_some rows (suc n) h = refl

module _ (rows : List Row) (rule : ℕ → ℕ) (some : 0 < length rows) (follows : FollowsLeast rows rule) where
  drawn_below : (n : ℕ) → summed (λ k. power_at rows (rule k)) n ≤ floor_of rows n
  drawn_below n =
      summed_below (λ k. power_at rows (rule k)) (floor_of rows)
      (λ k. let s = rule (suc k) in omega (arith, floor_below rows some k s (follows (suc k) (omega arith)).0, floor_of_least rows some k s (follows (suc k) (omega arith)), mul-suc (power_at rows s) k))
      n

  drawn_above : (n : ℕ) → power_at rows (rule (suc n)) * suc n ≤ summed (λ k. power_at rows (rule k)) (suc n)
  drawn_above n =
      summed_above (λ k. power_at rows (rule k)) (power_at rows (rule (suc n))) (suc n)
      (λ k l m. elim (cases_lt k (suc n)) [
        | inl h ↦ later_draws_less rows k (suc n) (rule k) (rule (suc n)) h (follows k l) (follows (suc n) (omega arith))
        | inr h ↦ (let same : k ≡ suc n = omega arith in rw same (omega arith))
      ])

pub least_within_twice : (rows : List Row) → 0 < length rows → (gap : ℕ) → LeastWithinTwice rows gap
least_within_twice rows some zero rule follows = (omega (arith, floor_none rows), omega arith)
least_within_twice rows some (suc n) rule follows =
    let level = floor_of_least rows some n (rule (suc n)) (follows (suc n) (omega arith)) in
    (omega (arith, level, drawn_above rows rule some follows n), omega (arith, level, drawn_below rows rule some follows (suc n)))
