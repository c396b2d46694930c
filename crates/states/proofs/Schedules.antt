-- What schedules that know the gap pay.
use Rattle.std.proofs.Common.{◌≡◌, ℕ, zero, suc, ◌+◌, ◌-◌, ◌*◌, ◌<◌, ◌≤◌, ltb, List, [], ◌∷◌, length, replicate, sym, refl, ap, inl, inr, mul-le-mul_right, mul-zero, mul-suc, arith}
use lib.ListN.{length-replicate}
use Rattle.std.proofs.lemmas.Bool.{cases_lt, cond_both, ltb-false}
use Rattle.states.specs.declared.row.Row.{Row}
use Rattle.states.specs.Table.{power_at, wake_at}
use Rattle.states.specs.Energy.{floor_of, energy_of, envelope_rule, FollowsLeast}
use Rattle.states.specs.Fit.{Fit}
use Rattle.states.specs.Schedule.{move, paid, schedule_cost, Inside}
use Rattle.states.specs.Laws.{NeverShallower, WithinTwice, DescentsAboveFloor, Schedules, BestSchedule}
use Rattle.states.proofs.Least.{envelope_follows}
use Rattle.states.proofs.Bound.{floor_none, summed_above, later_draws_less, floor_below, floor_of_least, least_within_twice}
use Rattle.states.proofs.Shape.{Shape, shape}

-- any rule that holds a state of least cost at each tick only descends
pub rule_never_shallower : (rows : List Row) (rule : ℕ → ℕ) → Shape rows → FollowsLeast rows rule → (m n : ℕ) → 0 < m → m ≤ n → rule m ≤ rule n
rule_never_shallower rows rule s follows m n l h =
    elim (cases_lt m n) [
      | inl k ↦
          elim (cases_lt (rule n) (rule m)) [
            | inl shallower ↦
                (let a = follows m l in
                let b = follows n (omega arith) in
                absurd (omega (arith, s.falls (rule n) (rule m) shallower a.0, later_draws_less rows m n (rule m) (rule n) k a b)))
            | inr deeper ↦ deeper
          ]
      | inr k ↦ (let same : m ≡ n = omega arith in rw same (omega arith))
    ]

pub never_shallower : (rows : List Row) → Fit rows → NeverShallower rows
never_shallower rows fit = let s = shape rows fit in rule_never_shallower rows (envelope_rule rows) s (envelope_follows rows s.some)

pub descents_above_floor : (rows : List Row) → Fit rows → (gap : ℕ) → DescentsAboveFloor rows gap
descents_above_floor rows fit zero rule inside down = omega (arith, floor_none rows)
descents_above_floor rows fit (suc n) rule inside down =
    let s = shape rows fit in
    let k = rule (suc n) in
    omega (arith, floor_below rows s.some (suc n) k (inside (suc n)), summed_above (λ m. power_at rows (rule m)) (power_at rows k) (suc n) (λ m l h. s.sinks (rule m) k (down m (suc n) h)))

pub within_twice : (rows : List Row) → Fit rows → (gap : ℕ) → WithinTwice (floor_of rows gap) (energy_of rows gap)
within_twice rows fit gap = let s = shape rows fit in least_within_twice rows s.some gap (envelope_rule rows) (envelope_follows rows s.some)

-- to stay awake costs at most 1,000,000 units a tick
pub floor_low : (rows : List Row) → Fit rows → (gap : ℕ) → floor_of rows gap ≤ 1000000 * gap
floor_low rows fit gap =
    let s = shape rows fit in
    omega (arith, floor_below rows s.some gap 0 s.some, s.start, mul-le-mul_right gap (s.low_power 0 s.some))

module _ (rows : List Row) (s : Shape rows) where
  move_is : (i j : ℕ) → move rows i j ≡ wake_at rows i - wake_at rows j
  move_is i j =
      cond_both (ltb j i) (wake_at rows i - wake_at rows j) 0 (λ x. x ≡ wake_at rows i - wake_at rows j)
      (λ t. refl)
      (λ t. omega (arith, s.rises i j (ltb-false j i t)))

  -- the deepest state that a schedule visits: it pays for waking from there, and each tick draws at least that state's power
  deepest : (js : List ℕ) (i : ℕ) → i < length rows → Inside rows js → (m : ℕ) × (i ≤ m) × (m < length rows) × (wake_at rows m + power_at rows m * length js ≤ paid rows i js)
  deepest [] i h all = (i, omega arith, h, omega (arith, mul-zero (power_at rows i), move_is i 0, s.start))
  deepest (j ∷ js) i h all =
      let below = deepest js j all.0 all.1 in
      let d = below.0 in
      let n = length js in
      elim (cases_lt d i) [
        | inl l ↦ (
          i,
          omega arith,
          h,
          omega (arith, below.3, move_is i j, mul-suc (power_at rows i) n, s.rises j d below.1, s.sinks j i (omega (arith, below.1)), mul-le-mul_right n (s.sinks d i (omega arith))),
        )
        | inr l ↦ (
          d,
          l,
          below.2,
          omega (arith, below.3, mul-suc (power_at rows d) n, s.sinks j d below.1),
        )
      ]

  staying : (k n : ℕ) → paid rows k (replicate n k) ≡ wake_at rows k + power_at rows k * n
  staying k zero = omega (arith, move_is k 0, s.start, mul-zero (power_at rows k))
  staying k (suc n) = omega (arith, move_is k k, staying k n, mul-suc (power_at rows k) n)

  staying_inside : (k n : ℕ) → k < length rows → Inside rows (replicate n k)
  staying_inside k zero h = tt
  staying_inside k (suc n) h = (h, staying_inside k n h)

floor_is_least : (rows : List Row) → Fit rows → (js : List ℕ) → Inside rows js → floor_of rows (length js) ≤ schedule_cost rows js
floor_is_least rows fit [] all = omega (arith, floor_none rows)
floor_is_least rows fit (j ∷ js) all =
    let s = shape rows fit in
    let d = deepest rows s (j ∷ js) 0 s.some all in
    omega (arith, d.3, floor_below rows s.some (suc (length js)) d.0 d.2)

floor_is_reached : (rows : List Row) → Fit rows → (gap : ℕ) → (js : List ℕ) × Schedules rows gap js × (schedule_cost rows js ≡ floor_of rows gap)
floor_is_reached rows fit zero = ([], (refl, tt), sym (floor_none rows))
floor_is_reached rows fit (suc n) =
    let s = shape rows fit in
    let k = envelope_rule rows (suc n) in
    let found = envelope_follows rows s.some (suc n) (omega arith) in (
      replicate (suc n) k,
      (length-replicate (suc n) k, staying_inside rows s k (suc n) found.0),
      omega (arith, move_is rows s 0 k, s.start, staying rows s k n, mul-suc (power_at rows k) n, floor_of_least rows s.some n k found),
    )

pub best_schedule : (rows : List Row) → Fit rows → (gap : ℕ) → BestSchedule rows gap (floor_of rows gap)
best_schedule rows fit gap = (floor_is_reached rows fit gap, λ js all. omega (arith, ap (floor_of rows) all.0, floor_is_least rows fit js all.1))
