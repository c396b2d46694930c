-- How far a clean gap has sunk after so many ticks, and what it has drawn.
use Rattle.std.proofs.Common.{◌≡◌, ℕ, zero, suc, ◌+◌, ◌≤◌, List, refl, ap, add-one, arith}
use Rattle.states.specs.declared.row.Row.{Row}
use Rattle.states.specs.Table.{Table, at, rows_of, power_at, wake_at}
use Rattle.states.specs.Energy.{envelope_rule}
use Rattle.states.specs.Fit.{Fit}
use Rattle.states.proofs.Rows.{length-rows_of, row_at_is}
use Rattle.states.proofs.Least.{rule_envelope}
use Rattle.states.proofs.Schedules.{never_shallower}
use Rattle.states.proofs.Sums.{powers}

-- the state of a clean gap of so many ticks
abbrev pub sunk : List Row → ℕ → ℕ
sunk rows zero = 0
sunk rows (suc n) = envelope_rule rows (suc n)

pub sunk_more : (rows : List Row) (n : ℕ) → sunk rows (n + 1) ≡ envelope_rule rows (n + 1)
sunk_more rows n = rw add-one refl

pub powers_more : (rows : List Row) (n : ℕ) → powers rows (n + 1) ≡ powers rows n + power_at rows (envelope_rule rows (n + 1))
powers_more rows n = rw add-one refl

pub power_is : (t : Table) (i : ℕ) → power_at (rows_of t) i ≡ (at t i).power
power_is t i = ap (λ (r : Row). r.power) (row_at_is t i)

pub wake_is : (t : Table) (i : ℕ) → wake_at (rows_of t) i ≡ (at t i).wake
wake_is t i = ap (λ (r : Row). r.wake) (row_at_is t i)

pub aim_within : (t : Table) (n : ℕ) → envelope_rule (rows_of t) n ≤ t.deepest
aim_within t n = omega (arith, length-rows_of t, (rule_envelope (rows_of t) n (omega (arith, length-rows_of t))).inside)

pub aim_below : (rows : List Row) → Fit rows → (n : ℕ) → sunk rows n ≤ envelope_rule rows (n + 1)
aim_below rows fit zero = omega arith
aim_below rows fit (suc n) = never_shallower rows fit (suc n) (suc n + 1) (omega arith) (omega arith)
