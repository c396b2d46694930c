-- The laws over a list of gaps.
use Rattle.std.proofs.Common.{◌≡◌, ℕ, ◌+◌, ◌≤◌, List, [], ◌∷◌, map, length, refl, ap, ap₂, arith}
use Rattle.std.specs.List.{AllByRecursion}
use Rattle.states.specs.declared.row.Row.{Row}
use Rattle.states.specs.Fit.{Fit}
use Rattle.states.specs.Energy.{floor_of, energy_of, total}
use Rattle.states.specs.Schedule.{schedule_cost, Inside}
use Rattle.states.specs.Laws.{WithinTwice, Plans, BestPlan}
use Rattle.states.proofs.Schedules.{within_twice, best_schedule}

pub gaps_within_twice : (rows : List Row) → Fit rows → (gaps : List ℕ) → WithinTwice (total (floor_of rows) gaps) (total (energy_of rows) gaps)
gaps_within_twice rows fit [] = (omega arith, omega arith)
gaps_within_twice rows fit (gap ∷ gaps) =
    let here = within_twice rows fit gap in
    let rest = gaps_within_twice rows fit gaps in
    (omega (arith, here.0, rest.0), omega (arith, here.1, rest.1))

plans_above : (rows : List Row) → Fit rows → (plan : List (List ℕ)) → AllByRecursion (Inside rows) plan → total (floor_of rows) (map length plan) ≤ total (schedule_cost rows) plan
plans_above rows fit [] all = omega arith
plans_above rows fit (js ∷ plan) all = omega (arith, (best_schedule rows fit (length js)).1 js (refl, all.0), plans_above rows fit plan all.1)

plan_reached : (rows : List Row) → Fit rows → (gaps : List ℕ) → (plan : List (List ℕ)) × Plans rows gaps plan × (total (schedule_cost rows) plan ≡ total (floor_of rows) gaps)
plan_reached rows fit [] = ([], (refl, tt), refl)
plan_reached rows fit (gap ∷ gaps) =
    let here = (best_schedule rows fit gap).0 in
    let rest = plan_reached rows fit gaps in
    (here.0 ∷ rest.0, (ap₂ (λ x xs. x ∷ xs) here.1.0 rest.1.0, (here.1.1, rest.1.1)), ap₂ (λ x y. x + y) here.2 rest.2)

pub best_plan : (rows : List Row) → Fit rows → (gaps : List ℕ) → BestPlan rows gaps (total (floor_of rows) gaps)
best_plan rows fit gaps = (plan_reached rows fit gaps, λ plan p. omega (arith, ap (total (floor_of rows)) p.0, plans_above rows fit plan p.1))
