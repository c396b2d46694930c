-- The laws of one gap and of a list of gaps, each a statement about one table.
use Rattle.std.specs.Prelude.{◌≡◌, ℕ, ◌*◌, ◌<◌, ◌≤◌, List, map, length}
use Rattle.std.specs.List.{AllByRecursion}
use Rattle.states.specs.declared.row.Row.{Row}
use Rattle.states.specs.Energy.{floor_of, envelope_rule, energy_under, FollowsLeast, total}
use Rattle.states.specs.Schedule.{schedule_cost, Inside}

-- the envelope state never becomes shallower as the gap grows
abbrev pub NeverShallower : List Row → Type 0
NeverShallower rows = (m n : ℕ) → 0 < m → m ≤ n → envelope_rule rows m ≤ envelope_rule rows n

-- an energy is at least a floor and at most twice that floor
abbrev pub WithinTwice : ℕ → ℕ → Type 0
WithinTwice floor energy = (floor ≤ energy) × (energy ≤ 2 * floor)

-- a clean gap under any rule that always holds a state of least cost
abbrev pub LeastWithinTwice : List Row → ℕ → Type 0
LeastWithinTwice rows gap = (rule : ℕ → ℕ) → FollowsLeast rows rule → WithinTwice (floor_of rows gap) (energy_under rows rule gap)

-- a clean gap under any rule that stays in the table and never rises
abbrev pub DescentsAboveFloor : List Row → ℕ → Type 0
DescentsAboveFloor rows gap =
    (rule : ℕ → ℕ) → ((n : ℕ) → rule n < length rows) → ((m n : ℕ) → m ≤ n → rule m ≤ rule n) →
    floor_of rows gap ≤ energy_under rows rule gap

-- the schedules of a gap: its length, and states of the table
abbrev pub Schedules : List Row → ℕ → List ℕ → Type 0
Schedules rows gap js = (length js ≡ gap) × Inside rows js

-- some schedule of the gap costs exactly so much, and every one at least that
abbrev pub BestSchedule : List Row → ℕ → ℕ → Type 0
BestSchedule rows gap least =
    ((js : List ℕ) × Schedules rows gap js × (schedule_cost rows js ≡ least))
    × ((js : List ℕ) → Schedules rows gap js → least ≤ schedule_cost rows js)

-- a schedule for each of some gaps, of its length
abbrev pub Plans : List Row → List ℕ → List (List ℕ) → Type 0
Plans rows gaps plan = (map length plan ≡ gaps) × AllByRecursion (Inside rows) plan

-- some plan of the gaps costs exactly so much, and every one at least that
abbrev pub BestPlan : List Row → List ℕ → ℕ → Type 0
BestPlan rows gaps least =
    ((plan : List (List ℕ)) × Plans rows gaps plan × (total (schedule_cost rows) plan ≡ least))
    × ((plan : List (List ℕ)) → Plans rows gaps plan → least ≤ total (schedule_cost rows) plan)
