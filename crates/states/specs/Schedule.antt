-- What a clairvoyant schedule pays: one that knows the length of the gap beforehand.
use Rattle.std.specs.Prelude.{ℕ, ◌+◌, ◌-◌, ◌<◌, cond, List, [], ◌∷◌, length, nat_lt}
use Rattle.std.specs.List.{AllByRecursion}
use Rattle.states.specs.declared.row.Row.{Row}
use Rattle.states.specs.Table.{power_at, wake_at}

-- a move from state i to state j: the difference of the wake energies on the way up, nothing on the way down
abbrev pub move : List Row → ℕ → ℕ → ℕ
move rows i j = cond (nat_lt j i) (wake_at rows i - wake_at rows j) 0

-- what is still paid from state i on: for each tick the move to its state and that state's power, and at last the move to state 0
abbrev pub paid : List Row → ℕ → List ℕ → ℕ
paid rows i [] = move rows i 0
paid rows i (j ∷ js) = move rows i j + power_at rows j + paid rows j js

-- a schedule is the list of the states of the gap's ticks; it starts in state 0
abbrev pub schedule_cost : List Row → List ℕ → ℕ
schedule_cost rows js = paid rows 0 js

-- each state of the schedule is in the table
abbrev pub Inside : List Row → List ℕ → Type 0
Inside rows js = AllByRecursion (λ j. j < length rows) js
