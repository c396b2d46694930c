-- A state table: its deepest state, and for each state its power, wake energy and latency.
use Rattle.std.specs.Prelude.{ℕ, suc, ◌+◌, ◌-◌, ◌*◌, min, List, map, length, slice_index_or}
use Rattle.std.specs.List.{range_with_len}
use Rattle.states.specs.declared.row.Row.{Row}

-- states are numbered from 0, which is awake; a larger number is deeper
pub record Table : Type 0 where
  pub deepest : ℕ
  pub row : ℕ → Row

-- a state beyond the deepest is answered as the deepest
abbrev pub at : Table → ℕ → Row
at t i = t.row (min i t.deepest)

-- the rows of a table, from state 0 to the deepest
unfoldable pub rows_of : Table → List Row
rows_of t = map (at t) (range_with_len 0 (suc t.deepest))

-- what stands for a row where there is none
abbrev pub no_row : Row
no_row = record { power = 0; wake = 0; latency = 0 }

-- the row of state i among these rows; a state beyond the deepest is answered as the deepest
abbrev pub row_at : List Row → ℕ → Row
row_at rows i = slice_index_or rows (min i (length rows - 1)) no_row

-- units per tick in state i
abbrev pub power_at : List Row → ℕ → ℕ
power_at rows i = (row_at rows i).power

-- the energy that waking from state i draws
abbrev pub wake_at : List Row → ℕ → ℕ
wake_at rows i = (row_at rows i).wake

-- what n ticks in the state of a row cost, with the wake-up after them
abbrev pub cost : Row → ℕ → ℕ
cost row n = row.wake + row.power * n

-- what n ticks in state i cost
abbrev pub cost_at : List Row → ℕ → ℕ → ℕ
cost_at rows n i = cost (row_at rows i) n
