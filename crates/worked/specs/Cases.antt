-- Worked cases, as one test that the checker computes.
use Rattle.std.specs.Prelude.{ℕ, ◌-◌, Bool, true, false, ◌&&◌, List, [], ◌∷◌, length, Some, None, Option, ◌==◌, slice_index_or}
use Rattle.states.specs.declared.row.Row.{Row}
use Rattle.states.specs.Table.{Table, at, rows_of, no_row, cost_at}
use Rattle.states.specs.Fit.{unfitness}
use Rattle.states.specs.Energy.{energy_of, floor_of, envelope_rule}
use Rattle.states.specs.Ticks.{first_tick}
use Rattle.states.specs.Schedule.{schedule_cost}
use Rattle.devices.specs.Pair.{joined_table}
use Rattle.devices.specs.Limit.{limited_table}

-- an answer is this number
abbrev pub is : Option ℕ → ℕ → Bool
is None n = false
is (Some m) n = m == n

-- an answer is none
abbrev pub none : Option ℕ → Bool
none None = true
none (Some m) = false

-- a row of power, wake energy and latency
abbrev pub row : ℕ → ℕ → ℕ → Row
row power wake latency = record { power = power; wake = wake; latency = latency }

-- a table of these rows
abbrev pub table : List Row → Table
table rows = record { deepest = length rows - 1; row = λ i. slice_index_or rows i no_row }

-- a modem: powers 10, 4, 1, wake energies 0, 20, 50, latencies 0, 2, 9
abbrev pub modem : Table
modem = table (row 10 0 0 ∷ row 4 20 2 ∷ row 1 50 9 ∷ [])

-- a receiver: powers 1, 0, wake energies 0, 5, latencies 0, 0
abbrev pub receiver : Table
receiver = table (row 1 0 0 ∷ row 0 5 0 ∷ [])

-- a table with a state that is never held: powers 10, 6, 5, wake energies 0, 100, 101
abbrev pub unused : Table
unused = table (row 10 0 0 ∷ row 6 100 0 ∷ row 5 101 0 ∷ [])

-- the modem and the receiver behind a rail of power 2 and energy 5
abbrev pub pair : Table
pair = joined_table modem receiver 2 5

-- the first ticks of three states
abbrev pub firsts : Table → ℕ → ℕ → ℕ → Bool
firsts t a b c = is (first_tick (rows_of t) 0) a && (is (first_tick (rows_of t) 1) b && is (first_tick (rows_of t) 2) c)

-- the energy and the floor of a clean gap
abbrev pub gap : Table → ℕ → ℕ → ℕ → Bool
gap t n energy floor = energy_of (rows_of t) n == energy && floor_of (rows_of t) n == floor

-- the power and the wake energy of a state
abbrev pub draws : Table → ℕ → ℕ → ℕ → Bool
draws t i power wake = (at t i).power == power && (at t i).wake == wake

-- at tick 10 states 1 and 2 of the modem both cost 60, and state 1 is held
abbrev pub level_at_10 : Bool
level_at_10 = cost_at (rows_of modem) 10 1 == 60 && (cost_at (rows_of modem) 10 2 == 60 && envelope_rule (rows_of modem) 10 == 1)

-- all of them
abbrev pub cases : Bool
cases =
    firsts modem 1 4 11
    && (level_at_10
    && (gap modem 10 78 60
    && (gap modem 11 109 61
    && (gap receiver 5 5 5
    && (gap receiver 6 10 5
    && (none (first_tick (rows_of unused) 1)
    && (is (first_tick (rows_of unused) 2) 21
    && (gap (limited_table modem 8) 12 86 68
    && (is (unfitness (rows_of (limited_table modem 1))) 12
    && (draws pair 0 13 0
    && (draws pair 1 6 25
    && (draws pair 2 1 60
    && (firsts pair 1 4 8
    && schedule_cost (rows_of modem) (1 ∷ 0 ∷ 1 ∷ 1 ∷ []) == 62)))))))))))))
