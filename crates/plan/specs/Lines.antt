-- The lines of a plan.
use Rattle.std.specs.Prelude.{ℕ, List, ◌++◌, length, Some, None, codes, decimal, Option}
use Rattle.std.specs.List.{range_with_len, filter_map}
use Rattle.states.specs.declared.row.Row.{Row}
use Rattle.states.specs.Energy.{energy_of, floor_of, envelope_rule}
use Rattle.states.specs.Ticks.{first_tick}

-- when a state is first held
abbrev pub from_words : Option ℕ → List ℕ
from_words None = codes " never"
from_words (Some n) = codes " from tick " ++ decimal n

-- `state S from tick N`, or `state S never`
abbrev pub state_line : List Row → ℕ → List ℕ
state_line rows s = codes "state " ++ (decimal s ++ from_words (first_tick rows s))

-- `gap N energy E floor F state S`, S being the state that the gap's last tick holds
abbrev pub gap_line : List Row → ℕ → List ℕ
gap_line rows n =
    codes "gap " ++ (decimal n ++ (codes " energy " ++ (decimal (energy_of rows n) ++ (codes " floor " ++ (decimal (floor_of rows n) ++ (codes " state " ++ decimal (envelope_rule rows n)))))))

-- `total energy E floor F`
abbrev pub total_line : ℕ → ℕ → List ℕ
total_line energy floor = codes "total energy " ++ (decimal energy ++ (codes " floor " ++ decimal floor))

-- the first ticks of the states that have one
abbrev pub first_ticks : List Row → List ℕ
first_ticks rows = filter_map (first_tick rows) (range_with_len 0 (length rows))
