-- The rows that are gathered, and the sixteen places that they lie in.
use Rattle.std.specs.Prelude.{◌≡◌, ◌-◌, ◌≤◌, List, ◌++◌, length, take, replicate}
use Rattle.std.proofs.Common.{ap}
use Rattle.states.specs.declared.row.Row.{Row}
use Rattle.states.specs.declared.gathered.Gathered.TheInside.{Inside}
use Rattle.states.specs.Table.{no_row}

-- the first `count` places hold the rows
abbrev pub held : Inside → List Row
held a = take a.count a.each

-- these rows, with empty places behind them
abbrev pub filled : List Row → Inside
filled rows = record { each = rows ++ replicate (16 - length rows) no_row; count = length rows }

-- there are no more than sixteen rows, and the places behind them are empty
pub record IsFilled (a : Inside) : Type 0 where
  pub few : a.count ≤ 16
  pub all : length (held a) ≡ a.count
  pub empty : held a ++ replicate (16 - a.count) no_row ≡ a.each

-- the places are known from the rows
pub filled_held : (a : Inside) → IsFilled a → filled (held a) ≡ a
filled_held a h = rw h.all (ap (λ (each : List Row). record { each = each; count = a.count }) h.empty)
