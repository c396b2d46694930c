-- A sheet of rows, as a state table.
use Rattle.std.specs.Prelude.{◌≡◌, ℕ, ◌-◌, ◌<◌, ◌≤◌, List, [], ◌∷◌, ◌++◌, length, Ok, Err, Result, slice_index_or}
use Rattle.states.specs.declared.row.Row.{Row}
use Rattle.states.specs.Table.{Table, no_row}
use Rattle.plan.specs.declared.fault.Fault.{Fault}
use Rattle.plan.specs.declared.fault.Fault.TheVariants.{Line, TooManyRows, Table as UnfitTable, Length, Memory}
use Rattle.plan.specs.Text.{RowLine, IsRowFault}

-- its last row is the deepest state; an empty sheet is a table of one state that draws nothing
abbrev pub sheet_table : List Row → Table
sheet_table rows = record { deepest = length rows - 1; row = λ i. slice_index_or rows i no_row }

-- what adding a line of text leaves: its row at the end, or the rows as they were and why
abbrev pub Added : ℕ → List ℕ → List Row → List Row → Result (Unit {0}) Fault → Type 0
Added line text before after (Ok x) = (row : Row) × RowLine text row × (after ≡ before ++ row ∷ []) × (length before < 16)
Added line text before after (Err (Line n why)) = (n ≡ line) × (after ≡ before) × (length before < 16) × ((row : Row) → RowLine text row → ⊥)
Added line text before after (Err (TooManyRows n)) = (n ≡ line) × (after ≡ before) × (16 ≤ length before)
Added line text before after (Err (UnfitTable why)) = ⊥
Added line text before after (Err (Length n)) = ⊥
Added line text before after (Err Memory) = after ≡ before

-- a line that is no row is refused with the fault that it has, and memory runs out only for one that is a row
abbrev pub Blamed : List ℕ → Result (Unit {0}) Fault → Type 0
Blamed text (Ok x) = Unit {0}
Blamed text (Err (Line n why)) = IsRowFault text why
Blamed text (Err (TooManyRows n)) = Unit {0}
Blamed text (Err (UnfitTable why)) = Unit {0}
Blamed text (Err (Length n)) = Unit {0}
Blamed text (Err Memory) = (row : Row) × RowLine text row
