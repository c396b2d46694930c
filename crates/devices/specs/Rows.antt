-- The table device: the bytes of its rows, and what it means.
use Rattle.std.specs.Prelude.{ℕ, ◌+◌, ◌-◌, ◌*◌, ◌/◌, ◌%◌, min, Bool, cond, ◌&&◌, List, [], ◌∷◌, length, Ok, Err, Result, ◌==◌, nat_le, slice_index}
use Rattle.states.specs.Table.{Table}
use Rattle.states.specs.declared.row.Row.{Row}
use Rattle.devices.specs.Meaning.{Status}
use Rattle.devices.specs.declared.table_device.TableDevice.{TableDevice}
use Rattle.devices.specs.declared.table_device.BadRows.{BadRows}

-- the number in the 4 bytes from a place on, the lowest byte first; past the end each byte is 0
abbrev pub number_at : List ℕ → ℕ → ℕ
number_at bytes place = slice_index bytes place + slice_index bytes (place + 1) * 256 + slice_index bytes (place + 2) * 65536 + slice_index bytes (place + 3) * 16777216

-- the row of state i is the 12 bytes from 12 i on: power, wake energy, latency
abbrev pub row_of : List ℕ → ℕ → Row
row_of bytes i = record { power = number_at bytes (12 * i); wake = number_at bytes (12 * i + 4); latency = number_at bytes (12 * i + 8) }

-- 12 to 192 bytes and a multiple of 12: one to sixteen rows
abbrev pub well_formed : List ℕ → Bool
well_formed bytes = nat_le 12 (length bytes) && (nat_le (length bytes) 192 && length bytes % 12 == 0)

-- the state table in the rows: a state for each, but no state beyond 15 and always a state 0
abbrev pub row_table : List ℕ → Table
row_table bytes = record { deepest = min (length bytes / 12 - 1) 15; row = row_of bytes }

-- what a table device holds
pub record Basic : Type 0 where
  pub number : ℕ
  pub rows : List ℕ
  pub state : ℕ
  pub held : ℕ
  pub code : ℕ

-- what a table device of the program holds
abbrev pub basic : TableDevice → Basic
basic d = record { number = d.number; rows = d.rows.now; state = d.state; held = d.held; code = d.code }

-- its one part is itself, and it is settled if its rows are well formed and its state is not beyond the deepest
abbrev pub basic_status : Basic → Status
basic_status b = record {
  state = b.state;
  held = b.held;
  parts = record { number = b.number; code = b.code; depth = 0 } ∷ [];
  settled = well_formed b.rows && nat_le b.state (row_table b.rows).deepest;
}

-- bad rows are refused with 15
abbrev pub told_rows : BadRows → ℕ
told_rows _ = 15

-- the answer to the making of a device, told
abbrev pub told_made : Result TableDevice BadRows → Result Basic ℕ
told_made (Ok d) = Ok (basic d)
told_made (Err e) = Err (told_rows e)

-- a table device is made awake, never held and sound, and only of well-formed rows
abbrev pub made : ℕ → List ℕ → Result Basic ℕ
made number bytes = cond (well_formed bytes) (Ok (record { number = number; rows = bytes; state = 0; held = 0; code = 0 })) (Err 15)
