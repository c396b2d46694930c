-- Why a run ends, by the number that the report tells.
use Rattle.std.specs.Prelude.{ℕ}
use Rattle.manager.specs.Told.{told}
use Rattle.replay.specs.declared.said.Halt.{Halt}
use Rattle.replay.specs.declared.said.Halt.TheVariants.{Refused, OtherNumber, NoLease}

-- the number of each case
abbrev pub halt_number : Halt → ℕ
halt_number (Refused why) = (told why).number
halt_number OtherNumber = 25
halt_number NoLease = 22
