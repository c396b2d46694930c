-- The refusals of a manager, each by its number and the values that it names.
use Rattle.std.specs.Prelude.{ℕ, cond, Some, None, Option, ◌==◌}
use Rattle.states.specs.Fit.{unfit_number}
use Rattle.devices.specs.declared.device.Fault.{Fault}
use Rattle.devices.specs.declared.device.Refusal as device
use Rattle.devices.specs.declared.device.Refusal.TheVariants as devices
use Rattle.devices.specs.Meaning.{Refused, plain, fault_names}
use Rattle.manager.specs.declared.refusal.Unattached.{Unattached}
use Rattle.manager.specs.declared.refusal.Unattached.TheVariants.{NotAwake, Unfit}
use Rattle.manager.specs.declared.refusal.Refusal.{Refusal}
use Rattle.manager.specs.declared.refusal.Refusal.TheVariants.{Attach, Busy, NotThisLease, TickLimit, GapLimit, NoSuchPart, Jammed, Unsettled, OutOfRange}

-- the numbers of a refused attach
abbrev pub unattached_number : Unattached → ℕ
unattached_number NotAwake = 11
unattached_number (Unfit why) = unfit_number why

-- why attach was refused, if it was
abbrev pub told_unattached : Option Unattached → Option ℕ
told_unattached None = None
told_unattached (Some why) = Some (unattached_number why)

-- a refusal that names a fault
abbrev pub jammed_by : ℕ → Fault → Refused
jammed_by n f = record { number = n; names = fault_names f }

-- each refusal's number, and what it names
abbrev pub told : Refusal → Refused
told (Attach why) = plain (unattached_number why)
told Busy = plain 21
told NotThisLease = plain 22
told TickLimit = plain 23
told GapLimit = plain 24
told NoSuchPart = plain 25
told (Jammed f) = jammed_by 31 f
told Unsettled = plain 41
told OutOfRange = plain 42

-- what a device's refusal becomes in the manager's answer
abbrev pub risen : device.Refusal → Refusal
risen (devices.Jammed f) = Jammed f
risen devices.Unsettled = Unsettled
risen devices.OutOfRange = OutOfRange

-- the same, told: 43 becomes 31 with all that it names
abbrev pub passed_up : Refused → Refused
passed_up r = record { number = cond (r.number == 43) 31 r.number; names = r.names }
