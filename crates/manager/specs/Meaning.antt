-- What a manager of the code means, and its answers as the rules tell them.
use Rattle.std.specs.Prelude.{◌≡◌, ℕ, List, [], Some, None, Ok, Err, Option, Result}
use Rattle.states.specs.declared.row.Row.{Row}
use Rattle.devices.specs.declared.device.Fault.{Fault}
use Rattle.devices.specs.Meaning.{Make, Refused}
use Rattle.manager.specs.declared.manager.Standing.{Standing}
use Rattle.manager.specs.declared.manager.Standing.TheVariants as standings
use Rattle.manager.specs.declared.manager.Ticked.{Ticked}
use Rattle.manager.specs.declared.manager.ClosedGap.{ClosedGap}
use Rattle.manager.specs.declared.manager.HandedBack.{HandedBack}
use Rattle.manager.specs.declared.manager.Manager.{Manager}
use Rattle.manager.specs.declared.lease.Lease.{Lease}
use Rattle.manager.specs.declared.refusal.Refusal.{Refusal}
use Rattle.manager.specs.Rules.{Condition, shut, idle, busy, Managed, Answer, refused, ticked, closed, released, reportedly}
use Rattle.manager.specs.Told.{unattached_number, jammed_by, told}

-- its condition
abbrev pub condition_of : Standing → Condition
condition_of (standings.Shut u) = shut (unattached_number u)
condition_of (standings.Idle rows) = idle
condition_of (standings.Busy rows) = busy

-- the rows that attach gathered
abbrev pub rows_in : Standing → List Row
rows_in (standings.Shut u) = []
rows_in (standings.Idle rows) = rows.rows
rows_in (standings.Busy rows) = rows.rows

-- the manager, from what its device means
abbrev pub meaning : {D : Type 0} → Make D → Manager D → Managed
meaning make m = record {
  number = m.number;
  table = make.table m.device;
  device = make.status m.device;
  condition = condition_of m.standing;
  rows = rows_in m.standing;
  account = m.books.account;
}

-- the fault that a tick's answer carries is all that 43 named
abbrev pub told_hitch : Option Fault → Option Refused
told_hitch None = None
told_hitch (Some f) = Some (jammed_by 43 f)

-- a tick's answer
abbrev pub told_ticked : Result Ticked Refusal → Answer
told_ticked (Ok k) = ticked k.state k.energy (told_hitch k.fault)
told_ticked (Err e) = refused (told e)

-- a request's answer
abbrev pub told_closed : Result (Lease × ClosedGap) Refusal → Answer
told_closed (Ok x) = closed (record { manager = x.0.manager; count = x.0.count; length = x.1.length; energy = x.1.energy; floor = x.1.floor; stuck = x.1.stuck; from = x.1.from; latency = x.1.latency })
told_closed (Err e) = refused (told e)

-- a release's answer
abbrev pub told_released : Result (Unit {0}) HandedBack → Answer
told_released (Ok x) = released
told_released (Err back) = refused (told back.why)

-- a lease that is not taken back is the one that was given
abbrev pub HandsBack : Lease → Result (Unit {0}) HandedBack → Type 0
HandsBack lease (Ok x) = Unit {0}
HandsBack lease (Err back) = back.lease ≡ lease

-- a report's answer
abbrev pub told_reported : Result (Unit {0}) Refusal → Answer
told_reported (Ok x) = reportedly
told_reported (Err e) = refused (told e)

-- the manager is busy and waits for a lease that bears these two numbers
pub record Waits (m : Managed) (manager count : ℕ) : Type 0 where
  pub condition : m.condition ≡ busy
  pub number : manager ≡ m.number
  pub gaps : count ≡ m.account.gaps

-- a lease that is out stays out
abbrev pub KeepsLease : Managed → Managed → Type 0
KeepsLease before after = (manager count : ℕ) → Waits before manager count → Waits after manager count
