-- What a device means beside its state table, and what its commands answer and leave.
use Rattle.std.specs.Prelude.{ℕ, ◌+◌, min, Bool, true, false, cond, not, ◌||◌, List, [], ◌∷◌, map, Some, None, Ok, Err, Option, Result, ◌==◌, nat_lt}
use Rattle.states.specs.Table.{Table}
use Rattle.devices.specs.declared.device.Part.{Part}
use Rattle.devices.specs.declared.device.Fault.{Fault}
use Rattle.devices.specs.declared.device.Refusal.{Refusal}
use Rattle.devices.specs.declared.device.Refusal.TheVariants.{Unsettled, OutOfRange, Jammed}

-- a device's state, the ticks held so far, its parts, and whether it is settled
pub record Status : Type 0 where
  pub state : ℕ
  pub held : ℕ
  pub parts : List Part
  pub settled : Bool

-- what is told of the devices of one make: the table of each, and what it means beside that
abbrev pub Make : Type 0 → Type 0
Make D = record { table : D → Table; status : D → Status }

-- a refusal as the rules tell it: its number, and the values that it names
pub record Refused : Type 0 where
  pub number : ℕ
  pub names : List ℕ

-- a refusal that names no values
abbrev pub plain : ℕ → Refused
plain n = record { number = n; names = [] }

-- the values that a fault names, in their order
abbrev pub fault_names : Fault → List ℕ
fault_names f = f.number ∷ f.code ∷ f.depth ∷ f.from ∷ f.to ∷ []

-- the number and the values of each refusal
abbrev pub told : Refusal → Refused
told Unsettled = plain 41
told OutOfRange = plain 42
told (Jammed f) = record { number = 43; names = fault_names f }

-- what stands in the way, told
abbrev pub told_bar : Option Refusal → Option Refused
told_bar None = None
told_bar (Some r) = Some (told r)

-- the answer to a command, told
abbrev pub told_reply : {X : Type 0} → Result X Refusal → Result X Refused
told_reply (Ok x) = Ok x
told_reply (Err e) = Err (told e)

-- the first part with a code other than 0
abbrev pub fault_of : List Part → Option Part
fault_of [] = None
fault_of (p ∷ ps) = cond (p.code == 0) (fault_of ps) (Some p)

-- a fault refuses a move with 43, which names the faulty part and the states from and to
abbrev pub jam_between : ℕ → ℕ → Option Part → Option Refused
jam_between from to None = None
jam_between from to (Some p) = Some (record { number = 43; names = p.number ∷ p.code ∷ p.depth ∷ from ∷ to ∷ [] })

-- the same, from a device's state
abbrev pub jam : Status → ℕ → Option Part → Option Refused
jam s to p = jam_between s.state to p

-- what bars a hold, from whether the device is settled, its state, its deepest state, its fault and the state to hold
abbrev pub hold_bar : Bool → ℕ → ℕ → Option Part → ℕ → Option Refused
hold_bar settled state deepest fault i =
    cond (not settled) (Some (plain 41))
    (cond (nat_lt i state || nat_lt deepest i) (Some (plain 42))
    (cond (i == state) None (jam_between state i fault)))

-- what bars a hold of a device
abbrev pub hold_refusal : Table → Status → ℕ → Option Refused
hold_refusal t s i = hold_bar s.settled s.state t.deepest (fault_of s.parts) i

-- what bars a wake-up, from whether the device is settled, its state and its fault
abbrev pub wake_bar : Bool → ℕ → Option Part → Option Refused
wake_bar settled state fault =
    cond (not settled) (Some (plain 41))
    (cond (state == 0) None (jam_between state 0 fault))

-- what bars a wake-up of a device
abbrev pub wake_refusal : Status → Option Refused
wake_refusal s = wake_bar s.settled s.state (fault_of s.parts)

-- an accepted hold: in state i, one more tick held
abbrev pub held : Status → ℕ → Status
held s i = record { state = i; held = min (s.held + 1) 4294967295; parts = s.parts; settled = true }

-- an accepted wake-up: in state 0
abbrev pub woken : Status → Status
woken s = record { state = 0; held = s.held; parts = s.parts; settled = true }

-- what a command answers: an energy, unless it is refused
abbrev pub reply : Option Refused → ℕ → Result ℕ Refused
reply None energy = Ok energy
reply (Some r) energy = Err r

-- what a command leaves: refused, nothing changes
abbrev pub left : Option Refused → Status → Status → Status
left None before after = after
left (Some r) before after = before

-- whether a part bears the number
abbrev pub bears : ℕ → List Part → Bool
bears number [] = false
bears number (p ∷ ps) = p.number == number || bears number ps

-- a part once the code of each part with that number is set
abbrev pub coded : ℕ → ℕ → Part → Part
coded number code p = cond (p.number == number) (record { number = p.number; code = code; depth = p.depth }) p

-- a report sets the codes and leaves all else
abbrev pub reported : Status → ℕ → ℕ → Status
reported s number code = record { state = s.state; held = s.held; parts = map (coded number code) s.parts; settled = s.settled }

-- a part as seen from one layer further up
abbrev pub layered : Part → Part
layered p = record { number = p.number; code = p.code; depth = min (p.depth + 1) 255 }
