-- What a manager means, and what each call answers and leaves, from every manager whatsoever.
use Rattle.std.specs.Prelude.{ℕ, ◌+◌, Bool, true, false, cond, ◌&&◌, List, [], Some, None, Option, ◌==◌, nat_le}
use Rattle.states.specs.declared.row.Row.{Row}
use Rattle.states.specs.Table.{Table, at, rows_of}
use Rattle.states.specs.Fit.{unfitness}
use Rattle.states.specs.Energy.{floor_of, envelope_rule}
use Rattle.devices.specs.Meaning.{Status, Refused, plain, hold_refusal, wake_refusal, held, woken, bears, reported}
use Rattle.manager.specs.declared.account.Account.{Account}
use Rattle.manager.specs.Charges.{empty, busy_charge, open_charge, settle, marked}
use Rattle.manager.specs.Told.{passed_up}

-- refused at attach with a number, idle, or busy
pub data Condition : Type 0 where
  shut : ℕ → Condition
  idle : Condition
  busy : Condition

-- a manager: its number, what its device means, the rows gathered at attach, and its account
pub record Managed : Type 0 where
  pub number : ℕ
  pub table : Table
  pub device : Status
  pub condition : Condition
  pub rows : List Row
  pub account : Account

-- a call: a release bears the two numbers of a lease, a report a device number and a code
pub data Call : Type 0 where
  tick : Call
  request : Call
  release : ℕ → ℕ → Call
  report : ℕ → ℕ → Call
  figures : Call

-- what an accepted request answers: a lease's two numbers, and the gap that it closes
pub record Closing : Type 0 where
  pub manager : ℕ
  pub count : ℕ
  pub length : ℕ
  pub energy : ℕ
  pub floor : ℕ
  pub stuck : Bool
  pub from : ℕ
  pub latency : ℕ

-- an answer: refused; a tick's state, energy and the fault that held its move up; a closed gap; or done
pub data Answer : Type 0 where
  refused : Refused → Answer
  ticked : ℕ → ℕ → Option Refused → Answer
  closed : Closing → Answer
  released : Answer
  reportedly : Answer
  shown : Account → Answer

-- what a call answers and leaves
pub record Outcome : Type 0 where
  pub answer : Answer
  pub after : Managed

-- a refusal changes nothing
abbrev pub refuse : Managed → Refused → Outcome
refuse m r = record { answer = refused r; after = m }

-- attach is refused with 11 for an unsettled device or one that is not in state 0, then as its table is unfit
abbrev pub attach_refusal : Table → Status → Option ℕ
attach_refusal t s = cond (s.settled && s.state == 0) (unfitness (rows_of t)) (Some 11)

-- idle, unless attach was refused
abbrev pub standing : Option ℕ → Condition
standing None = idle
standing (Some n) = shut n

-- the number that attach was refused with, if it was
abbrev pub turned_away : Condition → Option ℕ
turned_away (shut n) = Some n
turned_away idle = None
turned_away busy = None

-- rows are gathered, unless attach was refused
abbrev pub gathered : Option ℕ → List Row → List Row
gathered None rows = rows
gathered (Some n) rows = []

-- a manager that was given this refusal at attach, or none
abbrev pub begun : ℕ → Table → Status → Option ℕ → Managed
begun number t s r = record { number = number; table = t; device = s; condition = standing r; rows = gathered r (rows_of t); account = empty }

-- a freshly attached manager
abbrev pub started : ℕ → Table → Status → Managed
started number t s = begun number t s (attach_refusal t s)

-- the state that the next tick of the gap is for
abbrev pub aim : Managed → ℕ
aim m = envelope_rule m.rows (m.account.length + 1)

-- a tick that holds state i, if the device does not refuse it: `charged` is the account after it
abbrev pub holding : Managed → ℕ → Option Refused → Account → Option Refused → Outcome
holding m i hitch charged None = record {
  answer = ticked i (at m.table i).power hitch;
  after = record { number = m.number; table = m.table; device = held m.device i; condition = m.condition; rows = m.rows; account = charged };
}
holding m i hitch charged (Some r) = refuse m (passed_up r)

-- a busy tick holds state 0
abbrev pub busy_tick : Managed → Outcome
busy_tick m = holding m 0 None (busy_charge m.account (at m.table 0).power) (hold_refusal m.table m.device 0)

-- a tick of the gap that moves to state i
abbrev pub clean_tick : Managed → ℕ → Outcome
clean_tick m i = holding m i None (open_charge m.account i (at m.table i).power false) (hold_refusal m.table m.device i)

-- a fault holds that move up: the present state is held, the gap is marked, and the answer carries the fault
abbrev pub stuck_tick : Managed → Refused → Outcome
stuck_tick m fault = holding m m.device.state (Some fault) (open_charge m.account m.device.state (at m.table m.device.state).power true) (hold_refusal m.table m.device m.device.state)

-- by what the device says to the move
abbrev pub idle_tick_by : Managed → ℕ → Option Refused → Outcome
idle_tick_by m i None = clean_tick m i
idle_tick_by m i (Some r) = cond (r.number == 43) (stuck_tick m r) (refuse m (passed_up r))

-- a tick of the gap that is for state i
abbrev pub idle_tick : Managed → ℕ → Outcome
idle_tick m i = idle_tick_by m i (hold_refusal m.table m.device i)

-- a tick: 23 after 1,000,000 accepted ones
abbrev pub tick_in : Condition → Managed → Outcome
tick_in (shut n) m = refuse m (plain n)
tick_in idle m = cond (nat_le 1000000 m.account.ticks) (refuse m (plain 23)) (idle_tick m (aim m))
tick_in busy m = cond (nat_le 1000000 m.account.ticks) (refuse m (plain 23)) (busy_tick m)

-- the gap that closes now
abbrev pub closing : Managed → Closing
closing m = record {
  manager = m.number;
  count = m.account.gaps + 1;
  length = m.account.length;
  energy = m.account.pending + (at m.table m.device.state).wake;
  floor = floor_of m.rows m.account.length;
  stuck = m.account.mark;
  from = m.device.state;
  latency = (at m.table m.device.state).latency;
}

-- the manager once its device was asked to wake: a fault that holds the wake-up up marks the gap
abbrev pub roused : Managed → Option Refused → Managed
roused m None = record { number = m.number; table = m.table; device = woken m.device; condition = m.condition; rows = m.rows; account = m.account }
roused m (Some r) = record { number = m.number; table = m.table; device = m.device; condition = m.condition; rows = m.rows; account = cond (r.number == 43) (marked m.account) m.account }

-- by what the device says to the wake-up: accepted, it closes the gap and makes the manager busy; refused, 43 becomes 31
abbrev pub waking : Managed → Option Refused → Outcome
waking m None = record {
  answer = closed (closing m);
  after = record { number = m.number; table = m.table; device = woken m.device; condition = busy; rows = m.rows; account = settle m.account m.device.state (closing m).energy (closing m).floor };
}
waking m (Some r) = record { answer = refused (passed_up r); after = roused m (Some r) }

-- a request: 21 when busy, 24 after 1,000,000 closed gaps, then by the wake-up
abbrev pub request_in : Condition → Managed → Outcome
request_in (shut n) m = refuse m (plain n)
request_in busy m = refuse m (plain 21)
request_in idle m = cond (nat_le 1000000 m.account.gaps) (refuse m (plain 24)) (waking m (wake_refusal m.device))

-- busy time ends, and a gap of no ticks starts
abbrev pub freed : Managed → Outcome
freed m = record { answer = released; after = record { number = m.number; table = m.table; device = m.device; condition = idle; rows = m.rows; account = m.account } }

-- a release: 22 unless busy and the lease bears the manager's number and the closed-gap count
abbrev pub release_in : Condition → Managed → ℕ → ℕ → Outcome
release_in (shut k) m number count = refuse m (plain k)
release_in idle m number count = refuse m (plain 22)
release_in busy m number count = cond (number == m.number && count == m.account.gaps) (freed m) (refuse m (plain 22))

-- a report passes to the device: 25 if no part bears the number
abbrev pub reporting : Managed → ℕ → ℕ → Outcome
reporting m number code =
    cond (bears number m.device.parts)
    (record { answer = reportedly; after = record { number = m.number; table = m.table; device = reported m.device number code; condition = m.condition; rows = m.rows; account = m.account } })
    (refuse m (plain 25))

-- a report to a manager in this condition
abbrev pub report_in : Condition → Managed → ℕ → ℕ → Outcome
report_in (shut k) m number code = refuse m (plain k)
report_in idle m number code = reporting m number code
report_in busy m number code = reporting m number code

-- the rules
abbrev pub done : Managed → Call → Outcome
done m tick = tick_in m.condition m
done m request = request_in m.condition m
done m (release number count) = release_in m.condition m number count
done m (report number code) = report_in m.condition m number code
done m figures = record { answer = shown m.account; after = m }
