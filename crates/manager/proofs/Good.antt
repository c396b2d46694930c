-- What holds of an attached manager between calls.
use Rattle.std.proofs.Common.{◌≡◌, ℕ, ◌+◌, ◌≤◌, Bool, true, false, List}
use Rattle.std.specs.List.{AllByRecursion}
use Rattle.states.specs.Table.{Table, rows_of}
use Rattle.states.specs.Energy.{floor_of, energy_of, total}
use Rattle.states.proofs.Sums.{powers}
use Rattle.devices.specs.Meaning.{Status}
use Rattle.manager.specs.declared.account.Account.{Account}
use Rattle.manager.specs.Rules.{Condition, idle, busy, Managed, Outcome}
use Rattle.manager.specs.Runs.{Gap, Closed, draw, follow, closes, clean_of}
use Rattle.manager.specs.Laws.{NotAstray, HeldRight}
use Rattle.manager.proofs.Sinking.{sunk}

-- the manager of a fit table
abbrev pub at_work : ℕ → Table → Status → Condition → Account → Managed
at_work number t s c a = record { number = number; table = t; device = s; condition = c; rows = rows_of t; account = a }

-- a gap as a reader follows it, open or over
abbrev pub gap : ℕ → Bool → Bool → Gap
gap length stuck over = record { length = length; stuck = stuck; over = over }

-- idle: what a reader follows is what the account has; the device has sunk no deeper than the envelope, in a clean gap
-- exactly so far
pub record Idling (t : Table) (s : Status) (a : Account) (length : ℕ) (stuck : Bool) : Type 0 where
  pub settled : s.settled ≡ true
  pub length_is : length ≡ a.length
  pub stuck_is : stuck ≡ a.mark
  pub shallow : s.state ≤ sunk (rows_of t) a.length
  pub clean_state : a.mark ≡ false → s.state ≡ sunk (rows_of t) a.length
  pub clean_energy : a.mark ≡ false → a.pending ≡ powers (rows_of t) a.length

-- busy: the device is awake, and no gap is open
pub record Working (s : Status) (a : Account) : Type 0 where
  pub settled : s.settled ≡ true
  pub awake : s.state ≡ 0
  pub pending : a.pending ≡ 0
  pub length : a.length ≡ 0
  pub mark : a.mark ≡ false

-- one of the two
pub data Good (t : Table) : Managed → Gap → Type 0 where
  idling : (number : ℕ) (s : Status) (a : Account) (n : ℕ) (stuck : Bool) → Idling t s a n stuck → Good t (at_work number t s idle a) (gap n stuck false)
  working : (number : ℕ) (s : Status) (a : Account) (n : ℕ) (stuck : Bool) → Working s a → Good t (at_work number t s busy a) (gap n stuck true)

-- all energy that an account holds
abbrev pub sum_of : Account → ℕ
sum_of a = a.clean + a.stuck + a.busy + a.pending

-- the floors of some gaps
abbrev pub floors : Table → List Closed → ℕ
floors t gs = total (λ g. floor_of (rows_of t) g.length) gs

-- what some gaps carry
abbrev pub energies : List Closed → ℕ
energies gs = total (λ g. g.energy) gs

-- a gap carries what a clean gap of its length draws under the lower envelope
abbrev pub Carries : Table → Closed → Type 0
Carries t g = g.energy ≡ energy_of (rows_of t) g.length

-- what one call adds
pub record Step (t : Table) (g : Gap) (s : Status) (a : Account) (o : Outcome) : Type 0 where
  pub good : Good t o.after (follow t g s o.answer)
  pub sums : sum_of o.after.account ≡ sum_of a + draw t s o.answer o.after.device
  pub floored : o.after.account.floor ≡ a.floor + floors t (clean_of (closes g o.answer))
  pub cleaned : o.after.account.clean ≡ a.clean + energies (clean_of (closes g o.answer))
  pub carried : AllByRecursion (Carries t) (clean_of (closes g o.answer))
  pub fine : NotAstray o.answer × HeldRight t g s o.answer o.after.device
