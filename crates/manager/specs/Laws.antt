-- The laws over every list of calls.
use Rattle.std.specs.Prelude.{◌≡◌, ◌+◌, cond, List, [], ◌∷◌, map, MatchBool, ◌≢◌}
use Rattle.std.specs.List.{AllByRecursion}
use Rattle.states.specs.Table.{Table, rows_of}
use Rattle.states.specs.Energy.{floor_of}
use Rattle.states.specs.Laws.{WithinTwice, BestPlan}
use Rattle.devices.specs.Meaning.{Status, hold_refusal}
use Rattle.manager.specs.declared.account.Account.{Account}
use Rattle.manager.specs.Rules.{Answer, refused, ticked, closed, released, reportedly, shown}
use Rattle.manager.specs.Runs.{Moment, Gap, Closed, fresh, jams, wanted, follow, drawn, gaps, clean_of}

-- the energy balances: all that the account holds was drawn by the ticks held and the accepted requests
abbrev pub Balance : Table → List Moment → Account → Type 0
Balance t hs a = a.clean + a.stuck + a.busy + a.pending ≡ drawn t hs

-- a gap carries at least its floor and at most twice its floor
abbrev pub Twice : Table → Closed → Type 0
Twice t g = WithinTwice (floor_of (rows_of t) g.length) g.energy

-- each clean gap does, and so do the account's clean energy and clean floor
abbrev pub FactorTwo : Table → List Moment → Account → Type 0
FactorTwo t hs a = AllByRecursion (Twice t) (clean_of (gaps t hs)) × WithinTwice a.floor a.clean

-- some clairvoyant schedule of the clean gaps costs exactly the clean floor, and every one at least that
abbrev pub Clairvoyant : Table → List Moment → Account → Type 0
Clairvoyant t hs a = BestPlan (rows_of t) (map (λ g. g.length) (clean_of (gaps t hs))) a.floor

-- no call is refused with 41 or 42
abbrev pub NotAstray : Answer → Type 0
NotAstray (refused r) = (r.number ≢ 41) × (r.number ≢ 42)
NotAstray (ticked i energy hitch) = Unit {0}
NotAstray (closed g) = Unit {0}
NotAstray released = Unit {0}
NotAstray reportedly = Unit {0}
NotAstray (shown a) = Unit {0}

-- an accepted tick is held in state 0 when busy; in a gap in the envelope state, or where it was if a fault held that move up
abbrev pub HeldRight : Table → Gap → Status → Answer → Status → Type 0
HeldRight t g before (refused r) after = Unit {0}
HeldRight t g before (ticked i energy hitch) after =
    MatchBool g.over (after.state ≡ 0) (after.state ≡ cond (jams (hold_refusal t before (wanted t g))) before.state (wanted t g))
HeldRight t g before (closed c) after = Unit {0}
HeldRight t g before released after = Unit {0}
HeldRight t g before reportedly after = Unit {0}
HeldRight t g before (shown a) after = Unit {0}

-- so it is at each moment of a history, from a gap that is followed so far
abbrev pub Descends : Table → Gap → List Moment → Type 0
Descends t g [] = Unit {0}
Descends t g (h ∷ hs) = (NotAstray h.answer × HeldRight t g h.before h.answer h.after) × Descends t (follow t g h.before h.answer) hs

-- the laws of an account after a history
pub record Laws (t : Table) (hs : List Moment) (a : Account) : Type 0 where
  pub balance : Balance t hs a
  pub factor_two : FactorTwo t hs a
  pub clairvoyant : Clairvoyant t hs a
  pub descends : Descends t fresh hs
