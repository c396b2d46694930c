-- A list of calls, its history, and what a reader finds in the history alone.
use Rattle.std.specs.Prelude.{ℕ, ◌+◌, Bool, true, false, cond, ◌||◌, List, [], ◌∷◌, ◌++◌, map, Some, None, Option, ◌==◌}
use Rattle.states.specs.Table.{Table, at, rows_of}
use Rattle.states.specs.Energy.{envelope_rule}
use Rattle.devices.specs.Meaning.{Status, Refused, hold_refusal}
use Rattle.manager.specs.Rules.{Managed, Call, Answer, refused, ticked, closed, released, reportedly, shown, done}

-- a call, what the device meant before it, what was answered, and what the device means then
pub record Moment : Type 0 where
  pub call : Call
  pub before : Status
  pub answer : Answer
  pub after : Status

-- the moment of a call
abbrev pub moment : Managed → Call → Moment
moment m c = record { call = c; before = m.device; answer = (done m c).answer; after = (done m c).after.device }

-- the moments of a list of calls, each going on from the state that it finds
abbrev pub history : Managed → List Call → List Moment
history m [] = []
history m (c ∷ cs) = moment m c ∷ history (done m c).after cs

-- what a list of calls is answered, call by call
abbrev pub answers : Managed → List Call → List Answer
answers m cs = map (λ h. h.answer) (history m cs)

-- the manager after a list of calls
abbrev pub finally : Managed → List Call → Managed
finally m [] = m
finally m (c ∷ cs) = finally (done m c).after cs

-- a tick held draws the power of the state after it, an accepted request the wake energy of the state before it
abbrev pub draw : Table → Status → Answer → Status → ℕ
draw t before (refused r) after = 0
draw t before (ticked i energy hitch) after = (at t after.state).power
draw t before (closed g) after = (at t before.state).wake
draw t before released after = 0
draw t before reportedly after = 0
draw t before (shown a) after = 0

-- what a history draws
abbrev pub drawn : Table → List Moment → ℕ
drawn t [] = 0
drawn t (h ∷ hs) = draw t h.before h.answer h.after + drawn t hs

-- a gap as a reader follows it: the accepted ticks since attach or the last accepted release, whether it is stuck, and
-- whether a request has closed it
pub record Gap : Type 0 where
  pub length : ℕ
  pub stuck : Bool
  pub over : Bool

-- the gap that attach or a release starts
abbrev pub fresh : Gap
fresh = record { length = 0; stuck = false; over = false }

-- is it refusal 43?
abbrev pub jams : Option Refused → Bool
jams None = false
jams (Some r) = r.number == 43

-- the state that the gap's next tick is for
abbrev pub wanted : Table → Gap → ℕ
wanted t g = envelope_rule (rows_of t) (g.length + 1)

-- an accepted tick whose move would get 43, or a request that gets 31, makes a gap stuck
abbrev pub ticked_on : Table → Gap → Status → Gap
ticked_on t g before = record { length = g.length + 1; stuck = g.stuck || jams (hold_refusal t before (wanted t g)); over = false }

-- the gap after an answer
abbrev pub follow : Table → Gap → Status → Answer → Gap
follow t g before (refused r) = record { length = g.length; stuck = g.stuck || (r.number == 31); over = g.over }
follow t g before (ticked i energy hitch) = cond g.over g (ticked_on t g before)
follow t g before (closed c) = record { length = g.length; stuck = g.stuck; over = true }
follow t g before released = fresh
follow t g before reportedly = g
follow t g before (shown a) = g

-- a closed gap, with the energy that the request answered that closed it
pub record Closed : Type 0 where
  pub length : ℕ
  pub stuck : Bool
  pub energy : ℕ

-- the gap that an answer closes, if it does
abbrev pub closes : Gap → Answer → List Closed
closes g (refused r) = []
closes g (ticked i energy hitch) = []
closes g (closed c) = record { length = g.length; stuck = g.stuck; energy = c.energy } ∷ []
closes g released = []
closes g reportedly = []
closes g (shown a) = []

-- the closed gaps of a history, from a gap that is followed so far
abbrev pub gaps_from : Table → Gap → List Moment → List Closed
gaps_from t g [] = []
gaps_from t g (h ∷ hs) = closes g h.answer ++ gaps_from t (follow t g h.before h.answer) hs

-- the closed gaps of a history
abbrev pub gaps : Table → List Moment → List Closed
gaps t hs = gaps_from t fresh hs

-- the clean ones
abbrev pub clean_of : List Closed → List Closed
clean_of [] = []
clean_of (g ∷ gs) = cond g.stuck (clean_of gs) (g ∷ clean_of gs)
