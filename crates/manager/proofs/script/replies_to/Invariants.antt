use Rattle.std.proofs.Common.{◌≡◌, ◌++◌, map, drop, vec_items}
use Rattle.manager.specs.Runs.{answers}
use Rattle.manager.specs.Meaning.{meaning}
use Rattle.manager.specs.Script.{call_of, answer_of}
use Rattle.manager.proofs.script.replies_to.Given as goal

-- the replies so far, and then what the rest of the list is answered
abbrev pub invariant-loop-step : goal.invariant-loop-step
invariant-loop-step g l =
    map answer_of (vec_items l.replies) ++ answers (meaning (record { table = g.D.StateTable.table; status = g.D.Device.status }) l.manager) (map call_of (drop l.step-index l.steps))
    ≡ answers (meaning (record { table = g.D.StateTable.table; status = g.D.Device.status }) l.initial.manager) (map call_of l.steps)
