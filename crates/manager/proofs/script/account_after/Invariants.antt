use Rattle.std.proofs.Common.{◌≡◌, map, drop}
use Rattle.manager.specs.Runs.{finally}
use Rattle.manager.specs.Meaning.{meaning}
use Rattle.manager.specs.Script.{call_of}
use Rattle.manager.proofs.script.account_after.Given as goal

-- what is left of the list leads to the same end
abbrev pub invariant-loop-step : goal.invariant-loop-step
invariant-loop-step g l =
    finally (meaning (record { table = g.D.StateTable.table; status = g.D.Device.status }) l.manager) (map call_of (drop l.step-index l.steps))
    ≡ finally (meaning (record { table = g.D.StateTable.table; status = g.D.Device.status }) l.initial.manager) (map call_of l.steps)
