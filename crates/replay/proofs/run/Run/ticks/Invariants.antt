use Rattle.std.proofs.Common.{◌≡◌, ◌-◌, [], replicate}
use Rattle.manager.specs.Rules.{tick}
use Rattle.manager.specs.Runs.{history, finally}
use Rattle.replay.specs.Runs.{heard}
use Rattle.replay.specs.Shown.{stands}
use Rattle.replay.proofs.run.Run.ticks.Given as goal

-- the ticks that are left decide
abbrev pub invariant-loop : goal.invariant-loop
invariant-loop g l =
    (heard [] (history (stands (record { table = g.D.StateTable.table; status = g.D.Device.status }) l.self) (replicate (l.count - l.counter) tick)) ≡ heard [] (history (stands (record { table = g.D.StateTable.table; status = g.D.Device.status }) l.initial.self) (replicate l.count tick)))
    × (finally (stands (record { table = g.D.StateTable.table; status = g.D.Device.status }) l.self) (replicate (l.count - l.counter) tick) ≡ finally (stands (record { table = g.D.StateTable.table; status = g.D.Device.status }) l.initial.self) (replicate l.count tick))
