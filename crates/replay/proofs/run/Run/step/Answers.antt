use Rattle.std.proofs.Common.{sym, subst}
use Rattle.traces.specs.Layout.{item}
use Rattle.replay.specs.Shown.{Noted, stands}
use Rattle.replay.proofs.Records.{says_noted}
use Rattle.replay.proofs.run.Run.step.Goals as goal

pub push_said-requires : goal.push_said-requires
push_said-requires g c =
    let m = stands (record { table = g.D.StateTable.table; status = g.D.Device.status }) c.args.self.now in
    subst Noted (sym c.in-Ok.ensures.value) (says_noted m (item c.args.next.event) c.requires)
