use Rattle.std.proofs.Common.{ap, ◌∙◌}
use Rattle.states.specs.Table.{at}
use Rattle.devices.specs.Meaning.{fault_names}
use Rattle.manager.specs.Rules.{Outcome}
use Rattle.manager.specs.Meaning.{meaning}
use Rattle.manager.proofs.Ways.{jam_tick}
use Rattle.manager.proofs.manager.Manager.idle_tick.Goals as goal

pub returns-in-Err-Jammed-clause-after : goal.returns-in-Err-Jammed-clause-after
returns-in-Err-Jammed-clause-after g c =
    let m = meaning (record { table = g.D.StateTable.table; status = g.D.Device.status }) c.args.self.now in
    let i = c.args.state in
    let d = c.hold.new.self in
    let one = c.in-Err-Jammed.ensures in
    let way = jam_tick m (g.D.StateTable.table d) (g.D.Device.status d) i (at m.table i).power (fault_names c.in-Err-Jammed.fault) (rw c.in-Err-Jammed.field-0-is at one.value) one.after one.same in
    c.stuck_tick.ensures.after ∙ ap (λ (o : Outcome). o.after) way
