use Rattle.devices.proofs.Layers.{bears_pair}
use Rattle.devices.proofs.Halves.{reported_together, table_of_halves}
use Rattle.devices.proofs.joined.JoinedDevice.report.Goals as goal

pub returns : goal.returns
returns g c =
    let j = c.args.self.now in
    let a = g.A.Device.status j.first in
    let b = g.B.Device.status j.second in
    let first = c.report-in_first.ensures in
    let second = c.report-in_second.ensures in
    record {
      value = bears_pair c.args.number a.parts b.parts first.value second.value;
      after = reported_together (g.A.StateTable.table j.first) (g.B.StateTable.table j.second) a b c.args.number c.args.code first.same second.same first.after second.after;
      same = table_of_halves j.rail.power j.rail.energy first.same second.same;
    }
