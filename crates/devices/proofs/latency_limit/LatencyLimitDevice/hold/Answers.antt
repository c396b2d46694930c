use Rattle.std.proofs.Common.{sym, ap}
use Rattle.states.specs.Table.{Table}
use Rattle.devices.specs.Limit.{limited_table}
use Rattle.devices.proofs.Limited.{hold_answer, hold_leaves}
use Rattle.devices.proofs.latency_limit.LatencyLimitDevice.hold.Goals as goal

pub returns : goal.returns
returns g c =
    let l = c.args.self.now in
    let t = g.D.StateTable.table l.device in
    let s = g.D.Device.status l.device in
    let told = c.hold.ensures in
    let bar = sym c.in_ok-may_hold.ensures in
    record {
      value = hold_answer t s l.limit c.args.state bar told.value;
      after = hold_leaves t s l.limit c.args.state bar told.same told.after;
      same = ap (λ (x : Table). limited_table x l.limit) told.same;
    }
