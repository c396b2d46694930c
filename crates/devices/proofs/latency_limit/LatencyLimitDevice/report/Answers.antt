use Rattle.std.proofs.Common.{sym, ap, ◌∙◌}
use Rattle.states.specs.Table.{Table}
use Rattle.devices.specs.Limit.{limited_table}
use Rattle.devices.proofs.Layers.{bears_layered}
use Rattle.devices.proofs.Limited.{report_leaves}
use Rattle.devices.proofs.latency_limit.LatencyLimitDevice.report.Goals as goal

pub returns : goal.returns
returns g c =
    let l = c.args.self.now in
    let t = g.D.StateTable.table l.device in
    let s = g.D.Device.status l.device in
    let told = c.report.ensures in
    record {
      value = told.value ∙ sym (bears_layered c.args.number s.parts);
      after = report_leaves t s l.limit c.args.number c.args.code told.same told.after;
      same = ap (λ (x : Table). limited_table x l.limit) told.same;
    }
