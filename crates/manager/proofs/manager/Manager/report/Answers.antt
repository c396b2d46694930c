use Rattle.std.proofs.Common.{sym, ◌∙◌, rules}
use Rattle.manager.proofs.Ways.{unreported}
use Rattle.manager.proofs.manager.Manager.report.Goals as goal

pub returns-else-report : goal.returns-else-report
returns-else-report g c =
    let s = g.D.Device.status c.args.self.now.device in
    let e = unreported s c.args.number c.args.code (sym c.if-report.ensures.value) in
    let f = c.report.ensures.after ∙ e in
    search rules
