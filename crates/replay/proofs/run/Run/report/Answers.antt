use Rattle.manager.proofs.Keeps.{report_terms}
use Rattle.replay.proofs.Records.{still_leased}
use Rattle.replay.proofs.run.Run.report.Goals as goal

pub invariant_of-self : goal.invariant_of-self
invariant_of-self g c = record { leased = still_leased (record { table = g.D.StateTable.table; status = g.D.Device.status }) c.args.self.now.manager c.report.new.self c.args.self.now.lease _ c.args.self.now.leased c.report.ensures.after (report_terms _ c.args.number c.args.code) }
