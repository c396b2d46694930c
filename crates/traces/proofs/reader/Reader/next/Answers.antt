use Rattle.std.proofs.Common.{rules}
use Rattle.traces.proofs.Inverse.{read_proper}
use Rattle.traces.proofs.reader.Reader.next.Goals as goal

pub returns-clause-proper : goal.returns-clause-proper
returns-clause-proper c = search (rules, read_proper c.self.inside.stage)
