use Rattle.std.proofs.Common.{rules}
use Rattle.replay.specs.Runs.{lines_for}
use Rattle.replay.proofs.attach.work_trace.Goals as goal

pub returns-in-Table : goal.returns-in-Table
unfolding lines_for
returns-in-Table c = search rules

pub returns-in-None : goal.returns-in-None
unfolding lines_for
returns-in-None c = search rules
