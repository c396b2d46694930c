use Rattle.std.proofs.Common.{◌≡◌, ◌++◌, length, string_bytes}
use Rattle.replay.specs.Lines.{written}
use Rattle.replay.specs.Runs.{run_on}
use Rattle.replay.specs.Shown.{stands}
use Rattle.replay.proofs.run.Run.follow.Given as goal

-- the text so far and what is left make the whole
abbrev pub invariant-loop : goal.invariant-loop
invariant-loop g l =
    string_bytes l.report.text ++ written (run_on (stands (record { table = g.D.StateTable.table; status = g.D.Device.status }) l.self) l.report.reader)
    ≡ string_bytes l.initial.report.text ++ written (run_on (stands (record { table = g.D.StateTable.table; status = g.D.Device.status }) l.initial.self) l.initial.report.reader)

abbrev pub decreases-loop : goal.decreases-loop
decreases-loop g l = length l.report.reader.records
