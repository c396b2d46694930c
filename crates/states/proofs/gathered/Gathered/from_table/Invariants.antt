use Rattle.std.proofs.Common.{◌≡◌}
use Rattle.states.proofs.Rows.{places}
use Rattle.states.proofs.gathered.Gathered.from_table.Given as goal

-- the rows so far are the table's
abbrev pub invariant-loop-state : goal.invariant-loop-state
invariant-loop-state g l = l.each ≡ places (g.T.StateTable.table l.table) l.state
