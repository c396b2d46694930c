use Rattle.states.proofs.Search.{Best}
use Rattle.states.proofs.fit_rows.FitRows.envelope.Given as goal

abbrev pub invariant-loop-i : goal.invariant-loop-i
invariant-loop-i l = Best l.rows l.n l.i l.state l.least
