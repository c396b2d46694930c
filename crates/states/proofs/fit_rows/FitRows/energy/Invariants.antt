use Rattle.std.specs.Iterator.Adapters.{rev_source, enumerate_source, enumerate_count}
use Rattle.std.specs.Slice.Iter.{iter_rest}
use Rattle.states.proofs.Charged.{ChargedDownTo}
use Rattle.states.proofs.fit_rows.FitRows.energy.Given as goal

abbrev pub invariant-loop-state : goal.invariant-loop-state
invariant-loop-state l =
    let rest = rev_source l.state-iterator in
    ChargedDownTo l.self.rows l.length l.until l.energy (enumerate_count rest) (iter_rest (enumerate_source rest))
