use Rattle.std.proofs.Common.{◌≡◌, drop}
use Rattle.states.specs.Fit.{all_deepen}
use Rattle.states.proofs.gathered.is_ordered.Given as goal

-- what is left decides
abbrev pub invariant-loop-row : goal.invariant-loop-row
invariant-loop-row l = all_deepen l.above (drop l.row-index l.deeper) ≡ all_deepen l.initial.above l.deeper
