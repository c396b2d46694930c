use Rattle.std.proofs.Common.{◌<◌}
use Rattle.states.specs.Overtake.{Leads}
use Rattle.states.proofs.fit_rows.leads_from.Given as goal

abbrev pub invariant-loop-above : goal.invariant-loop-above
invariant-loop-above l = Leads l.rows l.state l.above-index l.tick × (0 < l.tick)
