use Rattle.std.proofs.Common.{refl}
use Rattle.states.specs.Table.{rows_of}
use Rattle.states.specs.Fit.{unfitness}
use Rattle.states.specs.Energy.{floor_of, envelope_rule}
use Rattle.states.specs.Ticks.{first_tick}
use Rattle.devices.specs.Limit.{all_quick, largest_quick}
use Rattle.worked.proofs.cases_stand.Goals as goal

pub returns : goal.returns
unfolding rows_of unfitness floor_of envelope_rule first_tick all_quick largest_quick
returns c = refl
