use Rattle.std.proofs.Common.{arith}
use Rattle.samples.proofs.LateLemmas.{late_energy-awake, late_energy-asleep}
use Rattle.samples.proofs.late.receiver_gap.Goals as goal

pub returns-then-from-awake : goal.returns-then-from-awake
returns-then-from-awake c = grind (arith, late_energy-asleep)

pub returns-else-from-awake : goal.returns-else-from-awake
returns-else-from-awake c = grind (arith, late_energy-awake)
