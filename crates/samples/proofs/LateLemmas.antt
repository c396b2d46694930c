-- What ticks draw where states are chosen late.
use Rattle.std.proofs.Common.{◌≡◌, ℕ, zero, suc, ◌+◌, ◌≤◌, ◌<◌, arith, min}
use Rattle.std.proofs.lemmas.Grind.{common_steps}
use Rattle.samples.specs.Late.{drawn, late_energy}

-- the device is awake for five ticks and for those that it is late
pub drawn-is-min : (late n : ℕ) → drawn late n ≡ min n (5 + late)
drawn-is-min late zero = grind arith
drawn-is-min late (suc n) = grind (arith, common_steps, drawn-is-min late n)

pub late_energy-awake : (late ticks : ℕ) → ticks ≤ 5 + late → late_energy late ticks ≡ ticks
late_energy-awake late ticks low = grind (arith, common_steps, drawn-is-min late ticks)

pub late_energy-asleep : (late ticks : ℕ) → 5 + late < ticks → late_energy late ticks ≡ 5 + late + 5
late_energy-asleep late ticks high = grind (arith, common_steps, drawn-is-min late ticks)
