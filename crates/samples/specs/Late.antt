-- Energy of gaps on powers 1 and 0 and wake energies 0 and 5, where states are chosen late.
use Rattle.std.specs.Prelude.{ℕ, zero, suc, ◌+◌, ◌-◌, nat_lt, Bool, if◌then◌else◌}

-- whether the device sleeps at tick n: n ticks awake cost n, asleep 5, and the costs so many ticks before it decide
abbrev pub sleeps : ℕ → ℕ → Bool
sleeps late n = nat_lt 5 (n - late)

-- what the ticks draw: 1 each while the device is awake
abbrev pub drawn : ℕ → ℕ → ℕ
drawn late zero = 0
drawn late (suc n) = drawn late n + (if sleeps late (suc n) then 0 else 1)

-- what a gap draws, with the wake-up if the device sleeps at its end
abbrev pub late_energy : ℕ → ℕ → ℕ
late_energy late ticks = drawn late ticks + (if sleeps late ticks then 5 else 0)
