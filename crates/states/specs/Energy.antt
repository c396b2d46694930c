-- What a gap costs at least, and what a clean gap draws under a rule of descent.
use Rattle.std.specs.Prelude.{ℕ, zero, suc, ◌+◌, ◌<◌, List, [], ◌∷◌}
use Rattle.states.specs.declared.row.Row.{Row}
use Rattle.states.specs.Table.{power_at, wake_at}
use Rattle.states.specs.Envelope.{least_cost, envelope_state, Least}

-- the floor of a gap of so many ticks: the least cost, 0 for no ticks
unfoldable pub floor_of : List Row → ℕ → ℕ
floor_of rows zero = 0
floor_of rows (suc n) = least_cost rows (suc n)

-- f 1 + f 2 + .. + f n
abbrev pub summed : (ℕ → ℕ) → ℕ → ℕ
summed f zero = 0
summed f (suc n) = summed f n + f (suc n)

-- a clean gap under a rule, which names the state held at each tick from tick 1 on: the power of each tick, and the wake energy of the last state
abbrev pub energy_under : List Row → (ℕ → ℕ) → ℕ → ℕ
energy_under rows rule zero = 0
energy_under rows rule (suc n) = summed (λ k. power_at rows (rule k)) (suc n) + wake_at rows (rule (suc n))

-- the lower-envelope rule: at each tick the envelope state
unfoldable pub envelope_rule : List Row → ℕ → ℕ
envelope_rule rows n = envelope_state rows n

-- a clean gap of so many ticks under the lower envelope
abbrev pub energy_of : List Row → ℕ → ℕ
energy_of rows n = energy_under rows (envelope_rule rows) n

-- a rule that holds a state of least cost at each tick
abbrev pub FollowsLeast : List Row → (ℕ → ℕ) → Type 0
FollowsLeast rows rule = (n : ℕ) → 0 < n → Least rows n (rule n)

-- the sum of f over a list
abbrev pub total : {X : Type 0} → (X → ℕ) → List X → ℕ
total f [] = 0
total f (x ∷ xs) = f x + total f xs
