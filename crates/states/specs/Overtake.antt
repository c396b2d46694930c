-- When a deeper state begins to cost less than a shallower one, and which ticks it is then held.
use Rattle.std.specs.Prelude.{◌≡◌, ℕ, ◌-◌, ◌<◌, ◌≤◌, List, length}
use Rattle.states.specs.declared.row.Row.{Row}
use Rattle.states.specs.Table.{cost, cost_at}
use Rattle.states.specs.Energy.{envelope_rule}

-- from tick r on, and not before, the deeper state costs less
abbrev pub Overtakes : Row → Row → ℕ → Type 0
Overtakes deeper above r = (n : ℕ) → (r ≤ n → cost deeper n < cost above n) × (cost deeper n < cost above n → r ≤ n)

-- state i costs less at n than each of the first m states
abbrev pub Cheaper : List Row → ℕ → ℕ → ℕ → Type 0
Cheaper rows i m n = (j : ℕ) → j < m → cost_at rows n i < cost_at rows n j

-- it does so from tick r on, and not before
abbrev pub Leads : List Row → ℕ → ℕ → ℕ → Type 0
Leads rows i m r = (n : ℕ) → 0 < n → (r ≤ n → Cheaper rows i m n) × (Cheaper rows i m n → r ≤ n)

-- from tick r on the deepest state costs less than each other
abbrev pub DeepestFrom : List Row → ℕ → Type 0
DeepestFrom rows r = (n j : ℕ) → r ≤ n → j < length rows - 1 → cost_at rows n (length rows - 1) < cost_at rows n j

-- none of the first n ticks has a state as deep as s
abbrev pub NotDeeper : List Row → ℕ → ℕ → Type 0
NotDeeper rows s n = (k : ℕ) → 0 < k → k ≤ n → envelope_rule rows k < s

-- each tick after m, up to n, has state s
abbrev pub HeldBetween : List Row → ℕ → ℕ → ℕ → Type 0
HeldBetween rows s m n = (k : ℕ) → m < k → k ≤ n → envelope_rule rows k ≡ s
