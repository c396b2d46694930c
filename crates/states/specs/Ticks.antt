-- The first tick of a state: the least tick at which it is the envelope state.
use Rattle.std.specs.Prelude.{◌≡◌, ℕ, zero, suc, ◌-◌, ◌<◌, cond, List, length, Some, None, Option, MatchOption, ◌==◌, ◌≢◌}
use Rattle.states.specs.declared.row.Row.{Row}
use Rattle.states.specs.Table.{wake_at}
use Rattle.states.specs.Energy.{envelope_rule}

-- n is the first tick at which state i is the envelope state
abbrev pub IsFirst : List Row → ℕ → ℕ → Type 0
IsFirst rows i n = (0 < n) × (envelope_rule rows n ≡ i) × ((k : ℕ) → 0 < k → k < n → envelope_rule rows k ≢ i)

-- state i is never the envelope state
abbrev pub IsNever : List Row → ℕ → Type 0
IsNever rows i = (n : ℕ) → 0 < n → envelope_rule rows n ≢ i

-- an answer to "when first?"
abbrev pub FirstTick : List Row → ℕ → Option ℕ → Type 0
FirstTick rows i answer = MatchOption answer (IsNever rows i) (IsFirst rows i)

-- the first of so many ticks from n on at which state i is the envelope state
abbrev pub first_from : List Row → ℕ → ℕ → ℕ → Option ℕ
first_from rows i n zero = None
first_from rows i n (suc more) = cond (envelope_rule rows n == i) (Some n) (first_from rows i (suc n) more)

-- the answer: one tick more than the deepest state's wake energy, and the envelope has come to that state for good
unfoldable pub first_tick : List Row → ℕ → Option ℕ
first_tick rows i = first_from rows i 1 (suc (wake_at rows (length rows - 1)))
