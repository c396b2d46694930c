-- The envelope state: the state of least cost, the shallowest where several are equal.
use Rattle.std.specs.Prelude.{◌≡◌, ℕ, suc, ◌<◌, ◌≤◌, min, cond, List, [], ◌∷◌, map, length, ◌==◌}
use Rattle.states.specs.declared.row.Row.{Row}
use Rattle.states.specs.Table.{cost, cost_at}

-- the least of some numbers; 0 of none
abbrev pub least : List ℕ → ℕ
least [] = 0
least (x ∷ []) = x
least (x ∷ y ∷ ys) = min x (least (y ∷ ys))

-- the first place at which x stands
abbrev pub place : ℕ → List ℕ → ℕ
place x [] = 0
place x (y ∷ ys) = cond (x == y) 0 (suc (place x ys))

-- the cost of each state at n
abbrev pub costs : List Row → ℕ → List ℕ
costs rows n = map (λ row. cost row n) rows

-- the least cost at n
abbrev pub least_cost : List Row → ℕ → ℕ
least_cost rows n = least (costs rows n)

-- the envelope state at n: the first place of the least cost
abbrev pub envelope_state : List Row → ℕ → ℕ
envelope_state rows n = place (least_cost rows n) (costs rows n)

-- the envelope state together with its cost
unfoldable pub envelope_of : List Row → ℕ → ℕ × ℕ
envelope_of rows n = (envelope_state rows n, least_cost rows n)

-- a state and a cost: it is a state of the table, at that cost, no state costs less, and each shallower one costs more
pub record Envelope (rows : List Row) (n : ℕ) (found : ℕ × ℕ) : Type 0 where
  pub inside : found.0 < length rows
  pub is : found.1 ≡ cost_at rows n found.0
  pub least : (k : ℕ) → k < length rows → found.1 ≤ cost_at rows n k
  pub shallowest : (k : ℕ) → k < found.0 → found.1 < cost_at rows n k

-- state s is in the table, and no state of the table costs less at n
abbrev pub Least : List Row → ℕ → ℕ → Type 0
Least rows n s = (s < length rows) × ((k : ℕ) → k < length rows → cost_at rows n s ≤ cost_at rows n k)
