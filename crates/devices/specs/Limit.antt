-- The latency limit: a device whose slow states, and all deeper than one, are hidden.
use Rattle.std.specs.Prelude.{◌≡◌, ℕ, zero, suc, ◌+◌, ◌<◌, ◌≤◌, Bool, true, cond, ◌&&◌, ◌⊎◌, map, nat_le}
use Rattle.states.specs.Table.{Table, at}
use Rattle.devices.specs.Meaning.{Status, layered}

-- whether each of the states 1 to i has a latency within the limit
unfoldable pub all_quick : Table → ℕ → ℕ → Bool
all_quick t limit zero = true
all_quick t limit (suc i) = all_quick t limit i && nat_le (at t (suc i)).latency limit

-- the largest i up to n such that the states 1 to i are all quick
unfoldable pub largest_quick : Table → ℕ → ℕ → ℕ
largest_quick t limit zero = 0
largest_quick t limit (suc n) = cond (all_quick t limit (suc n)) (suc n) (largest_quick t limit n)

-- the deepest state that a limit shows
abbrev pub shown_deepest : Table → ℕ → ℕ
shown_deepest t limit = largest_quick t limit t.deepest

-- in words: the states 1 to d are quick, and d is the deepest of all or the next is slow
pub record ShownInWords (t : Table) (limit d : ℕ) : Type 0 where
  pub within : d ≤ t.deepest
  pub quick : (i : ℕ) → 1 ≤ i → i ≤ d → (at t i).latency ≤ limit
  pub last : (d ≡ t.deepest) ⊎ (limit < (at t (d + 1)).latency)

-- the table up to the deepest state that is shown
abbrev pub limited_table : Table → ℕ → Table
limited_table t limit = record { deepest = shown_deepest t limit; row = at t }

-- all is passed through, the parts a layer further down; settled if the lower device is, in a state that is not hidden
abbrev pub limited_status : Table → Status → ℕ → Status
limited_status t s limit = record {
  state = s.state;
  held = s.held;
  parts = map layered s.parts;
  settled = s.settled && nat_le s.state (shown_deepest t limit);
}
