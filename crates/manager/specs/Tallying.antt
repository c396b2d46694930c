-- For each state the ticks held in it and the wakes from it.
use Rattle.std.specs.Prelude.{ℕ, ◌+◌, ◌≤◌, cond, get_or, replicate, nat_lt, slice_index_or, slice_set}
use Rattle.manager.specs.declared.account.Tally.{Tally}
use Rattle.manager.specs.declared.account.Tallies.{Tallies}

-- nothing counted of a state
abbrev pub no_tally : Tally
no_tally = record { ticks = 0; wakes = 0 }

-- nothing counted of sixteen states
abbrev pub no_tallies : Tallies
no_tallies = record { each = replicate 16 no_tally }

-- the tally of a state
abbrev pub tally_of : Tallies → ℕ → Tally
tally_of x i = cond (nat_lt i 16) (slice_index_or x.each i no_tally) no_tally

-- one tick more
abbrev pub one_tick : Tally → Tally
one_tick t = record { ticks = t.ticks + 1; wakes = t.wakes }

-- one wake more
abbrev pub one_wake : Tally → Tally
one_wake t = record { ticks = t.ticks; wakes = t.wakes + 1 }

-- the tally of state i changed; sixteen states are counted
abbrev pub tallied : (Tally → Tally) → Tallies → ℕ → Tallies
tallied more x i = cond (nat_lt i 16) (record { each = slice_set x.each i (more (slice_index_or x.each i no_tally)) }) x

-- no state has more ticks or more wakes
abbrev pub Within : Tallies → ℕ → ℕ → Type 0
Within x ticks wakes = ((k : ℕ) → (get_or x.each k no_tally).ticks ≤ ticks) × ((k : ℕ) → (get_or x.each k no_tally).wakes ≤ wakes)
