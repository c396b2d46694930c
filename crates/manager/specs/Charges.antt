-- The account, and how each charge changes it.
use Rattle.std.specs.Prelude.{ℕ, ◌+◌, Bool, true, false, cond, ◌||◌}
use Rattle.manager.specs.declared.account.Account.{Account}
use Rattle.manager.specs.Tallying.{no_tallies, one_tick, one_wake, tallied}

-- the account at attach
abbrev pub empty : Account
empty = record { clean = 0; floor = 0; stuck = 0; busy = 0; pending = 0; length = 0; mark = false; ticks = 0; gaps = 0; tallies = no_tallies }

-- a busy tick: it holds state 0
abbrev pub busy_charge : Account → ℕ → Account
busy_charge a energy = record { clean = a.clean; floor = a.floor; stuck = a.stuck; busy = a.busy + energy; pending = a.pending; length = a.length; mark = a.mark; ticks = a.ticks + 1; gaps = a.gaps; tallies = tallied one_tick a.tallies 0 }

-- a tick of the open gap in state i, marked if a fault held its move up
abbrev pub open_charge : Account → ℕ → ℕ → Bool → Account
open_charge a i energy jammed = record { clean = a.clean; floor = a.floor; stuck = a.stuck; busy = a.busy; pending = a.pending + energy; length = a.length + 1; mark = a.mark || jammed; ticks = a.ticks + 1; gaps = a.gaps; tallies = tallied one_tick a.tallies i }

-- the gap closes with a wake-up from a state: its energy goes to clean or stuck, its floor is added only if clean
abbrev pub settle : Account → ℕ → ℕ → ℕ → Account
settle a from energy least = record {
  clean = a.clean + cond a.mark 0 energy;
  floor = a.floor + cond a.mark 0 least;
  stuck = a.stuck + cond a.mark energy 0;
  busy = a.busy;
  pending = 0;
  length = 0;
  mark = false;
  ticks = a.ticks;
  gaps = a.gaps + 1;
  tallies = tallied one_wake a.tallies from;
}

-- the open gap marked stuck
abbrev pub marked : Account → Account
marked a = record { clean = a.clean; floor = a.floor; stuck = a.stuck; busy = a.busy; pending = a.pending; length = a.length; mark = true; ticks = a.ticks; gaps = a.gaps; tallies = a.tallies }
