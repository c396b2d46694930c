-- An account told in plain numbers.
use Rattle.std.specs.Prelude.{◌≡◌, ℕ, ◌<◌, slice_index_or}
use Rattle.manager.specs.declared.account.Account.{Account}
use Rattle.manager.specs.declared.account.Tally.{Tally}
use Rattle.manager.specs.Tallying.{tally_of}
use Rattle.samples.specs.declared.figures.Figures.{Figures}

-- each number is that of the account
pub record IsTold (a : Account) (f : Figures) : Type 0 where
  pub clean : f.clean ≡ a.clean
  pub floor : f.floor ≡ a.floor
  pub stuck : f.stuck ≡ a.stuck
  pub busy : f.busy ≡ a.busy
  pub pending : f.pending ≡ a.pending
  pub length : f.length ≡ a.length
  pub mark : f.mark ≡ a.mark
  pub ticks : f.ticks ≡ a.ticks
  pub gaps : f.gaps ≡ a.gaps
  pub states : (k : ℕ) (d : Tally) → k < 16 → slice_index_or f.states k d ≡ tally_of a.tallies k
