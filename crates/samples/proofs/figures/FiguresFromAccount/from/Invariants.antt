use Rattle.std.proofs.Common.{◌≡◌, ℕ, ◌<◌, length, slice_index_or}
use Rattle.manager.specs.Tallying.{tally_of}
use Rattle.manager.specs.declared.account.Tally.{Tally}
use Rattle.samples.proofs.figures.FiguresFromAccount.from.Given as goal

-- there are sixteen states, and those so far are told
abbrev pub invariant-loop-state : goal.invariant-loop-state
invariant-loop-state l =
    (length l.states ≡ 16) × ((k : ℕ) (d : Tally) → k < l.state → slice_index_or l.states k d ≡ tally_of l.account.tallies k)
