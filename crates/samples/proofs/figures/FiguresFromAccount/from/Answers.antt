use Rattle.std.proofs.Common.{arith, rules}
use Rattle.manager.specs.Tallying.{tally_of}
use Rattle.samples.proofs.FiguresLemmas.{get_or-set_next}
use Rattle.samples.proofs.figures.FiguresFromAccount.from.Goals as goal

pub loop-state-preserved : goal.loop-state-preserved
loop-state-preserved c = (
  search rules,
  λ k d low.
      let all = get_or-set_next (λ j. tally_of c.args.account.tallies j) c.loop-state.states c.loop-state.state k d (omega (arith, c.loop-state.invariant.0, c.loop-state-test.true)) c.loop-state.invariant.1 low in
      rw (c.from.ensures, c.of.ensures) all,
)
