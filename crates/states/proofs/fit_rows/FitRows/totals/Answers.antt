use Rattle.std.proofs.Common.{◌≡◌, ℕ, ◌+◌, ◌≤◌, List, length, drop, sym, subst, arith}
use Rattle.std.proofs.lemmas.List.{at_drop_all}
use Rattle.states.specs.Energy.{floor_of, energy_of, total}
use Rattle.states.specs.Laws.{BestPlan}
use Rattle.states.proofs.Gaps.{gaps_within_twice, best_plan}
use Rattle.states.proofs.fit_rows.FitRows.totals.Goals as goal

-- no gap left
total_all : (f : ℕ → ℕ) (gaps : List ℕ) (i sum : ℕ) → length gaps ≤ i → sum + total f (drop i gaps) ≡ total f gaps → sum ≡ total f gaps
total_all f gaps i sum h inv = omega (arith, at_drop_all (total f) gaps i h)

pub returns : goal.returns
returns c =
    let rows = c.args.self.now.rows in
    let gaps = c.args.gaps.now in
    let fit = c.args.self.now.fit in
    let energy = total_all (energy_of rows) gaps c.loop-gap.gap-index c.loop-gap.totals.energy c.loop-gap-test.false c.loop-gap.invariant.0 in
    let floor = total_all (floor_of rows) gaps c.loop-gap.gap-index c.loop-gap.totals.floor c.loop-gap-test.false c.loop-gap.invariant.1.0 in
    let twice = gaps_within_twice rows fit gaps in
    record {
      energy = energy;
      floor = floor;
      twice = (omega (arith, twice.0), omega (arith, twice.1));
      best = subst (BestPlan rows gaps) (sym floor) (best_plan rows fit gaps);
    }
