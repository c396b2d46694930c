use Rattle.std.proofs.Common.{◌≡◌, ◌+◌, ap, ◌∙◌, arith}
use Rattle.states.proofs.Rows.{places, places_more, places_filled, places_rows}
use Rattle.states.proofs.gathered.Gathered.from_table.Goals as goal

pub loop-state-preserved : goal.loop-state-preserved
loop-state-preserved g c = places_more (g.T.StateTable.table c.args.table.now) _ _ c.loop-state.state (omega arith) c.loop-state.invariant c.row.ensures

pub invariant_of-result : goal.invariant_of-result
invariant_of-result g c =
    let t = g.T.StateTable.table c.args.table.now in
    let all : c.loop-state.state ≡ c.from-count.result + 1 = omega arith in
    places_filled t _ _ (omega arith) (c.loop-state.invariant ∙ ap (places t) all)

pub returns : goal.returns
returns g c =
    let t = g.T.StateTable.table c.args.table.now in
    let all : c.loop-state.state ≡ c.from-count.result + 1 = omega arith in
    places_rows t _ _ (omega arith) (c.loop-state.invariant ∙ ap (places t) all) (omega arith)
