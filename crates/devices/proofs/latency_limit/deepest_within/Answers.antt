use Rattle.std.proofs.Common.{ℕ, ◌+◌, ◌<◌, ◌≤◌, sym, subst, arith, rules}
use Rattle.std.proofs.lemmas.Iterator.{first_from_Range}
use Rattle.states.specs.Table.{at}
use Rattle.devices.specs.Limit.{ShownInWords}
use Rattle.devices.proofs.Quick.{first_slow, the_deepest}
use Rattle.devices.proofs.latency_limit.deepest_within.Goals as goal

pub returns : goal.returns
returns g c =
    let t = g.T.StateTable.table c.args.table.now in
    let limit = c.args.limit in
    let law : ShownInWords t limit c.unwrap_or.result =
    subst (ShownInWords t limit) (sym c.unwrap_or.ensures) (first_slow t limit c.deepest-deepest.result c.deepest-deepest.ensures c.find.result
    (first_from_Range _ _ _ _ (λ k. limit < (at t (k + 1)).latency) (λ k. (at t (k + 1)).latency ≤ limit) c.find.ensures.ran
    (λ x q k. grind (arith, rules))
    (λ x q k. (search rules, grind (arith, rules))))) in
    record { value = the_deepest t limit c.unwrap_or.result law; law = law }
