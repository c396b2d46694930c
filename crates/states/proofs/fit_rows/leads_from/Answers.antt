use Rattle.std.proofs.Common.{◌≡◌, ℕ, ◌<◌, ◌≤◌, max, List, length, get_or, take, subst, arith, rules}
use Rattle.std.proofs.lemmas.List.{length-take-le, get_or-take}
use Rattle.states.specs.declared.row.Row.{Row}
use Rattle.states.specs.Table.{no_row}
use Rattle.states.specs.Fit.{Fit}
use Rattle.states.specs.Overtake.{Overtakes, Leads}
use Rattle.states.proofs.Rows.{row_at-get_or}
use Rattle.states.proofs.Shape.{shape}
use Rattle.states.proofs.Overtaking.{leads_more}
use Rattle.states.proofs.fit_rows.leads_from.Goals as goal

-- two rows of a fit table, as the code reads them
two_rows : (rows : List Row) → Fit rows → (above deeper : ℕ) → above < deeper → deeper < length rows →
    ((get_or rows deeper no_row).power < (get_or rows above no_row).power)
    × (((get_or rows above no_row).wake ≤ (get_or rows deeper no_row).wake) × ((get_or rows deeper no_row).wake ≤ 1000000000))
two_rows rows fit above deeper h l =
    let s = shape rows fit in
    let a = row_at-get_or rows above (omega arith) in
    let d = row_at-get_or rows deeper l in
    (rw (← a, ← d) (s.falls above deeper h l), (rw (← a, ← d) (s.rises above deeper (omega arith)), rw (← d) (s.low_wake deeper l)))

-- the shallower row, as the loop reads it
shallower : (rows : List Row) (state deeper k : ℕ) → deeper ≡ state → state < length rows → k < length (take deeper rows) → (k < state) × (get_or (take deeper rows) k no_row ≡ get_or rows k no_row)
shallower rows state deeper k is inside h =
    let below : k < deeper = omega (arith, length-take-le deeper rows (omega arith)) in
    (omega arith, get_or-take deeper rows k no_row below)

pub overtakes-requires : goal.overtakes-requires
overtakes-requires c =
    let rows = c.args.rows.now in
    let deeper = c.from-deeper.result in
    let k = c.loop-above.above-index in
    let above = shallower rows c.args.state deeper k c.from-deeper.ensures c.requires.inside c.loop-above-test.true in
    let two = two_rows rows c.requires.fit k deeper (omega (arith, above.0)) (omega (arith, c.requires.inside)) in
    rw above.1 (record { draws_less = two.0; wakes_no_cheaper = two.1.0; low_wake = two.1.1 })

-- the tick that was found, for the rows of the table
overtaking : (rows : List Row) (state deeper k r : ℕ) → deeper ≡ state → get_or (take deeper rows) k no_row ≡ get_or rows k no_row → Overtakes (get_or rows deeper no_row) (get_or (take deeper rows) k no_row) r → Overtakes (get_or rows state no_row) (get_or rows k no_row) r
overtaking rows state deeper k r is above o = subst (λ d. Overtakes (get_or rows d no_row) (get_or rows k no_row) r) is (subst (λ a. Overtakes (get_or rows deeper no_row) a r) above o)

pub loop-above-preserved : goal.loop-above-preserved
loop-above-preserved c =
    let rows = c.args.rows.now in
    let k = c.loop-above.above-index in
    let above = shallower rows c.args.state c.from-deeper.result k c.from-deeper.ensures c.requires.inside c.loop-above-test.true in
    let larger : c.max-tick.result ≡ max c.loop-above.tick c.overtakes.result = search rules in
    let tick = overtaking rows _ _ k _ c.from-deeper.ensures above.1 c.overtakes.ensures.tick in
    (leads_more rows c.args.state k c.requires.inside (omega (arith, above.0)) c.loop-above.tick c.overtakes.result c.max-tick.result c.loop-above.invariant.0 tick larger, omega arith)

pub returns : goal.returns
returns c =
    let all : c.loop-above.above-index ≡ c.args.state = omega (arith, length-take-le c.from-deeper.result c.args.rows.now (omega (arith, c.requires.inside))) in
    record { leads = subst (λ m. Leads c.args.rows.now c.args.state m c.loop-above.tick) all c.loop-above.invariant.0; some = c.loop-above.invariant.1 }
