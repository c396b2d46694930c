use Rattle.std.proofs.Common.{◌≡◌, ℕ, ◌-◌, ◌<◌, List, length, Ok, Err, sym, ap, ◌∙◌, subst, arith}
use Rattle.std.proofs.lemmas.Result.{err_from_is_err_and}
use Rattle.states.specs.declared.row.Row.{Row}
use Rattle.states.specs.Table.{rows_of}
use Rattle.states.specs.Overtake.{Leads, DeepestFrom}
use Rattle.states.specs.Fit.{unfitness}
use Rattle.states.specs.declared.unfit.Unfit.TheVariants.{StateCount}
use Rattle.states.proofs.Rows.{length-rows_of}
use Rattle.states.proofs.Fitness.{too_many, fit_from_none, in_words}
use Rattle.states.proofs.fit_rows.FitRows.gather.Goals as goal

pub returns-then-deepest-gt-MAX_DEEPEST : goal.returns-then-deepest-gt-MAX_DEEPEST
returns-then-deepest-gt-MAX_DEEPEST g c =
    let t = g.T.StateTable.table c.args.table.now in
    let many : 16 < length (rows_of t) = omega (arith, length-rows_of t) in
    let refused = sym (too_many (rows_of t) many) in
    record { refusal = refused; value = tt; words = in_words {X = Unit {0}} (rows_of t) (Err StateCount) refused }

pub returns-in_err-fitness : goal.returns-in_err-fitness
returns-in_err-fitness g c =
    let t = g.T.StateTable.table c.args.table.now in
    let p = err_from_is_err_and c.from_residual.result c.from_residual.ensures.1 in
    let refused = c.in_err-fitness.ensures ∙ ap unfitness c.from_table-rows.ensures in
    rw (p.1, p.2) (record { refusal = refused; value = tt; words = in_words {X = Unit {0}} (rows_of t) (Err c.in_err-fitness.field-0.0) refused })

pub leads_from-deepest_from-requires : goal.leads_from-deepest_from-requires
leads_from-deepest_from-requires g c =
    let t = g.T.StateTable.table c.args.table.now in
    record {
      fit = rw c.rows.ensures.value (fit_from_none _ (sym c.in_ok-fitness.ensures));
      inside = omega (arith, ap length c.rows.ensures.value, ap length c.from_table-rows.ensures, length-rows_of t);
    }

-- where the last state leads, the deepest costs less than each other
last_leads : (rows held : List Row) (i r : ℕ) → rows ≡ held → i ≡ length held - 1 → 0 < r → Leads rows i i r → DeepestFrom held r
last_leads rows held i r same last some leads n j late below =
    (subst (λ k. Leads held k k r) last (subst (λ h. Leads h i i r) same leads) n (omega arith)).0 late j below

pub invariant_of-result : goal.invariant_of-result
invariant_of-result g c =
    let t = g.T.StateTable.table c.args.table.now in
    let last : c.deepest-2.result ≡ length c.from_table-rows.result - 1 = omega (arith, ap length c.from_table-rows.ensures, length-rows_of t) in
    record {
      fit = fit_from_none _ (sym c.in_ok-fitness.ensures);
      deepest = last_leads _ _ _ _ c.rows.ensures.value last c.leads_from-deepest_from.ensures.some c.leads_from-deepest_from.ensures.leads;
    }

pub returns : goal.returns
returns g c =
    let t = g.T.StateTable.table c.args.table.now in
    let fit = c.in_ok-fitness.ensures ∙ ap unfitness c.from_table-rows.ensures in
    record { refusal = fit; value = c.from_table-rows.ensures; words = in_words {X = Unit {0}} (rows_of t) (Ok tt) fit }
