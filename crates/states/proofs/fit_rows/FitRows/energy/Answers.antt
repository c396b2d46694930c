use Rattle.std.proofs.Common.{◌≡◌, ℕ, ◌+◌, ◌-◌, ◌*◌, ◌≤◌, List, [], ◌∷◌, ◌++◌, length, sym, ap, ◌∙◌, subst, length-append, arith, rules}
use Rattle.std.proofs.lemmas.List.{append-nil}
use Rattle.std.specs.Iterator.Adapters.{rev_source, enumerate_source}
use Rattle.std.specs.Slice.Iter.{iter_rest}
use Rattle.states.specs.declared.row.Row.{Row}
use Rattle.states.specs.Energy.{floor_of, energy_of}
use Rattle.states.specs.Laws.{WithinTwice}
use Rattle.states.proofs.Least.{rule_is}
use Rattle.states.proofs.Schedules.{within_twice}
use Rattle.states.proofs.Charged.{Charged, charged_none, charged_more, charged_bound, charged_all, front, front_row}
use Rattle.states.proofs.fit_rows.FitRows.energy.Goals as goal

pub returns-then-length-eq0 : goal.returns-then-length-eq0
returns-then-length-eq0 c =
    let rows = c.args.self.now.rows in
    let gap = c.args.length in
    let value : 0 ≡ energy_of rows gap = ap (energy_of rows) (sym c.if-length-eq0.true) in
    record { value = value; twice = subst (WithinTwice (floor_of rows gap)) (sym value) (within_twice rows c.args.self.now.fit gap) }

pub loop-state-init : goal.loop-state-init
loop-state-init c =
    let rows = c.args.self.now.rows in
    let left = c.from.ensures ∙ ap (λ (b : ℕ × ℕ). b.0) c.envelope-left.ensures.value ∙ sym (rule_is rows c.args.length) in
    let rest = rev_source c.into_iter-state-iterator.result in
    let all : rows ≡ iter_rest (enumerate_source rest) = search (rules, sym c.rows-rows.ensures.value) in
    let none = charged_none rows c.args.self.now.fit c.args.length c.rows-rows.result.now c.from-energy.result c.from.result c.rows-rows.ensures.value left c.from-energy.ensures in
    record { charged = subst (λ rs. Charged rows c.args.length c.args.length c.from-energy.result (length rs)) all none; counted = search rules; behind = []; split = all ∙ sym (append-nil _) }

pub ticks_held-ticks-requires : goal.ticks_held-ticks-requires
ticks_held-ticks-requires c =
    let rest = iter_rest (enumerate_source (rev_source c.next.new.self)) in
    let step = c.in-Some.ensures.steps.1 in
    λ k h b. omega (arith, step.1, c.loop-state.invariant.counted, ap length step.0, length-append rest (c.in-Some.row.now ∷ []), c.loop-state.invariant.charged.left k h b)

module _ (c : goal.After-from-in-loop-state-2) where
  abbrev rest : List Row
  rest = iter_rest (enumerate_source (rev_source c.next.new.self))

  numbered : c.in-Some.state ≡ length rest
  numbered = omega (arith, c.in-Some.ensures.steps.1.1, c.loop-state.invariant.counted)

  last : iter_rest (enumerate_source (rev_source c.loop-state.state-iterator)) ≡ rest ++ c.in-Some.row.now ∷ []
  last = c.in-Some.ensures.steps.1.0

  split : c.args.self.now.rows ≡ rest ++ (c.in-Some.row.now ∷ c.loop-state.invariant.behind)
  split = front _ _ rest _ c.in-Some.row.now c.loop-state.invariant.split last

  -- after this turn
  turn : Charged c.args.self.now.rows c.args.length (c.loop-state.until - c.ticks_held-ticks.result) (c.loop-state.energy + c.from-in-loop-state.result * c.from-in-loop-state-2.result) (length rest)
  turn =
      let row = front_row _ rest _ c.in-Some.row.now split in
      let power = c.from-in-loop-state.ensures ∙ ap (λ (r : Row). r.power) row.1 in
      let long : length (iter_rest (enumerate_source (rev_source c.loop-state.state-iterator))) ≡ length rest + 1 = omega (arith, ap length last, length-append rest (c.in-Some.row.now ∷ [])) in
      let charged = subst (Charged c.args.self.now.rows c.args.length c.loop-state.until c.loop-state.energy) long c.loop-state.invariant.charged in
      let before = rw numbered at c.ticks_held-ticks.ensures.before in
      let held = rw numbered at c.ticks_held-ticks.ensures.held in
      charged_more c.args.self.now.rows c.args.self.now.fit c.args.length _ _ _ _ _ _ charged row.0 c.ticks_held-ticks.ensures.within before held power c.from-in-loop-state-2.ensures

  bound : c.loop-state.energy + c.from-in-loop-state.result * c.from-in-loop-state-2.result ≤ 1000000 * c.args.length + 1000000000
  bound = charged_bound c.args.self.now.rows c.args.self.now.fit c.args.length _ _ _ turn

pub overflow_mul-energy : goal.overflow_mul-energy
overflow_mul-energy c = let b = bound c in search rules

pub overflow_add-energy : goal.overflow_add-energy
overflow_add-energy c = let b = bound c in search rules

pub loop-state-preserved : goal.loop-state-preserved
loop-state-preserved c =
    record { charged = turn c; counted = c.in-Some.ensures.steps.0 ∙ c.loop-state.invariant.counted; behind = c.in-Some.row.now ∷ c.loop-state.invariant.behind; split = split c }

pub returns : goal.returns
returns c =
    let rows = c.args.self.now.rows in
    let gap = c.args.length in
    let fit = c.args.self.now.fit in
    let value = charged_all rows fit gap c.loop-state.until c.loop-state.energy _ c.if-length-eq0.false c.loop-state.invariant.charged c.in-None.ensures.steps.1.0 in
    record { value = value; twice = subst (WithinTwice (floor_of rows gap)) (sym value) (within_twice rows fit gap) }
