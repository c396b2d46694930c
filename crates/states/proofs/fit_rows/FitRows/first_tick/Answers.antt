use Rattle.std.proofs.Common.{◌≡◌, ℕ, ◌≤◌, List, length, Some, None, Option, sym, ap, ◌∙◌, arith}
use Rattle.states.specs.declared.row.Row.{Row}
use Rattle.states.specs.Ticks.{IsNever, FirstTick, first_tick}
use Rattle.states.specs.Fit.{Fit}
use Rattle.states.proofs.Least.{rule_is, rule_envelope}
use Rattle.states.proofs.Shape.{shape}
use Rattle.states.proofs.Firsts.{first_tick_is_right, first_tick_one, first_at_lead, never_past_lead}
use Rattle.states.proofs.fit_rows.FitRows.first_tick.Goals as goal

-- an answer that is right is the one
right : (rows : List Row) → Fit rows → (i : ℕ) (a : Option ℕ) → FirstTick rows i a → a ≡ first_tick rows i
right rows fit i a h = first_tick_one rows i a (first_tick rows i) h (first_tick_is_right rows fit i)

-- a state beyond the deepest is never held
beyond : (rows : List Row) → Fit rows → (i : ℕ) → length rows ≤ i → IsNever rows i
beyond rows fit i h n l same = omega (arith, (rule_envelope rows n (shape rows fit).some).inside)

pub returns-then-from-rows : goal.returns-then-from-rows
returns-then-from-rows c =
    let rows = c.args.self.now.rows in
    let fit = c.args.self.now.fit in
    let never = beyond rows fit c.args.state (omega (arith, ap length c.rows.ensures.value)) in
    record { value = right rows fit c.args.state None never; right = never }

pub returns-then-held-state : goal.returns-then-held-state
returns-then-held-state c =
    let rows = c.args.self.now.rows in
    let fit = c.args.self.now.fit in
    let tick = c.leads_from-first.result in
    let held = rule_is rows tick ∙ ap (λ (b : ℕ × ℕ). b.0) (sym c.envelope-held.ensures.value) ∙ c.if-held-state.true in
    let leads = rw c.rows-2.ensures.value at c.leads_from-first.ensures.leads in
    let first = first_at_lead rows fit c.args.state tick c.leads_from-first.ensures.some leads held in
    record { value = right rows fit c.args.state (Some tick) first; right = first }

pub returns-else-held-state : goal.returns-else-held-state
returns-else-held-state c =
    let rows = c.args.self.now.rows in
    let fit = c.args.self.now.fit in
    let tick = c.leads_from-first.result in
    let held = rule_is rows tick ∙ ap (λ (b : ℕ × ℕ). b.0) (sym c.envelope-held.ensures.value) in
    let leads = rw c.rows-2.ensures.value at c.leads_from-first.ensures.leads in
    let never = never_past_lead rows fit c.args.state tick c.leads_from-first.ensures.some leads (λ same. c.if-held-state.false (sym held ∙ same)) in
    record { value = right rows fit c.args.state None never; right = never }
