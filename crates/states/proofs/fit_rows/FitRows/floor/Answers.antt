use Rattle.std.proofs.Common.{◌≡◌, ℕ, sym, ap, ◌∙◌, subst, arith}
use Rattle.states.specs.Energy.{floor_of}
use Rattle.states.specs.Laws.{BestSchedule}
use Rattle.states.proofs.Shape.{shape}
use Rattle.states.proofs.Bound.{floor_none, floor_some, least_within_twice}
use Rattle.states.proofs.Schedules.{best_schedule, descents_above_floor, floor_low}
use Rattle.states.proofs.fit_rows.FitRows.floor.Goals as goal

pub returns-then-length-eq0 : goal.returns-then-length-eq0
returns-then-length-eq0 c =
    let rows = c.args.self.now.rows in
    let fit = c.args.self.now.fit in
    let gap = c.args.length in
    let value : 0 ≡ floor_of rows gap = sym (ap (floor_of rows) c.if-length-eq0.true ∙ floor_none rows) in
    record { value = value; best = subst (BestSchedule rows gap) (sym value) (best_schedule rows fit gap); twice = least_within_twice rows (shape rows fit).some gap; above = descents_above_floor rows fit gap; low = omega (arith, value, floor_low rows fit gap) }

pub returns : goal.returns
returns c =
    let rows = c.args.self.now.rows in
    let fit = c.args.self.now.fit in
    let gap = c.args.length in
    let value = ap (λ (b : ℕ × ℕ). b.1) c.envelope-least.ensures.value ∙ floor_some rows gap c.if-length-eq0.false in
    record { value = value; best = subst (BestSchedule rows gap) (sym value) (best_schedule rows fit gap); twice = least_within_twice rows (shape rows fit).some gap; above = descents_above_floor rows fit gap; low = omega (arith, value, floor_low rows fit gap) }
