use Rattle.std.proofs.Common.{sym, ap, ◌∙◌}
use Rattle.states.specs.Fit.{unfitness}
use Rattle.states.proofs.Fitness.{too_few, not_within, not_ordered, not_refused}
use Rattle.states.proofs.gathered.Gathered.fitness.Goals as goal

pub returns-then-rows-lt-MIN_STATES : goal.returns-then-rows-lt-MIN_STATES
returns-then-rows-lt-MIN_STATES c =
    sym (too_few c.rows-rows.result.now c.if-rows-lt-MIN_STATES.true) ∙ ap unfitness c.rows-rows.ensures.value

pub returns-then-not-all_within : goal.returns-then-not-all_within
returns-then-not-all_within c =
    sym (not_within c.rows-rows.result.now c.if-rows-lt-MIN_STATES.false c.rows-rows.ensures.few (sym c.if-not-all_within.ensures))
    ∙ ap unfitness c.rows-rows.ensures.value

pub returns-then-not-is_ordered : goal.returns-then-not-is_ordered
returns-then-not-is_ordered c =
    sym (not_ordered c.rows-rows.result.now c.if-rows-lt-MIN_STATES.false c.rows-rows.ensures.few (sym c.if-not-all_within.ensures) (sym c.if-not-is_ordered.ensures))
    ∙ ap unfitness c.rows-rows.ensures.value

pub returns : goal.returns
returns c =
    sym (not_refused c.rows-rows.result.now c.if-rows-lt-MIN_STATES.false c.rows-rows.ensures.few (sym c.if-not-all_within.ensures) (sym c.if-not-is_ordered.ensures))
    ∙ ap unfitness c.rows-rows.ensures.value
