use Rattle.std.proofs.Common.{◌≡◌, ℕ, ◌-◌, ◌<◌, ◌≤◌, List, length, get_or, sym, subst, ap, arith}
use Rattle.states.specs.declared.row.Row.{Row}
use Rattle.states.specs.Table.{no_row, cost}
use Rattle.states.specs.Overtake.{DeepestFrom}
use Rattle.states.specs.Envelope.{Envelope, envelope_of}
use Rattle.states.specs.Energy.{envelope_rule}
use Rattle.states.specs.Fit.{Fit}
use Rattle.states.proofs.Least.{envelope_is, envelope_one, rule_is}
use Rattle.states.proofs.Schedules.{never_shallower}
use Rattle.states.proofs.Search.{best_none, best_takes, best_keeps, best_all, deepest_found}
use Rattle.states.proofs.fit_rows.FitRows.envelope.Goals as goal
use Rattle.states.proofs.fit_rows.FitRows.envelope.Goals.{then-cost-least, else-cost-least}

pub loop-i-init : goal.loop-i-init
loop-i-init c = best_none c.rows-rows.result.now c.args.n c.cost_of-least.result (omega (arith, c.rows-rows.ensures.some)) c.cost_of-least.ensures

pub loop-i-preserved : goal.loop-i-preserved
loop-i-preserved c =
    let rows = c.rows-rows.result.now in
    elim c.if-cost-least.branch [
      | then-cost-least w ↦ rw (w.state-is, w.least-is) (best_takes rows c.args.n c.loop-i.i c.cost_of-cost.result c.loop-i.state c.loop-i.least c.loop-i.invariant c.loop-i-test.true c.cost_of-cost.ensures w.if-cost-least.true)
      | else-cost-least w ↦ rw (w.state-is, w.least-is) (best_keeps rows c.args.n c.loop-i.i c.cost_of-cost.result c.loop-i.state c.loop-i.least c.loop-i.invariant c.loop-i-test.true c.cost_of-cost.ensures w.if-cost-least.false)
    ]

-- what is found is the one answer
one : (rows : List Row) (n : ℕ) (found : ℕ × ℕ) → Envelope rows n found → found ≡ envelope_of rows n
one rows n found is = envelope_one rows n found (envelope_of rows n) is (envelope_is rows n (omega (arith, is.inside)))

-- it is never shallower than at an earlier tick
descent : (rows : List Row) (n : ℕ) (found : ℕ × ℕ) → Fit rows → found ≡ envelope_of rows n → (m : ℕ) → 0 < m → m ≤ n → envelope_rule rows m ≤ found.0
descent rows n found fit value m h l = omega (arith, never_shallower rows fit m n h l, rule_is rows n, ap (λ (b : ℕ × ℕ). b.0) value)

-- the last row, as the code reads it
last_found : (rows held : List Row) (n r c : ℕ) → rows ≡ held → 0 < length rows → DeepestFrom held r → r ≤ n → c ≡ cost (get_or rows (length rows - 1) no_row) n → Envelope held n (length rows - 1, c)
last_found rows held n r c same some leads late e =
    subst (λ h. Envelope h n (length rows - 1, c)) same (deepest_found rows n r c some (subst (λ h. DeepestFrom h r) (sym same) leads) late e)

pub returns-then-n-self : goal.returns-then-n-self
returns-then-n-self c =
    let rows = c.args.self.now.rows in
    let n = c.args.n in
    let found = last_found _ rows n _ c.cost_of.result c.rows-rows.ensures.value (omega (arith, c.rows-rows.ensures.some)) c.args.self.now.deepest c.if-n-self.true c.cost_of.ensures in
    record { value = one rows n _ found; least = found; descends = descent rows n _ c.args.self.now.fit (one rows n _ found); shape = never_shallower rows c.args.self.now.fit }

pub returns : goal.returns
returns c =
    let rows = c.args.self.now.rows in
    let n = c.args.n in
    let best = best_all c.rows-rows.result.now n c.loop-i.i c.loop-i.state c.loop-i.least c.loop-i.invariant c.loop-i-test.false in
    let found : Envelope rows n (c.loop-i.state, c.loop-i.least) = rw c.rows-rows.ensures.value at best in
    record { value = one rows n _ found; least = found; descends = descent rows n _ c.args.self.now.fit (one rows n _ found); shape = never_shallower rows c.args.self.now.fit }
