use Rattle.std.proofs.Common.{◌≡◌, ℕ, ◌+◌, ◌<◌, List, map, length, get_or, drop, sym, ap, ◌∙◌}
use Rattle.std.proofs.lemmas.List.{at_drop_more, at_drop_all}
use Rattle.manager.specs.declared.account.Account.{Account}
use Rattle.manager.specs.declared.script.Step.{Step}
use Rattle.manager.specs.Rules.{Managed, shown, done}
use Rattle.manager.specs.Runs.{finally}
use Rattle.manager.specs.Meaning.{meaning}
use Rattle.manager.specs.Script.{call_of}
use Rattle.manager.proofs.script.account_after.Goals as goal

-- one call more
finally_more : (m n : Managed) (steps : List Step) (i : ℕ) (step : Step) → i < length steps → n ≡ (done m (call_of (get_or steps i step))).after → finally n (map call_of (drop (i + 1) steps)) ≡ finally m (map call_of (drop i steps))
finally_more m n steps i step h e =
    ap (λ (x : Managed). finally x (map call_of (drop (i + 1) steps))) e ∙ sym (at_drop_more (λ (ss : List Step). finally m (map call_of ss)) steps i step h)

shown_once : (a b : Account) → shown a ≡ shown b → a ≡ b
shown_once a b e = cc

pub loop-step-preserved : goal.loop-step-preserved
loop-step-preserved g c =
    finally_more (meaning (record { table = g.D.StateTable.table; status = g.D.Device.status }) c.loop-step.manager) _ c.args.steps.now c.loop-step.step-index _ c.loop-step-test.true c.take.ensures.after ∙ c.loop-step.invariant

pub returns : goal.returns
returns g c =
    let steps = c.args.steps.now in
    let m = meaning (record { table = g.D.StateTable.table; status = g.D.Device.status }) c.loop-step.manager in
    let led = sym (at_drop_all (λ (ss : List Step). finally m (map call_of ss)) steps c.loop-step.step-index c.loop-step-test.false) ∙ c.loop-step.invariant ∙ ap (λ (x : Managed). finally x (map call_of steps)) c.attach-manager.ensures in
    record {
      value = shown_once c.figures.result m.account c.figures.ensures.value ∙ ap (λ (x : Managed). x.account) led;
      laws = c.figures.ensures.laws c.args.number (g.D.StateTable.table c.args.device) (g.D.Device.status c.args.device) (map call_of steps) led;
    }
