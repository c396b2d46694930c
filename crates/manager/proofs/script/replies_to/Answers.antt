use Rattle.std.proofs.Common.{◌≡◌, ℕ, ◌+◌, ◌<◌, List, [], ◌∷◌, ◌++◌, map, length, get_or, drop, vec_items, Result, sym, ap, ◌∙◌, append_assoc, append-nil}
use Rattle.std.proofs.lemmas.List.{at_drop_more, at_drop_all, map_push}
use Rattle.manager.specs.declared.script.Step.{Step}
use Rattle.manager.specs.declared.script.Reply.{Reply}
use Rattle.manager.specs.declared.refusal.Refusal.{Refusal}
use Rattle.manager.specs.Rules.{Managed, Answer, done}
use Rattle.manager.specs.Runs.{answers}
use Rattle.manager.specs.Meaning.{meaning}
use Rattle.manager.specs.Script.{call_of, answer_of}
use Rattle.manager.proofs.script.replies_to.Goals as goal

-- one reply more, and one call fewer that is still to be answered
replied : (m n : Managed) (steps : List Step) (i : ℕ) (step : Step) (old new : List (Result Reply Refusal)) (r : Result Reply Refusal) → i < length steps →
    new ≡ old ++ r ∷ [] → answer_of r ≡ (done m (call_of (get_or steps i step))).answer → n ≡ (done m (call_of (get_or steps i step))).after →
    map answer_of new ++ answers n (map call_of (drop (i + 1) steps)) ≡ map answer_of old ++ answers m (map call_of (drop i steps))
replied m n steps i step old new r h more said e =
    let call = call_of (get_or steps i step) in
    let rest = map call_of (drop (i + 1) steps) in
    let next : answers m (map call_of (drop i steps)) ≡ (done m call).answer ∷ answers (done m call).after rest = at_drop_more (λ (ss : List Step). answers m (map call_of ss)) steps i step h in
    ap (λ (rs : List (Result Reply Refusal)). map answer_of rs ++ answers n rest) more
    ∙ ap (λ (xs : List Answer). xs ++ answers n rest) (map_push answer_of old r)
    ∙ append_assoc (map answer_of old) (answer_of r ∷ []) (answers n rest)
    ∙ ap (λ (a : Answer). map answer_of old ++ a ∷ answers n rest) said
    ∙ ap (λ (k : Managed). map answer_of old ++ (done m call).answer ∷ answers k rest) e
    ∙ ap (λ (xs : List Answer). map answer_of old ++ xs) (sym next)

pub loop-step-preserved : goal.loop-step-preserved
loop-step-preserved g c =
    replied (meaning (record { table = g.D.StateTable.table; status = g.D.Device.status }) c.loop-step.manager) _ c.args.steps.now c.loop-step.step-index _ (vec_items c.loop-step.replies) _ c.take.result c.loop-step-test.true
    c.in_ok-push.ensures.items c.take.ensures.value c.take.ensures.after
    ∙ c.loop-step.invariant

pub returns : goal.returns
returns g c =
    let steps = c.args.steps.now in
    let m = meaning (record { table = g.D.StateTable.table; status = g.D.Device.status }) c.loop-step.manager in
    let said = map answer_of (vec_items c.loop-step.replies) in
    sym (append-nil said)
    ∙ sym (at_drop_all (λ (ss : List Step). said ++ answers m (map call_of ss)) steps c.loop-step.step-index c.loop-step-test.false)
    ∙ c.loop-step.invariant
    ∙ ap (λ (x : Managed). answers x (map call_of steps)) c.attach-manager.ensures
