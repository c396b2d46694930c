use Rattle.std.proofs.Common.{◌≡◌, ℕ, suc, ◌+◌, ◌-◌, [], replicate, sym, ap, ◌∙◌, arith}
use Rattle.std.proofs.lemmas.Result.{err_from_is_err_and}
use Rattle.manager.specs.Rules as rules
use Rattle.manager.specs.Rules.{Managed, Answer, done}
use Rattle.manager.specs.Runs.{history, finally}
use Rattle.replay.specs.declared.said.Halt.{Halt}
use Rattle.replay.specs.Halts.{halt_number}
use Rattle.replay.specs.Runs.{voiced, heard, halt}
use Rattle.replay.specs.Shown.{stands, told}
use Rattle.manager.proofs.Keeps.{tick_terms, tick_still, ticks_still}
use Rattle.replay.proofs.Records.{still_leased}
use Rattle.replay.proofs.run.Run.ticks.Goals as goal

pub returns-in_err-tick : goal.returns-in_err-tick
returns-in_err-tick g c =
    let m = stands (record { table = g.D.StateTable.table; status = g.D.Device.status }) c.loop.self in
    let k = c.args.count - (c.loop.counter + 1) in
    let more : c.args.count - c.loop.counter ≡ suc k = omega arith in
    let p = err_from_is_err_and c.from_residual.result c.from_residual.ensures.1 in
    let no_more = c.in_err-tick.ensures.value in
    let went = c.tick.ensures.after in
    record {
      value =
          ap told p.1 ∙ ap (λ (h : Halt). halt (halt_number h)) p.2 ∙ ap (λ (a : Answer). voiced [] rules.tick a (heard [] (history (done m rules.tick).after (replicate k rules.tick)))) no_more
          ∙ ap (λ (n : ℕ). heard [] (history m (replicate n rules.tick))) (sym more) ∙ c.loop.invariant.0;
      after =
          went ∙ sym (ticks_still k m (done m rules.tick).after _ (sym no_more) (tick_still m _ (sym no_more)))
          ∙ ap (λ (n : ℕ). finally m (replicate n rules.tick)) (sym more) ∙ c.loop.invariant.1;
    }

pub loop-preserved : goal.loop-preserved
loop-preserved g c =
    let m = stands (record { table = g.D.StateTable.table; status = g.D.Device.status }) c.loop.self in
    let k = c.args.count - (c.loop.counter + 1) in
    let more : c.args.count - c.loop.counter ≡ suc k = omega arith in
    let went = c.tick.ensures.after in (
      ap (λ (n : Managed). heard [] (history n (replicate k rules.tick))) went
          ∙ ap (λ (a : Answer). voiced [] rules.tick a (heard [] (history (done m rules.tick).after (replicate k rules.tick)))) c.in_ok-tick.ensures.value
          ∙ ap (λ (n : ℕ). heard [] (history m (replicate n rules.tick))) (sym more) ∙ c.loop.invariant.0,
      ap (λ (n : Managed). finally n (replicate k rules.tick)) went
          ∙ ap (λ (n : ℕ). finally m (replicate n rules.tick)) (sym more) ∙ c.loop.invariant.1,
    )

pub invariant_of-self : goal.invariant_of-self
invariant_of-self g c = record { leased = still_leased (record { table = g.D.StateTable.table; status = g.D.Device.status }) c.loop.self.manager c.tick.new.self c.loop.self.lease _ c.loop.self.leased c.tick.ensures.after (tick_terms _) }
