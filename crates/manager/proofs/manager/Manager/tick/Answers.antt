use Rattle.std.proofs.Common.{◌≡◌, ℕ, ◌+◌, sym, ap, ◌∙◌, arith}
use Rattle.states.specs.Energy.{envelope_rule}
use Rattle.states.proofs.Least.{rule_is}
use Rattle.manager.specs.declared.account.Account.{Account}
use Rattle.manager.specs.Rules.{Outcome, aim}
use Rattle.manager.specs.Meaning.{condition_of, rows_in, meaning}
use Rattle.manager.proofs.Ways.{idle_goes, busy_goes}
use Rattle.manager.proofs.Keeps.{tick_keeps}
use Rattle.manager.proofs.manager.Manager.tick.Goals as goal

pub returns-in-Idle-2 : goal.returns-in-Idle-2
returns-in-Idle-2 g c =
    let m = meaning (record { table = g.D.StateTable.table; status = g.D.Device.status }) c.args.self.now in
    let rows = c.in-Idle-2.rows.rows in
    let n = c.account-before.result.length + 1 in
    let state : c.envelope-state.result.0 ≡ envelope_rule rows n = ap (λ (b : ℕ × ℕ). b.0) c.envelope-state.ensures.value ∙ sym (rule_is rows n) in
    let aimed : envelope_rule rows n ≡ aim m = ap (λ (a : Account). envelope_rule rows (a.length + 1)) c.account-before.ensures ∙ ap (λ st. envelope_rule (rows_in st) (m.account.length + 1)) (sym c.in-Idle-2.is) in
    let way = idle_goes m (ap condition_of c.in-Idle-2.is) (omega (arith, ap (λ (a : Account). a.ticks) c.account-before.ensures)) c.envelope-state.result.0 (state ∙ aimed) in
    let after = c.idle_tick.ensures.after ∙ ap (λ (o : Outcome). o.after) (sym way) in
    record { value = c.idle_tick.ensures.value ∙ ap (λ (o : Outcome). o.answer) (sym way); after = after; keeps = tick_keeps m _ after }

pub returns-in-Busy-2 : goal.returns-in-Busy-2
returns-in-Busy-2 g c =
    let m = meaning (record { table = g.D.StateTable.table; status = g.D.Device.status }) c.args.self.now in
    let way = busy_goes m (ap condition_of c.in-Busy-2.is) (omega (arith, ap (λ (a : Account). a.ticks) c.account-before.ensures)) in
    let after = c.busy_tick.ensures.after ∙ ap (λ (o : Outcome). o.after) (sym way) in
    record { value = c.busy_tick.ensures.value ∙ ap (λ (o : Outcome). o.answer) (sym way); after = after; keeps = tick_keeps m _ after }
