use Rattle.std.proofs.Common.{◌≡◌, ℕ, Bool, true, false, cond, List, [], ◌++◌, string_bytes, sym, ap, ◌∙◌, append_assoc, append-nil}
use Rattle.traces.specs.Layout.{Item, item}
use Rattle.replay.specs.Lines.{device, text, written}
use Rattle.replay.specs.Runs.{run_on}
use Rattle.replay.specs.Shown.{stands}
use Rattle.replay.proofs.Loops.{step_text}
use Rattle.replay.proofs.run.Run.follow.Goals as goal

-- the line of the device stands in front
headed : (before after : List ℕ) (n number : ℕ) (rest : List ℕ) → after ≡ before ++ text (device n) → n ≡ number → after ++ rest ≡ before ++ (text (device number) ++ rest)
headed before after n number rest said is = ap (λ (s : List ℕ). s ++ rest) said ∙ append_assoc before (text (device n)) rest ∙ ap (λ (k : ℕ). before ++ (text (device k) ++ rest)) is

pub returns-else-branch-2 : goal.returns-else-branch-2
returns-else-branch-2 g c =
    let m = stands (record { table = g.D.StateTable.table; status = g.D.Device.status }) c.args.self.now in
    let n = stands (record { table = g.D.StateTable.table; status = g.D.Device.status }) c.step.new.self in
    let x : ℕ × Item = (c.args.first.offset, item c.args.first.event) in
    let one = c.in_ok-step.ensures in
    let all = c.in_ok-advance.ensures.value in
    sym (append-nil (string_bytes c.advance.new.report.text))
    ∙ ap (λ (on : Bool). string_bytes c.advance.new.report.text ++ cond on (written (run_on (stands (record { table = g.D.StateTable.table; status = g.D.Device.status }) c.advance.new.self) c.advance.new.report.reader)) []) (sym c.if-branch-2.false)
    ∙ all ∙ c.loop.invariant
    ∙ step_text m n x c.args.report.now.reader true (string_bytes c.push_device.new.out) (string_bytes c.step.new.out) one.after (sym c.if-branch.true ∙ one.goes) one.value
    ∙ headed (string_bytes c.args.report.now.text) (string_bytes c.push_device.new.out) _ _ _ c.in_ok-push_device.ensures c.number.ensures

pub returns-else-branch : goal.returns-else-branch
returns-else-branch g c =
    let m = stands (record { table = g.D.StateTable.table; status = g.D.Device.status }) c.args.self.now in
    let n = stands (record { table = g.D.StateTable.table; status = g.D.Device.status }) c.step.new.self in
    let x : ℕ × Item = (c.args.first.offset, item c.args.first.event) in
    let one = c.in_ok-step.ensures in
    sym (append-nil (string_bytes c.step.new.out))
    ∙ step_text m n x c.args.report.now.reader false (string_bytes c.push_device.new.out) (string_bytes c.step.new.out) one.after (sym c.if-branch.false ∙ one.goes) one.value
    ∙ headed (string_bytes c.args.report.now.text) (string_bytes c.push_device.new.out) _ _ _ c.in_ok-push_device.ensures c.number.ensures
