use Rattle.std.proofs.Common.{◌≡◌, ℕ, [], ◌∷◌, ◌++◌, string_bytes, sym, ap, ◌∙◌}
use Rattle.traces.specs.Layout.{Item, item}
use Rattle.traces.specs.Reading.{Reading, whole, stop}
use Rattle.replay.specs.Lines as lines
use Rattle.replay.specs.Lines.{written}
use Rattle.replay.specs.Runs.{run_on}
use Rattle.replay.specs.Shown.{stands}
use Rattle.replay.proofs.Loops.{made_both, step_text, end_text}
use Rattle.replay.proofs.run.Run.advance.Goals as goal

pub returns-in-Ok-Some-clause-value : goal.returns-in-Ok-Some-clause-value
returns-in-Ok-Some-clause-value g c =
    let m = stands (record { table = g.D.StateTable.table; status = g.D.Device.status }) c.args.self.now in
    let n = stands (record { table = g.D.StateTable.table; status = g.D.Device.status }) c.step.new.self in
    let x : ℕ × Item = (c.in-Ok-Some.next.offset, item c.in-Ok-Some.next.event) in
    let is = rw c.in-Ok-Some.field-0-is at c.in-Ok-Some.ensures.value in
    made_both c.step.result _ _ _
    (λ on goes said. step_text m n x c.next.new.self on (string_bytes c.args.report.now.text) (string_bytes c.step.new.out) c.step.ensures.after goes said
    ∙ ap (λ (r : Reading). string_bytes c.args.report.now.text ++ written (run_on m r)) (sym is))
    c.step.ensures.goes c.step.ensures.value

pub returns-in_ok-close-in-Ok-None-clause-value : goal.returns-in_ok-close-in-Ok-None-clause-value
returns-in_ok-close-in-Ok-None-clause-value g c =
    let m = stands (record { table = g.D.StateTable.table; status = g.D.Device.status }) c.args.self.now in
    let is = rw c.in-Ok-None.field-0-is at c.in-Ok-None.ensures.value in
    end_text m c.args.report.now.reader whole (string_bytes c.args.report.now.text) (string_bytes c.close.new.out) [] is c.in_ok-close-in-Ok-None.ensures

pub returns-in_ok-push_stop-in-Err-clause-value : goal.returns-in_ok-push_stop-in-Err-clause-value
returns-in_ok-push_stop-in-Err-clause-value g c =
    let m = stands (record { table = g.D.StateTable.table; status = g.D.Device.status }) c.args.self.now in
    let before = string_bytes c.args.report.now.text in
    end_text m c.args.report.now.reader (stop c.in-Err.refusal) before (string_bytes c.push_stop.new.out) [] c.in-Err.ensures.value (c.in_ok-push_stop-in-Err.ensures ∙ ap (λ (k : ℕ). before ++ written (lines.stop c.in-Err.refusal.place k ∷ [])) c.number.ensures)
