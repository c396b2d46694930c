use Rattle.std.proofs.Common.{ℕ, List, [], ◌∷◌, ◌++◌, sym, ap, ◌∙◌, subst, rules}
use Rattle.traces.specs.Reading.{Reading}
use Rattle.replay.specs.Lines as lines
use Rattle.replay.specs.Lines.{written}
use Rattle.replay.specs.Runs.{Starts, lines_for}
use Rattle.replay.proofs.Starting.{starts}
use Rattle.replay.proofs.Totals.{lawful}
use Rattle.replay.proofs.report.Goals as goal

pub returns-in_err-work_trace-in-Ok : goal.returns-in_err-work_trace-in-Ok
returns-in_err-work_trace-in-Ok c = record { value = search rules; laws = lawful c.args.trace.now }

pub returns-in_err-push_stop-in-Err : goal.returns-in_err-push_stop-in-Err
returns-in_err-push_stop-in-Err c = record { value = search rules; laws = lawful c.args.trace.now }

pub work_trace-requires : goal.work_trace-requires
work_trace-requires c = subst (λ (r : Reading). Starts r.records) (sym c.in-Ok.ensures) (starts c.args.trace.now)

pub returns-in_ok-work_trace-in-Ok : goal.returns-in_ok-work_trace-in-Ok
returns-in_ok-work_trace-in-Ok c =
    record {
      value =
          c.in_ok-work_trace-in-Ok.ensures
          ∙ ap (λ (s : List ℕ). s ++ written (lines_for c.in-Ok.reader)) c.new-in-Ok.ensures.bytes
          ∙ ap (λ (r : Reading). written (lines_for r)) c.in-Ok.ensures;
      laws = lawful c.args.trace.now;
    }

pub returns-in_ok-push_stop-in-Err : goal.returns-in_ok-push_stop-in-Err
unfolding lines_for
returns-in_ok-push_stop-in-Err c =
    let place = c.in-Err.refusal.place in
    record {
      value =
          c.in_ok-push_stop-in-Err.ensures
          ∙ ap (λ (s : List ℕ). s ++ written (lines.stop place c.number.result ∷ [])) c.new-text.ensures.bytes
          ∙ ap (λ (k : ℕ). written (lines.stop place k ∷ [])) c.number.ensures
          ∙ ap (λ (r : Reading). written (lines_for r)) (sym c.in-Err.ensures);
      laws = lawful c.args.trace.now;
    }
