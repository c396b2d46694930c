-- The calls of a list and their answers, by plain values.
use Rattle.std.specs.Prelude.{Ok, Err, Result}
use Rattle.manager.specs.declared.script.Step.{Step}
use Rattle.manager.specs.declared.script.Step.TheVariants as step
use Rattle.manager.specs.declared.script.Reply.{Reply}
use Rattle.manager.specs.declared.script.Reply.TheVariants as reply
use Rattle.manager.specs.declared.refusal.Refusal.{Refusal}
use Rattle.manager.specs.Rules.{Call, tick, request, release, report, figures, Answer, refused, released, reportedly, shown}
use Rattle.manager.specs.Told.{told}
use Rattle.manager.specs.Meaning.{told_ticked, told_closed}

-- the call that a step stands for
abbrev pub call_of : Step → Call
call_of step.Tick = tick
call_of step.Request = request
call_of (step.Release manager count) = release manager count
call_of (step.Report number code) = report number code
call_of step.Figures = figures

-- the answer that a reply tells, or a refusal
abbrev pub answer_of : Result Reply Refusal → Answer
answer_of (Err why) = refused (told why)
answer_of (Ok (reply.Ticked k)) = told_ticked (Ok k)
answer_of (Ok (reply.Closed manager count gap)) = told_closed (Ok (record { manager = manager; count = count }, gap))
answer_of (Ok reply.Released) = released
answer_of (Ok reply.Reported) = reportedly
answer_of (Ok (reply.Shown a)) = shown a
