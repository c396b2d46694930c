use Rattle.session.proofs.work.Goals as goal

pub returns-in_err-tick : goal.returns-in_err-tick
returns-in_err-tick g c manager count w = c.tick.ensures.keeps manager count (c.loop.invariant manager count w)

pub loop-preserved : goal.loop-preserved
loop-preserved g c manager count w = c.tick.ensures.keeps manager count (c.loop.invariant manager count w)
