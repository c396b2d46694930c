use Rattle.std.proofs.Common.{arith}
use Rattle.states.proofs.Sums.{first_splits}
use Rattle.states.proofs.fit_rows.FitRows.ticks_held.Goals as goal

pub returns-in-Some : goal.returns-in-Some
returns-in-Some c =
    let first = c.in-Some.ensures.right in
    let parts = first_splits c.args.self.now.rows c.args.self.now.fit c.args.state c.in-Some.first c.args.until c.requires first c.if-first-until.true in
    record { within = omega (arith, first.0); before = parts.0; held = parts.1 }
