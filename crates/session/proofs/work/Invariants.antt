use Rattle.manager.specs.Meaning.{meaning, KeepsLease}
use Rattle.session.proofs.work.Given as goal

-- a lease that was out still is
abbrev pub invariant-loop : goal.invariant-loop
invariant-loop g l = KeepsLease (meaning (record { table = g.D.StateTable.table; status = g.D.Device.status }) l.initial.modem) (meaning (record { table = g.D.StateTable.table; status = g.D.Device.status }) l.modem)
