use Rattle.std.proofs.Common.{◌-◌, refl, div-le_self, arith}
use Rattle.states.proofs.Overtaking.{overtaken}
use Rattle.states.proofs.row.Row.overtakes.Goals as goal

pub returns : goal.returns
returns c =
    let self = c.args.self.now in
    let above = c.args.above.now in
    (record { tick = overtaken self above _ (omega arith) (omega arith) refl; low = omega (arith, div-le_self (self.wake - above.wake) (above.power - self.power)) })
