use Rattle.std.proofs.Common.{sym}
use Rattle.devices.proofs.Bars.{wake_never}
use Rattle.devices.proofs.Halves.{BothWaking, wake_halves}
use Rattle.devices.proofs.joined.JoinedDevice.wake.Given as given
use Rattle.devices.proofs.joined.JoinedDevice.wake.Goals as goal
use Rattle.devices.proofs.joined.JoinedDevice.wake.Goals.{In_ok-may_wake}

-- what the pair does not refuse, neither half refuses
free : (g : given.Over) (c : goal.In_ok-may_wake g) → BothWaking (g.A.StateTable.table c.args.self.now.first) (g.B.StateTable.table c.args.self.now.second) (g.A.Device.status c.args.self.now.first) (g.B.Device.status c.args.self.now.second)
free g c =
    let j = c.args.self.now in
    let ta = g.A.StateTable.table j.first in
    let tb = g.B.StateTable.table j.second in
    let a = g.A.Device.status j.first in
    let b = g.B.Device.status j.second in
    wake_halves ta tb a b (sym c.in_ok-may_wake.ensures)

pub returns-in_err-wake : goal.returns-in_err-wake
returns-in_err-wake g c =
    let d = c.args.self.now.first in
    absurd (wake_never (g.A.StateTable.table d) (g.A.Device.status d) (free g (goal.at.returns-in_err-wake g c).In_ok-may_wake).first c.in_err-wake.ensures.value)

pub returns-in_err-wake-2 : goal.returns-in_err-wake-2
returns-in_err-wake-2 g c =
    let d = c.args.self.now.second in
    absurd (wake_never (g.B.StateTable.table d) (g.B.Device.status d) (free g (goal.at.returns-in_err-wake-2 g c).In_ok-may_wake).second c.in_err-wake-2.ensures.value)
