use Rattle.std.proofs.Common.{sym}
use Rattle.devices.proofs.Bars.{hold_never, free_answer}
use Rattle.devices.proofs.Halves.{BothFree, hold_halves, held_together, table_of_halves}
use Rattle.devices.proofs.joined.JoinedDevice.hold.Given as given
use Rattle.devices.proofs.joined.JoinedDevice.hold.Goals as goal
use Rattle.devices.proofs.joined.JoinedDevice.hold.Goals.{In_ok-may_hold}

-- what the pair does not refuse, neither half refuses
free : (g : given.Over) (c : goal.In_ok-may_hold g) → BothFree (g.A.StateTable.table c.args.self.now.first) (g.B.StateTable.table c.args.self.now.second) (g.A.Device.status c.args.self.now.first) (g.B.Device.status c.args.self.now.second) c.args.state
free g c =
    let j = c.args.self.now in
    let ta = g.A.StateTable.table j.first in
    let tb = g.B.StateTable.table j.second in
    let a = g.A.Device.status j.first in
    let b = g.B.Device.status j.second in
    hold_halves ta tb a b c.args.state (sym c.in_ok-may_hold.ensures)

pub returns-in_err-hold : goal.returns-in_err-hold
returns-in_err-hold g c =
    let d = c.args.self.now.first in
    let to = rw c.deepest.ensures at c.min-first.ensures in
    absurd (hold_never (g.A.StateTable.table d) (g.A.Device.status d) to (free g (goal.at.returns-in_err-hold g c).In_ok-may_hold).first c.in_err-hold.ensures.value)

pub returns-in_err-hold-2 : goal.returns-in_err-hold-2
returns-in_err-hold-2 g c =
    let d = c.args.self.now.second in
    let to = rw c.deepest-2.ensures at c.min-second.ensures in
    absurd (hold_never (g.B.StateTable.table d) (g.B.Device.status d) to (free g (goal.at.returns-in_err-hold-2 g c).In_ok-may_hold).second c.in_err-hold-2.ensures.value)

pub returns : goal.returns
returns g c =
    let j = c.args.self.now in
    let ta = g.A.StateTable.table j.first in
    let tb = g.B.StateTable.table j.second in
    let a = g.A.Device.status j.first in
    let b = g.B.Device.status j.second in
    let both = free g (goal.at.returns g c).In_ok-may_hold in
    let first = rw c.deepest.ensures at c.min-first.ensures in
    let second = rw c.deepest-2.ensures at c.min-second.ensures in
    record {
      value = free_answer both.pair c.power-energy.ensures;
      after = held_together ta tb a b c.args.state both first second c.hold.ensures.same c.hold-2.ensures.same c.hold.ensures.after c.hold-2.ensures.after;
      same = table_of_halves j.rail.power j.rail.energy c.hold.ensures.same c.hold-2.ensures.same;
    }
