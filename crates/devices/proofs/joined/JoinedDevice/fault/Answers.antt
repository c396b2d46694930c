use Rattle.std.proofs.Common.{rules}
use Rattle.devices.proofs.Layers.{fault_layered, fault_both}
use Rattle.devices.proofs.joined.JoinedDevice.fault.Goals as goal

pub returns : goal.returns
returns g c = search (rules, fault_layered, fault_both)
