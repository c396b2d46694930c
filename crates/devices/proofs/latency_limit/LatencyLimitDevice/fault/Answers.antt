use Rattle.std.proofs.Common.{rules}
use Rattle.devices.proofs.Layers.{fault_layered}
use Rattle.devices.proofs.latency_limit.LatencyLimitDevice.fault.Goals as goal

pub returns : goal.returns
returns g c = search (rules, fault_layered)
