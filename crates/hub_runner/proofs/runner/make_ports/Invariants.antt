use Rattle.std.proofs.Common.{take}
use Rattle.hub_runner.specs.Running.{AreMakes}
use Rattle.hub_runner.specs.Working.{asked_of, Onward}
use Rattle.hub_runner.proofs.runner.make_ports.Given as goal

abbrev pub invariant-loop-cap : goal.invariant-loop-cap
invariant-loop-cap g l = Onward l.initial.seat l.seat × AreMakes (take l.cap-index l.ports) (asked_of l.seat)
