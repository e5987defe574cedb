use Rattle.hub_base.specs.Runs.{state}
use Rattle.hub_runner.specs.Replays.{OfTold}
use Rattle.hub_runner.proofs.ReportPorts.{PortsSoFar}
use Rattle.hub_runner.proofs.replayed.Replayed.ports.Given as goal

abbrev pub invariant-loop-place : goal.invariant-loop-place
invariant-loop-place l = OfTold l.self (λ head es. PortsSoFar (state head es) l.place l.ports.items)
