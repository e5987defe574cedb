use Rattle.std.proofs.Common.{◌≡◌, ◌++◌, All, map}
use Rattle.hub_scenario.specs.Scenario.{scenario_view}
use Rattle.hub_runner.specs.Ports.{BeginsWithPorts}
use Rattle.hub_runner.specs.Running.{HaveEnded}
use Rattle.hub_runner.proofs.runner.end_of.Given as goal

abbrev pub invariant-loop-member : goal.invariant-loop-member
invariant-loop-member g l =
    HaveEnded (scenario_view l.scenario) g.K.HubName.name (map (λ m. m.seat.pid) l.yielded) l.seats.items l.fault
    × (l.yielded ++ l.member-iterator.rest.items ≡ l.fn.members.items)
    × All (λ s. BeginsWithPorts (scenario_view l.scenario) s.seen) l.seats.items
