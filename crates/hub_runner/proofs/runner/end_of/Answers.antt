use Rattle.std.proofs.Common.{◌∷◌, [], sym, map, subst, List}
use Rattle.std.proofs.lemmas.List.{map-append}
use Rattle.hub_base.specs.declared.value.Pid.{Pid}
use Rattle.hub_scenario.specs.Scenario.{scenario_view}
use Rattle.hub_runner.specs.Ports.{BeginsWithPorts}
use Rattle.hub_runner.specs.Running.{IsOutcome, HaveEnded}
use Rattle.hub_base.proofs.Loops.{one_further, all_next, all_snoc}
use Rattle.hub_runner.proofs.Outcomes.{ended_more}
use Rattle.hub_runner.proofs.runner.end_of.Goals as goal

pub loop-member-preserved : goal.loop-member-preserved
loop-member-preserved g c =
    let i = c.loop-member.invariant in
    let sc = scenario_view c.args.scenario.now in
    let m = c.in-Some.member in
    let out = all_next c.loop-member.yielded c.loop-member.member-iterator.rest.items c.next.new.self.rest.items c.args.members.items m
    (λ m. IsOutcome sc m.seat m.report) c.in-Some.ensures.steps.0 i.1 c.requires in
    let more = ended_more sc g.K.HubName.name (map (λ m. m.seat.pid) c.loop-member.yielded) c.loop-member.seats.items c.push.new.self.items m.seat
    c.loop-member.fault c.with_outcome-fault.result m.report c.in-Ok.ensures.items i.0 c.pid-pid.ensures.hub out
    c.with_outcome-fault.ensures.none c.with_outcome-fault.ensures.memory c.with_outcome-fault.ensures.full in (
      subst (λ (pids : List Pid). HaveEnded sc g.K.HubName.name pids c.push.new.self.items c.with_outcome-fault.result)
          (sym (map-append (λ m. m.seat.pid) c.loop-member.yielded (m ∷ []))) more,
      one_further c.loop-member.yielded c.loop-member.member-iterator.rest.items c.next.new.self.rest.items c.args.members.items m
          c.in-Some.ensures.steps.0 i.1,
      all_snoc c.loop-member.seats.items c.push.new.self.items m.seat (λ s. BeginsWithPorts sc s.seen) c.in-Ok.ensures.items i.2 out.ports,
    )
