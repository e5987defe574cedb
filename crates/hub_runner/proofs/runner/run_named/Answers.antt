use Rattle.std.proofs.Common.{◌≡◌, ◌<◌, Some, length, arith}
use Rattle.hub_scenario.specs.Scenario.{scenario_view}
use Rattle.hub_runner.specs.declared.fault.RunFault.TheVariants.{JournalFull}
use Rattle.hub_runner.proofs.Runs.{all_follow, count_scripts}
use Rattle.hub_runner.proofs.Limits.{all_ports, cut_short}
use Rattle.hub_runner.proofs.runner.run_named.Goals as goal

pub returns-in-None-clause-ports : goal.returns-in-None-clause-ports
returns-in-None-clause-ports g c =
    let sc = scenario_view c.args.scenario.now in
    let ended = c.in_ok-seats.ensures in
    let many : length c.args.seats.items ≡ length sc.scripts =
    omega (arith, c.requires.count, c.args.seats.ok.0, count_scripts c.args.scenario.now) in
    let some : 0 < length c.args.seats.items = omega (arith, c.requires.count, c.args.seats.ok.0, c.args.scenario.now.some) in
    all_ports g.K.HubName.name sc c.args.seats.items c.in_ok-seats.field-0.seats.items c.in_ok-journal.journal c.in_ok-seats.field-0.fault
    c.in-None.is c.requires.head many some c.requires.seats ended.ended c.in_ok-journal.ensures.rules ended.ports

pub returns-in-None-clause-follows : goal.returns-in-None-clause-follows
returns-in-None-clause-follows g c =
    let sc = scenario_view c.args.scenario.now in
    let ended = c.in_ok-seats.ensures.ended in
    let many : length c.args.seats.items ≡ length sc.scripts =
    omega (arith, c.requires.count, c.args.seats.ok.0, count_scripts c.args.scenario.now) in
    all_follow g.K.HubName.name sc c.args.seats.items c.in_ok-seats.field-0.seats.items c.in_ok-journal.journal.entries
    c.requires.head many c.requires.seats ended.pids ended.hubs (ended.none c.in-None.is) c.in_ok-journal.ensures.rules.seats

pub returns-in-Some-clause-full : goal.returns-in-Some-clause-full
returns-in-Some-clause-full g c = λ full.
    let sc = scenario_view c.args.scenario.now in
    let many : length c.args.seats.items ≡ length sc.scripts =
    omega (arith, c.requires.count, c.args.seats.ok.0, count_scripts c.args.scenario.now) in
    let told : c.in_ok-seats.field-0.fault ≡ Some JournalFull = cc (full, c.in-Some.is) in (
      c.in_ok-journal.journal.entries,
      cut_short g.K.HubName.name sc c.args.seats.items c.in_ok-seats.field-0.seats.items c.in_ok-journal.journal c.in_ok-seats.field-0.fault
          c.requires.head c.requires.limit many c.requires.seats c.in_ok-seats.ensures.ended c.in_ok-journal.ensures.rules
          c.in_ok-seats.ensures.ports told,
    )
