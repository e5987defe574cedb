use Rattle.std.proofs.Common.{rules}
use Rattle.hub_scenario.specs.Scenario.{scenario_view}
use Rattle.chanhub.proofs.Carried.{ran, some-outcome}
use Rattle.chanhub.proofs.Refused.{wrote_less}
use Rattle.chanhub.proofs.commands.runs.run_bytes.Goals as goal

pub returns-clause-ok : goal.returns-clause-ok
returns-clause-ok g c =
    ran _ _ (scenario_view c.in_ok-scenario.scenario) c.in_ok-report.report c.in_ok-scenario.ensures.ok
    c.in_ok-report.ensures.head c.in_ok-report.ensures.legal
    c.in_ok-report.ensures.follows c.in_ok-report.ensures.report _ _ c.outcome_of.ensures (search rules)

pub returns-in_err-write_whole-clause-refused : goal.returns-in_err-write_whole-clause-refused
returns-in_err-write_whole-clause-refused g c =
    let told = some-outcome c.in_ok-report.report.stalled in
    wrote_less _ _ c.from_residual-in_err-write_whole.ensures (
      search rules,
      (
        told.0,
        ran _ _ (scenario_view c.in_ok-scenario.scenario) c.in_ok-report.report c.in_ok-scenario.ensures.ok
            c.in_ok-report.ensures.head c.in_ok-report.ensures.legal
            c.in_ok-report.ensures.follows c.in_ok-report.ensures.report told.0 _ told.1 (search rules),
      ),
    )
