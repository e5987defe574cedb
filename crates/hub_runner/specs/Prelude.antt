-- The words of this crate and of those below that the clauses of its sources cite, passed on from one place.
pub use Rattle.hub_base.specs.declared.value.Port.{Port}
pub use Rattle.hub_base.specs.Entry.{Entry}
pub use Rattle.hub_base.specs.Head.{AreOf, IsHead}
pub use Rattle.hub_base.specs.Runs.{state}
pub use Rattle.hub_base.specs.State.{channel_at}
pub use Rattle.hub_base.specs.Text.{steps_of}
pub use Rattle.hub_base.specs.Values.{is_fault}
pub use Rattle.hub_laws.specs.Journals.{IsLegal}
pub use Rattle.hub_laws.specs.OnePort.{IsMade, port_touched}
pub use Rattle.hub_live.specs.Calls.{AreSeats, Later, Refused}
pub use Rattle.hub_scenario.specs.ChoiceWords.{choice_word}
pub use Rattle.hub_scenario.specs.Scenario.{run_head, scenario_view}
pub use Rattle.hub_scenario.specs.Steps.{has_step}
pub use Rattle.hub_scenario.specs.declared.script.ScriptStep.{ScriptStep}
pub use Rattle.hub_runner.specs.CutShort.{IsCutShort, steps_asked}
pub use Rattle.hub_runner.specs.Ports.{BeginsWithPorts}
pub use Rattle.hub_runner.specs.Reports.{IsReportOf, how_many, is_stalled, ports_told, told_of}
pub use Rattle.hub_runner.specs.Replays.{HasRoom, OfTold, Tells, Within, most_got, number_told, with_sum, with_told}
pub use Rattle.hub_runner.specs.Running.{AreMakes, HaveEnded, IsOutcome, IsReady, MakesStopped, ShowPorts}
pub use Rattle.hub_runner.specs.Scripts.{AllFollow, asks, gets, is_range, taken_after}
pub use Rattle.hub_runner.specs.Working.{Followed, Leads, Onward, Stopped, WasStopped, asked_of, asker_of, goes_on_with, has_exited}
