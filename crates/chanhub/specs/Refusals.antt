-- What a fault of a part of the program is to the program.
use Rattle.chanhub.specs.declared.words.request.ArgumentsFault.{ArgumentsFault}
use Rattle.chanhub.specs.declared.words.request.ArgumentsFault.TheVariants as arguments
use Rattle.hub_replay.specs.declared.fault.SourceFault.{SourceFault}
use Rattle.hub_replay.specs.declared.fault.ReplayFault.TheVariants as replay
use Rattle.hub_replay.specs.Replay.{replay_fault}
use Rattle.hub_scenario.specs.declared.fault.ScenarioFault.{ScenarioFault}
use Rattle.hub_scenario.specs.declared.fault.ScenarioFault.TheVariants as scenario
use Rattle.hub_runner.specs.declared.fault.RunFault.{RunFault}
use Rattle.hub_runner.specs.declared.fault.RunFault.TheVariants as run
use Rattle.chanhub.specs.declared.refusal.Refusal.{Refusal}
use Rattle.chanhub.specs.declared.refusal.Refusal.TheVariants.{BadArguments, JournalFull, Replay, Scenario}

abbrev pub of_arguments : ArgumentsFault → Refusal
of_arguments arguments.BadArguments = BadArguments
of_arguments arguments.NoMemory = Replay replay.NoMemory

-- a source gives no bytes to a file's reader for what it gives none to a replay
abbrev pub of_source : SourceFault → Refusal
of_source fault = Replay (replay_fault fault)

-- all faults but want of memory are the scenario's own
abbrev pub of_scenario : ScenarioFault → Refusal
of_scenario scenario.NoMemory = Replay replay.NoMemory
of_scenario scenario.TooLong = Scenario scenario.TooLong
of_scenario scenario.BadToml = Scenario scenario.BadToml
of_scenario scenario.BadKey = Scenario scenario.BadKey
of_scenario scenario.BadSeed = Scenario scenario.BadSeed
of_scenario scenario.BadLimit = Scenario scenario.BadLimit
of_scenario scenario.BadJournal = Scenario scenario.BadJournal
of_scenario scenario.BadPorts = Scenario scenario.BadPorts
of_scenario scenario.BadProcesses = Scenario scenario.BadProcesses
of_scenario (scenario.BadScript process step) = Scenario (scenario.BadScript process step)

abbrev pub of_run : RunFault → Refusal
of_run run.NoMemory = Replay replay.NoMemory
of_run run.JournalFull = JournalFull
