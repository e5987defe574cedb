-- The one line that the program writes to standard error where it did not do what it was asked for.
use Rattle.std.specs.Prelude.{ℕ, List, ◌++◌, codes, decimal}
use Rattle.hub_scenario.specs.declared.fault.ScenarioFault.{ScenarioFault}
use Rattle.hub_scenario.specs.declared.fault.ScenarioFault.TheVariants as scenario
use Rattle.hub_replay.specs.FaultLines.{line_of, fault_text as replay_text}
use Rattle.chanhub.specs.declared.refusal.Refusal.{Refusal}
use Rattle.chanhub.specs.declared.refusal.Refusal.TheVariants.{BadArguments, JournalFull, Replay, Scenario}

-- what is wrong with a scenario
abbrev pub scenario_text : ScenarioFault → List ℕ
scenario_text scenario.TooLong = codes "too long"
scenario_text scenario.BadToml = codes "bad toml"
scenario_text scenario.BadKey = codes "bad key"
scenario_text scenario.BadSeed = codes "bad seed"
scenario_text scenario.BadLimit = codes "bad limit"
scenario_text scenario.BadJournal = codes "bad journal"
scenario_text scenario.BadPorts = codes "bad ports"
scenario_text scenario.BadProcesses = codes "bad processes"
scenario_text (scenario.BadScript process step) =
    codes "bad script: process " ++ decimal process ++ codes " step " ++ decimal step
scenario_text scenario.NoMemory = codes "out of memory"

abbrev pub fault_text : Refusal → List ℕ
fault_text BadArguments = codes "bad arguments"
fault_text JournalFull = codes "journal full"
fault_text (Replay fault) = replay_text fault
fault_text (Scenario fault) = codes "scenario: " ++ scenario_text fault

abbrev pub fault_line : Refusal → List ℕ
fault_line refusal = line_of (fault_text refusal)
