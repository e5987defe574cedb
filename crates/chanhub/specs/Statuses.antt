-- The program's exit status.
use Rattle.std.specs.Prelude.{ℕ}
use Rattle.hub_replay.specs.FaultLines.{status_of as replay_status}
use Rattle.chanhub.specs.declared.refusal.Refusal.{Refusal}
use Rattle.chanhub.specs.declared.refusal.Refusal.TheVariants.{BadArguments, JournalFull, Replay, Scenario}
use Rattle.chanhub.specs.declared.outcome.Outcome.{Outcome}
use Rattle.chanhub.specs.declared.outcome.Outcome.TheVariants.{Done, Differs, Stalled}

-- where it did what it was asked for
abbrev pub status_of_outcome : Outcome → ℕ
status_of_outcome Done = 0
status_of_outcome Differs = 3
status_of_outcome Stalled = 4

-- where it did not: 1 for a device, memory or a full journal, and 2 for malformed input or arguments
abbrev pub status_of : Refusal → ℕ
status_of BadArguments = 2
status_of JournalFull = 1
status_of (Replay fault) = replay_status fault
status_of (Scenario fault) = 2
