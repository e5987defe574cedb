-- What the program has done where it did what it was asked for, command by command.
-- Of a named file's bytes nothing is known to a contract: 'these bytes' are those that were read, whatever they are.
use Rattle.std.specs.Prelude.{◌≡◌, ℕ, ◌<◌, ◌≤◌, ◌⊎◌, ◌++◌, Bool, List, length, codes, decimal, Option, Ok, Err, if◌then◌else◌}
use Rattle.std.specs.Io.KnownBytes.{Consumes, IsAtEnd}
use Rattle.hub_base.specs.Reading.{text}
use Rattle.hub_base.specs.Text.{IsFaulty}
use Rattle.hub_laws.specs.Journals.{IsLegal}
use Rattle.hub_replay.specs.Devices.{AppendsBeginning}
use Rattle.hub_replay.specs.Replay.{IsEventText, Replays, ReadsFaulty}
use Rattle.hub_replay.specs.Verify.{DiffersAt}
use Rattle.hub_runner.specs.declared.report.Report.{Report}
use Rattle.hub_runner.specs.ReportText.{report_text}
use Rattle.hub_runner.specs.Reports.{IsReportOf}
use Rattle.hub_runner.specs.Scripts.{AllFollow}
use Rattle.hub_scenario.specs.declared.limits.TheConstants.{MOST_FILE_BYTES}
use Rattle.hub_scenario.specs.Scenario.{ScenarioData, reading, run_head}
use Rattle.chanhub.specs.Words.{AsksFor, AsksForReplay}
use Rattle.chanhub.specs.declared.refusal.Refusal.{Refusal}
use Rattle.chanhub.specs.declared.refusal.Refusal.TheVariants as refusal
use Rattle.hub_replay.specs.declared.fault.ReplayFault.TheVariants as replay
use Rattle.chanhub.specs.declared.outcome.Outcome.{Outcome}
use Rattle.chanhub.specs.declared.outcome.Outcome.TheVariants.{Done, Differs, Stalled}

-- ---- verify
-- the line that tells a difference
abbrev pub difference_line : ℕ → List ℕ
difference_line line = codes "differs at line " ++ decimal line ++ codes "\n"

-- how the events compare with the event text of the journal, and the line that says so
abbrev pub TellsComparison : List ℕ → List ℕ → Outcome → (Writes : List ℕ → Type 0) → Type 0
TellsComparison journal events Done Writes = IsEventText journal events × Writes (codes "same\n")
TellsComparison journal events Differs Writes =
    (line : ℕ) × DiffersAt journal events line × Writes (difference_line line)
TellsComparison journal events Stalled Writes = ⊥

-- ---- run
-- what is printed of a run: its journal, or its report
abbrev pub printed : Bool → Report → List ℕ
printed journal report = if journal then text report.journal.head report.journal.entries else report_text report

-- the outcome of a run: whether some call stalled
abbrev pub TellsStalls : Outcome → ℕ → Type 0
TellsStalls Done stalled = stalled ≡ 0
TellsStalls Stalled stalled = 0 < stalled
TellsStalls Differs stalled = ⊥

-- these bytes say a scenario, each process followed its script, and the report or the journal was written
pub record RunsScenario (bytes : List ℕ) (journal : Bool) (outcome : Outcome) (Writes : List ℕ → Type 0) : Type 0 where
  pub scenario : ScenarioData
  pub report : Report
  pub said : reading bytes ≡ Ok scenario
  pub head : report.journal.head ≡ run_head scenario
  pub legal : IsLegal report.journal.head report.journal.entries
  pub follows : AllFollow scenario report.journal.entries
  pub told : IsReportOf report.journal report
  pub stalls : TellsStalls outcome report.stalled
  pub written : Writes (printed journal report)

-- these bytes were read: all that there are, or one more than a scenario may have
pub record ReadsScenario (unread left : Option (List ℕ)) (bytes : List ℕ) : Type 0 where
  pub consumed : Consumes unread left bytes
  pub end : length bytes ≤ MOST_FILE_BYTES → IsAtEnd left

-- they are of standard input; or that was left alone, and they are a named file's
abbrev pub TakesScenario : (unread left : Option (List ℕ)) → (alone : Type 0) → List ℕ → Type 0
TakesScenario unread left alone bytes = ReadsScenario unread left bytes ⊎ alone

-- ---- the program
pub record HasReplayed (words : List (List ℕ)) (outcome : Outcome) (unread left : Option (List ℕ)) (Writes : List ℕ → Type 0) : Type 0 where
  pub asked : AsksForReplay words
  pub done : outcome ≡ Done
  pub replays : Replays unread left Writes

pub record HasVerified (words : List (List ℕ)) (outcome : Outcome) (alone : Type 0) (Writes : List ℕ → Type 0) : Type 0 where
  pub asked : AsksFor (codes "verify") words
  pub untouched : alone
  pub journal : List ℕ
  pub events : List ℕ
  pub tells : TellsComparison journal events outcome Writes

pub record HasRun (words : List (List ℕ)) (outcome : Outcome) (unread left : Option (List ℕ)) (alone : Type 0) (Writes : List ℕ → Type 0) : Type 0 where
  pub asked : AsksFor (codes "run") words
  pub bytes : List ℕ
  pub taken : TakesScenario unread left alone bytes
  pub journal : Bool
  pub runs : RunsScenario bytes journal outcome Writes

-- what it was asked for by its arguments was done, with this outcome, and of the text that tells it this holds: that it
-- was written whole and nothing else, or that a beginning of it was
abbrev pub HasDone : List (List ℕ) → Outcome → (unread left : Option (List ℕ)) → (alone : Type 0) → (Writes : List ℕ → Type 0) → Type 0
HasDone words outcome unread left alone Writes =
    HasReplayed words outcome unread left Writes
    ⊎ (HasVerified words outcome alone Writes ⊎ HasRun words outcome unread left alone Writes)

-- the same up to its last write, which failed: of the text a beginning was written
abbrev pub HasBegun : List (List ℕ) → (unread left : Option (List ℕ)) → (alone : Type 0) → (held holds : Option (List ℕ)) → Type 0
HasBegun words unread left alone held holds =
    (outcome : Outcome) × HasDone words outcome unread left alone (AppendsBeginning held holds)

-- ---- refusals
-- why these bytes are not run
abbrev pub RefusesRun : List ℕ → Refusal → Type 0
RefusesRun bytes (refusal.Scenario fault) = reading bytes ≡ Err fault
RefusesRun bytes refusal.JournalFull = Unit {0}
RefusesRun bytes (refusal.Replay replay.NoMemory) = Unit {0}
RefusesRun bytes (refusal.Replay replay.Write) = Unit {0}
RefusesRun bytes (refusal.Replay (replay.Text fault)) = ⊥
RefusesRun bytes (refusal.Replay replay.Read) = ⊥
RefusesRun bytes refusal.BadArguments = ⊥

-- why nothing is compared with this journal
abbrev pub RefusesComparison : List ℕ → Refusal → Type 0
RefusesComparison journal (refusal.Replay (replay.Text fault)) = IsFaulty journal fault.line fault.kind
RefusesComparison journal (refusal.Replay replay.NoMemory) = Unit {0}
RefusesComparison journal (refusal.Replay replay.Write) = Unit {0}
RefusesComparison journal (refusal.Scenario fault) = ⊥
RefusesComparison journal refusal.JournalFull = ⊥
RefusesComparison journal (refusal.Replay replay.Read) = ⊥
RefusesComparison journal refusal.BadArguments = ⊥

-- why two files are not compared; of their bytes nothing is known
abbrev pub RefusesFiles : Refusal → Type 0
RefusesFiles (refusal.Replay (replay.Text fault)) = (journal : List ℕ) × IsFaulty journal fault.line fault.kind
RefusesFiles (refusal.Replay replay.NoMemory) = Unit {0}
RefusesFiles (refusal.Replay replay.Read) = Unit {0}
RefusesFiles (refusal.Replay replay.Write) = Unit {0}
RefusesFiles (refusal.Scenario fault) = ⊥
RefusesFiles refusal.JournalFull = ⊥
RefusesFiles refusal.BadArguments = ⊥

-- why the bytes on standard input are not replayed
abbrev pub RefusesReplay : (unread left : Option (List ℕ)) → (failed : Type 0) → Refusal → Type 0
RefusesReplay unread left failed (refusal.Replay (replay.Text fault)) = ReadsFaulty unread left fault
RefusesReplay unread left failed (refusal.Replay replay.Read) = failed
RefusesReplay unread left failed (refusal.Replay replay.NoMemory) = Unit {0}
RefusesReplay unread left failed (refusal.Replay replay.Write) = Unit {0}
RefusesReplay unread left failed (refusal.Scenario fault) = ⊥
RefusesReplay unread left failed refusal.JournalFull = ⊥
RefusesReplay unread left failed refusal.BadArguments = ⊥

-- why no scenario is run. A malformed one was read: from standard input, or, where that was left alone, from a file.
-- A read failed there, or that of a file
abbrev pub RefusesScenario : (unread left : Option (List ℕ)) → (alone failed : Type 0) → Refusal → Type 0
RefusesScenario unread left alone failed (refusal.Scenario fault) =
    (bytes : List ℕ) × TakesScenario unread left alone bytes × (reading bytes ≡ Err fault)
RefusesScenario unread left alone failed (refusal.Replay replay.Read) = failed ⊎ alone
RefusesScenario unread left alone failed refusal.JournalFull = Unit {0}
RefusesScenario unread left alone failed (refusal.Replay replay.NoMemory) = Unit {0}
RefusesScenario unread left alone failed (refusal.Replay replay.Write) = Unit {0}
RefusesScenario unread left alone failed (refusal.Replay (replay.Text fault)) = ⊥
RefusesScenario unread left alone failed refusal.BadArguments = ⊥

-- why arguments that ask for no replay are not carried out: they are no command's, or memory was refused to their reading
abbrev pub RefusesArguments : Refusal → Type 0
RefusesArguments why = (why ≡ refusal.BadArguments) ⊎ (why ≡ (refusal.Replay replay.NoMemory))

-- why it was not done what its arguments asked for: each command has its own refusals. Only a replay, and a run of a
-- scenario that no file holds, touch standard input
abbrev pub HasRefused : List (List ℕ) → Refusal → (unread left : Option (List ℕ)) → (alone failed : Type 0) → Type 0
HasRefused words why unread left alone failed =
    (AsksForReplay words × RefusesReplay unread left failed why)
    ⊎ ((AsksFor (codes "verify") words × alone × RefusesFiles why)
    ⊎ ((AsksFor (codes "run") words × RefusesScenario unread left alone failed why)
    ⊎ (alone × ¬ AsksForReplay words × RefusesArguments why)))

-- what a refusal leaves: the output is as it was, but for a failed write, which is told only where a write failed, once,
-- behind a beginning of what was to be written
pub record IsRefused (why : Refusal) (unchanged failed begun : Type 0) : Type 0 where
  pub unwritten : ¬ (why ≡ (refusal.Replay replay.Write)) → unchanged
  pub write : why ≡ (refusal.Replay replay.Write) → failed × begun
