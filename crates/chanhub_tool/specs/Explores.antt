-- What the program says of all runs of a scenario.
use Rattle.std.specs.Prelude.{◌≡◌, ◌+◌, ◌≤◌, ◌++◌, ℕ, Bool, List, [], length, codes, decimal, Option, Ok, Err, if◌then◌else◌}
use Rattle.std.specs.Io.KnownBytes.{Consumes, IsAtEnd}
use Rattle.hub_base.specs.Journal.{JournalView}
use Rattle.hub_base.specs.Reading.{text}
use Rattle.hub_replay.specs.declared.fault.ReplayFault.TheVariants as replay
use Rattle.hub_scenario.specs.declared.fault.ScenarioFault.{ScenarioFault}
use Rattle.hub_scenario.specs.declared.limits.TheConstants.{MOST_FILE_BYTES}
use Rattle.hub_scenario.specs.Scenario.{ScenarioData, reading}
use Rattle.hub_explore.specs.declared.exploring.Explored.{Explored}
use Rattle.hub_explore.specs.declared.exploring.Explored.TheVariants as explored
use Rattle.hub_explore.specs.declared.question.Question.TheVariants.{Stall, Closed, Fault}
use Rattle.hub_explore.specs.Answers.{Says}
use Rattle.hub_explore.specs.Leftovers.{SaysOfValues}
use Rattle.hub_explore.specs.Questions.{asked_of}
use Rattle.chanhub_tool.specs.declared.commands.explore.ask.Ask.{Ask}
use Rattle.chanhub_tool.specs.declared.commands.explore.ask.Ask.TheVariants.{Event, Left}
use Rattle.chanhub_tool.specs.declared.commands.explore.Verdict.{Verdict}
use Rattle.chanhub_tool.specs.declared.commands.explore.Verdict.TheVariants.{Never, Found, GaveUp}
use Rattle.chanhub_tool.specs.declared.commands.explore.Unexplored.{Unexplored}
use Rattle.chanhub_tool.specs.declared.commands.explore.Unexplored.TheVariants.{Malformed, Failed}

-- ---- what is read
-- these bytes were read: all that there are, or more than a scenario may have
pub record ReadsAll (unread left : Option (List ℕ)) (bytes : List ℕ) : Type 0 where
  pub consumed : Consumes unread left bytes
  pub end : length bytes ≤ MOST_FILE_BYTES → IsAtEnd left

-- they say this scenario
pub record ReadsScenario (unread left : Option (List ℕ)) (s : ScenarioData) : Type 0 where
  pub bytes : List ℕ
  pub read : ReadsAll unread left bytes
  pub said : reading bytes ≡ Ok s

-- they say none
pub record ReadsMalformed (unread left : Option (List ℕ)) : Type 0 where
  pub bytes : List ℕ
  pub fault : ScenarioFault
  pub read : ReadsAll unread left bytes
  pub said : reading bytes ≡ Err fault

-- ---- what is asked
-- what an answer says of all runs: of the events on their way, or of the values that are left where they end
abbrev pub Answers : Ask → ScenarioData → ℕ → Explored → Type 0
Answers (Event question) s most answer = Says (asked_of question) s most answer
Answers Left s most answer = SaysOfValues s most answer

-- ---- what is printed
-- the words for what is asked
abbrev pub subject_of : Ask → List ℕ
subject_of (Event Stall) = codes "stall"
subject_of (Event Closed) = codes "send on a closed port"
subject_of (Event Fault) = codes "fault"
subject_of Left = codes "value left"

abbrev pub never_line : Ask → ℕ → ℕ → List ℕ
never_line ask states steps =
    codes "no " ++ subject_of ask ++ (codes ": " ++ decimal states ++ (codes " states, " ++ decimal steps ++ codes " steps between them\n"))

abbrev pub found_line : Ask → ℕ → List ℕ
found_line ask steps = subject_of ask ++ (codes " after " ++ decimal steps ++ codes " steps\n")

abbrev pub gave_up_line : ℕ → List ℕ
gave_up_line states = codes "gave up after " ++ decimal states ++ codes " states\n"

-- what is written of a found journal: its text, where it is to be kept
abbrev pub kept : Bool → JournalView → List ℕ
kept keeps j = if keeps then text j.head j.entries else []

-- ---- what it says
-- no run of the scenario does what is asked for, and this is printed
pub record DoesNever (ask : Ask) (s : ScenarioData) (most : ℕ) (Prints : List ℕ → Type 0) : Type 0 where
  pub states : ℕ
  pub steps : ℕ
  pub never : Answers ask s most (explored.Never states steps)
  pub printed : Prints (never_line ask states steps)

-- this run of the scenario does it: how many entries stand behind the makes of its ports is printed, and it is written
pub record Does (ask : Ask) (s : ScenarioData) (most : ℕ) (keeps : Bool) (Prints Writes : List ℕ → Type 0) : Type 0 where
  pub journal : JournalView
  pub found : Answers ask s most (explored.Found journal)
  pub steps : ℕ
  pub counted : length s.ports + steps ≡ length journal.entries
  pub printed : Prints (found_line ask steps)
  pub written : Writes (kept keeps journal)

-- what is found, printed and written: nothing is written but the journal of a run that does what is asked for
abbrev pub Finds : Verdict → Ask → ScenarioData → ℕ → Bool → (Prints Writes : List ℕ → Type 0) → (WritesNone : Type 0) → Type 0
Finds Never ask s most keeps Prints Writes WritesNone = DoesNever ask s most Prints × WritesNone
Finds Found ask s most keeps Prints Writes WritesNone = Does ask s most keeps Prints Writes
Finds GaveUp ask s most keeps Prints Writes WritesNone = Answers ask s most explored.TooMany × Prints (gave_up_line most) × WritesNone

-- ---- why it says nothing
-- why these bytes are not explored
abbrev pub IsRefusedFor : List ℕ → Unexplored → Type 0
IsRefusedFor bytes (Malformed fault) = reading bytes ≡ Err fault
IsRefusedFor bytes (Failed (replay.Text fault)) = ⊥
IsRefusedFor bytes (Failed replay.Read) = Unit {0}
IsRefusedFor bytes (Failed replay.Write) = Unit {0}
IsRefusedFor bytes (Failed replay.NoMemory) = Unit {0}

-- where a scenario is malformed nothing was written
abbrev pub IsUnexplored : Unexplored → (unread left : Option (List ℕ)) → (Unwritten : Type 0) → Type 0
IsUnexplored (Malformed fault) unread left Unwritten = ReadsMalformed unread left × Unwritten
IsUnexplored (Failed (replay.Text fault)) unread left Unwritten = ⊥
IsUnexplored (Failed replay.Read) unread left Unwritten = Unit {0}
IsUnexplored (Failed replay.Write) unread left Unwritten = Unit {0}
IsUnexplored (Failed replay.NoMemory) unread left Unwritten = Unit {0}
