-- What a step was told, in the words of events; a call of several cases names the one that fired. What the clock did has words of
-- its own.
use Rattle.std.specs.Prelude.{ℕ, List, [], ◌∷◌, ◌++◌, codes, decimal, slice_get}
use Rattle.std.specs.Option.{option_map_or}
use Rattle.hub_base.specs.declared.case.Case.{Case}
use Rattle.hub_base.specs.declared.case.Case.TheVariants.{Send, Recv}
use Rattle.hub_base.specs.declared.event.Outcome.{Outcome}
use Rattle.hub_base.specs.declared.event.Outcome.TheVariants.{Sent, Got, Drained, Closed}
use Rattle.hub_base.specs.declared.event.What.{What}
use Rattle.hub_base.specs.declared.event.What.TheVariants as what
use Rattle.hub_base.specs.declared.fault.Fault.{Fault}
use Rattle.hub_base.specs.declared.fault.Fault.TheVariants as fault
use Rattle.hub_base.specs.Value.{value_field}
use Rattle.hub_base.specs.Faults.{fault_number}
use Rattle.hub_story.specs.declared.by_clock.Part.{Part}
use Rattle.hub_story.specs.declared.by_clock.Part.TheVariants.{OwnCall, OwnStep}

-- a case without its value: `s1` or `r1`
abbrev pub case_name : Case → List ℕ
case_name (Send p v) = codes "s" ++ decimal p.0
case_name (Recv p) = codes "r" ++ decimal p.0

-- which case fired; that of a call of one case goes without saying
abbrev pub fired_name : List Case → ℕ → List ℕ
fired_name (c ∷ []) i = []
fired_name cases i = option_map_or (λ c. case_name c ++ codes " ") (slice_get cases i) []

abbrev pub outcome_words : Outcome → List ℕ
outcome_words Sent = codes "sent"
outcome_words (Got v) = codes "got " ++ value_field v
outcome_words Drained = codes "drained"
outcome_words Closed = codes "closed"

-- what a step of these cases was told; of a step that is no call the cases are none
abbrev pub answer_words : List Case → What → List ℕ
answer_words cases (what.Made p) = codes "made " ++ decimal p.0
answer_words cases (what.Fired i o) = fired_name cases i ++ outcome_words o
answer_words cases what.Default = codes "default"
answer_words cases what.Done = codes "done"
answer_words cases what.Parked = codes "waits"
answer_words cases what.Stalled = codes "stalled"
answer_words cases (what.Fault f) = codes "fault " ++ decimal (fault_number f)
answer_words cases what.Cancelled = codes "cancelled"

-- so of a step that has ended. The clock, while it waits, is only woken. A call that the clock cancelled timed out
abbrev pub ended_words : Part → List Case → What → List ℕ
ended_words OwnCall cases what.Cancelled = codes "woken"
ended_words OwnCall cases what.Stalled = codes "woken"
ended_words OwnStep cases what.Cancelled = codes "timed out"
ended_words part cases w = answer_words cases w

-- why a step had no effect, in words
abbrev pub fault_words : Fault → List ℕ
fault_words fault.NoProcess = codes "no such process"
fault_words fault.Gone = codes "the process has exited"
fault_words fault.Busy = codes "the process still waits in a call"
fault_words fault.TooManyCases = codes "too many cases"
fault_words fault.NoPort = codes "no such port"
fault_words fault.BadCap = codes "the capacity is too large"
fault_words fault.TooManyPorts = codes "too many ports"
fault_words fault.NilClose = codes "close of the nil port"
fault_words fault.AlreadyClosed = codes "close of a closed port"
fault_words fault.JournalFull = codes "the journal is full"
fault_words fault.NoMemory = codes "out of memory"
fault_words fault.NotParked = codes "that process does not wait"
fault_words fault.InUse = codes "the port is in use"
fault_words fault.NotGone = codes "that process has not exited"
