-- What one entry tells: its process's answer first, then the calls that ended with it. An entry that
-- is not admitted gives one fault, and changes nothing.
use Rattle.std.specs.Prelude.{◌≡◌, Bool, true, false, List, [], ◌∷◌, Some, None}
use Rattle.std.specs.List.{AllByRecursion}
use Rattle.hub_base.specs.declared.value.Pid.{Pid}
use Rattle.hub_base.specs.Entry.{Entry, Step}
use Rattle.hub_base.specs.declared.entry.Step.TheVariants.{Make, Call, Close, Exit, Cancel, Start, Reopen}
use Rattle.hub_base.specs.declared.head.Head.{Head}
use Rattle.hub_base.specs.declared.fault.Fault.{Fault}
use Rattle.hub_base.specs.declared.event.What.{What}
use Rattle.hub_base.specs.declared.event.What.TheVariants as what
use Rattle.hub_base.specs.declared.event.Event.{Event}
use Rattle.hub_base.specs.Steps.{refusal, tells}
use Rattle.hub_base.specs.Runs.{state, moves}
use Rattle.hub_laws.specs.Faults.{refuses_entry, is_fault_of}

-- the answers that an admitted entry can have
abbrev pub is_answer_to : Step → What → Bool
is_answer_to step (what.Fault f) = is_fault_of step f
is_answer_to (Make cap) (what.Made p) = true
is_answer_to (Call cases default word) (what.Fired i outcome) = true
is_answer_to (Call cases default word) what.Default = true
is_answer_to (Call cases default word) what.Parked = true
is_answer_to (Close p) what.Done = true
is_answer_to Exit what.Done = true
is_answer_to (Cancel q) what.Done = true
is_answer_to (Start q) what.Done = true
is_answer_to (Reopen p cap) what.Done = true
is_answer_to step answer = false

-- how a call that waits ends
abbrev pub ends_waiting : What → Bool
ends_waiting (what.Fired i outcome) = true
ends_waiting what.Stalled = true
ends_waiting what.Cancelled = true
ends_waiting other = false

-- an answer to this step of this process, and what follows it
pub record Answered (pid : Pid) (step : Step) (answer : Event) (ended : List Event) : Type 0 where
  pub own : answer.pid ≡ pid
  pub fits : is_answer_to step answer.what ≡ true
  pub ends : AllByRecursion (λ x. ends_waiting x.what ≡ true) ended

-- there is an answer, and it comes first
abbrev pub IsAnswered : Pid → Step → List Event → Type 0
IsAnswered pid step [] = ⊥
IsAnswered pid step (answer ∷ ended) = Answered pid step answer ended

-- an admitted entry is answered so
abbrev pub AnswersLaw : Head → List Entry → Entry → Type 0
AnswersLaw h es e =
    refusal (state h es) e.pid ≡ None → IsAnswered e.pid e.step (moves (state h es) e).events

-- an entry that is not admitted gives one event, a fault of its process, and changes nothing
pub record PassedOver (h : Head) (es : List Entry) (e : Entry) (f : Fault) : Type 0 where
  pub events : (moves (state h es) e).events ≡ tells e.pid (what.Fault f) ∷ []
  pub state : (moves (state h es) e).state ≡ state h es
  pub refuses : refuses_entry f ≡ true

abbrev pub PassedOverLaw : Head → List Entry → Entry → Type 0
PassedOverLaw h es e =
    (f : Fault) → refusal (state h es) e.pid ≡ Some f → PassedOver h es e f
