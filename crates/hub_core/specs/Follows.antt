-- How a machine's lists stand for a state, and what it means that a machine follows a run.
use Rattle.std.specs.Prelude.{◌≡◌, ◌≤◌, ◌<◌, ◌+◌, ◌-◌, ◌^◌, Result, OnOk, OnErr, ℕ, List, [], ◌∷◌, ◌++◌, length, map, Option, None, Some, slice_get}
use Rattle.std.specs.List.{AllByRecursion}
use Rattle.hub_base.specs.declared.case.Case.{Case}
use Rattle.hub_base.specs.declared.value.Pid.{Pid}
use Rattle.hub_base.specs.Entry.{Entry, Step}
use Rattle.hub_base.specs.declared.entry.Step.TheVariants.{Make, Call, Close, Exit, Cancel, Start, Reopen}
use Rattle.hub_base.specs.declared.head.Head.{Head}
use Rattle.hub_base.specs.declared.event.Event.{Event}
use Rattle.hub_base.specs.declared.fault.Fault.{Fault}
use Rattle.hub_base.specs.declared.fault.Fault.TheVariants as fault
use Rattle.hub_base.specs.declared.limits.TheConstants.{MOST_EVENTS}
use Rattle.hub_base.specs.State.{State, Channel, OpenCall, buffer_of}
use Rattle.hub_base.specs.Steps.{has_gone, refusal, fault_of}
use Rattle.hub_base.specs.Runs.{state, kept, moves}
use Rattle.hub_parts.specs.Records.{PortLists, Ticketed}
use Rattle.hub_parts.specs.Lists.{open_calls}
use Rattle.hub_core.specs.declared.tally.Tally.{Tally}
use Rattle.hub_core.specs.Hearing.{Heard}
use Rattle.hub_core.specs.Records.{MachineLists}
use Rattle.hub_core.specs.ListSteps.{gone_on, refusal_of, fault_on, acts_on}

-- what a board shows of a channel: its buffer is what was sent and not yet received
abbrev pub lists_of : Channel → PortLists
lists_of c = record { cap = c.cap; closed = c.closed; buffer = buffer_of c }

-- how many values the channel has carried
abbrev pub tally_of : Channel → Tally
tally_of c = record { sent = length c.sent; received = c.received }

-- the machine's lists stand for the state: its open calls in order, its buffers, its counts, and who has exited
pub record Matches (s : State) (m : MachineLists) : Type 0 where
  pub edition : m.edition ≡ s.head.edition
  pub procs : m.board.procs ≡ s.head.procs
  pub calls : open_calls m.board.waiting ≡ s.parked
  pub ports : m.board.ports ≡ map lists_of s.channels
  pub counts : m.counts ≡ map tally_of s.channels
  pub gone : (q : ℕ) → gone_on m.gone q ≡ has_gone s q

-- the step is a call of these cases
abbrev pub HasCases : Step → List Case → Type 0
HasCases (Make cap) cases = ⊥
HasCases (Call given default word) cases = given.items ≡ cases
HasCases (Close p) cases = ⊥
HasCases Exit cases = ⊥
HasCases (Cancel q) cases = ⊥
HasCases (Start q) cases = ⊥
HasCases (Reopen p cap) cases = ⊥

-- the entry is the one that opened this call
abbrev pub IsEntryOf : Option Entry → OpenCall → Type 0
IsEntryOf None call = ⊥
IsEntryOf (Some e) call = (e.pid ≡ call.pid) × HasCases e.step call.cases

-- each open call's ticket is the place of its entry in the journal
abbrev pub TicketsAre : List Entry → List Ticketed → Type 0
TicketsAre journal ws = AllByRecursion (λ w. IsEntryOf (slice_get journal w.ticket) w.call) ws

-- the machine is what these entries, admitted or not, lead to in a hub with this head
pub record Follows (h : Head) (es : List Entry) (m : MachineLists) : Type 0 where
  pub matches : Matches (state h es) m
  pub steps : m.steps ≡ length (kept h es)
  pub later : m.board.next_ticket ≤ m.steps
  pub tickets : TicketsAre (kept h es) m.board.waiting

-- some run leads to the machine
abbrev pub IsReached : MachineLists → Type 0
IsReached m = (h : Head) × (es : List Entry) × Follows h es m

-- what an admitted entry leads to
pub record Admits (h : Head) (es : List Entry) (e : Entry) (m : MachineLists) (told : List Event) : Type 0 where
  pub admitted : refusal (state h es) e.pid ≡ None
  pub events : told ≡ (moves (state h es) e).events
  pub follows : Follows h (es ++ e ∷ []) m

-- what any entry leads to
pub record Answers (h : Head) (es : List Entry) (e : Entry) (m : MachineLists) (told : List Event) : Type 0 where
  pub events : told ≡ (moves (state h es) e).events
  pub follows : Follows h (es ++ e ∷ []) m

-- what any entry leads to, and that its events were heard, which are no more than a step can have
pub record Tells {S : Type 0} (h : Head) (es : List Entry) (e : Entry) (m : MachineLists) (Heard : List Event → S → Type 0) (now : S) : Type 0 where
  pub told : List Event
  pub heard : Heard told now
  pub answers : Answers h es e m told
  pub few : length told ≤ MOST_EVENTS

-- the step is a make or a reopen, which takes memory for its channel
abbrev pub TakesMemory : Step → Type 0
TakesMemory (Make cap) = Unit {0}
TakesMemory (Call cases default word) = ⊥
TakesMemory (Close p) = ⊥
TakesMemory Exit = ⊥
TakesMemory (Cancel q) = ⊥
TakesMemory (Start q) = ⊥
TakesMemory (Reopen p cap) = Unit {0}

-- an admitted step, of whose fault nothing is known
pub record MayAct (m : MachineLists) (pid : Pid) : Type 0 where
  pub reached : IsReached m
  pub admitted : refusal_of m.board m.gone pid ≡ None
  pub steps : m.steps < 2 ^ 32 - 1

-- it was told its fault or has taken effect, or was a make or a reopen that was refused memory and has changed nothing
pub record Acts {E S : Type 0} (heard : S → List Event → S → Type 0) (room : S → ℕ) (old : MachineLists) (pid : Pid) (step : Step)
    (new : MachineLists) (before after : S) (result : Result (Unit {0}) E) : Type 0 where
  pub machine : OnOk result (new ≡ (acts_on old pid step).machine)
  pub told : OnOk result (Heard heard room before after (acts_on old pid step).events)
  pub make : OnErr result (TakesMemory step)
  pub fine : OnErr result (fault_on old.edition old.board old.gone step ≡ None)
  pub unchanged : OnErr result (new ≡ old)
  pub silent : OnErr result (after ≡ before)

-- the step meets no fault, so a fault is not its answer
abbrev pub IsFine : State → Entry → Type 0
IsFine s e = fault_of s e.step ≡ None

-- what an admitted entry leads to, in each run that the machine follows
pub record Turns (old : MachineLists) (e : Entry) (new : MachineLists) (told : List Event) : Type 0 where
  pub ok : (h : Head) (es : List Entry) → Follows h es old → Admits h es e new told
  pub steps : new.steps ≡ old.steps + 1

-- memory is refused to a make or a reopen that meets no fault, and nothing has happened
pub record RefusesMake (old : MachineLists) (e : Entry) (new : MachineLists) (told : List Event) : Type 0 where
  pub make : TakesMemory e.step
  pub fine : (h : Head) (es : List Entry) → Follows h es old → IsFine (state h es) e
  pub unchanged : new ≡ old
  pub empty : told ≡ []

-- why an entry is refused: memory, which only a make or a reopen asks for, or because it is not admitted
abbrev pub RefusesFor : Head → List Entry → Entry → Fault → Type 0
RefusesFor h es e fault.NoMemory = TakesMemory e.step × (refusal (state h es) e.pid ≡ None)
RefusesFor h es e f = refusal (state h es) e.pid ≡ Some f
