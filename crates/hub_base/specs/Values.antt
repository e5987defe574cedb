-- What was sent and received on a port, told from entries and events alone: the values of the sends
-- that were answered `Sent`, and those of the receives that were answered `Got`, in order of the
-- answers.
use Rattle.std.specs.Prelude.{◌==◌, ℕ, Bool, true, false, List, [], ◌∷◌, ◌++◌, Option, None, Some, slice_get, if◌then◌else◌}
use Rattle.std.specs.List.{filter_map}
use Rattle.std.specs.Option.{option_map_or}
use Rattle.hub_base.specs.declared.value.Pid.{Pid}
use Rattle.hub_base.specs.declared.value.Port.{Port}
use Rattle.hub_base.specs.declared.value.Value.{Value}
use Rattle.hub_base.specs.declared.case.Case.{Case}
use Rattle.hub_base.specs.declared.case.Case.TheVariants.{Send, Recv}
use Rattle.hub_base.specs.Entry.{Entry, Step}
use Rattle.hub_base.specs.declared.entry.Step.TheVariants.{Make, Call, Close, Exit, Cancel, Start, Reopen}
use Rattle.hub_base.specs.declared.head.Head.{Head}
use Rattle.hub_base.specs.declared.event.Outcome.{Outcome}
use Rattle.hub_base.specs.declared.event.Outcome.TheVariants.{Sent, Got}
use Rattle.hub_base.specs.declared.event.What.{What}
use Rattle.hub_base.specs.declared.event.What.TheVariants as what
use Rattle.hub_base.specs.declared.event.Event.{Event}
use Rattle.hub_base.specs.State.{State, opening}
use Rattle.hub_base.specs.Runs.{moves}

-- one entry with the events that it gave
pub record Turned : Type 0 where
  pub entry : Entry
  pub events : List Event

-- these entries, each with its events
abbrev pub turns_after : State → List Entry → List Turned
turns_after s [] = []
turns_after s (e ∷ es) =
    record { entry = e; events = (moves s e).events } ∷ turns_after (moves s e).state es

-- the process is told of a fault
abbrev pub is_fault : What → Bool
is_fault (what.Fault f) = true
is_fault (what.Made p) = false
is_fault (what.Fired i o) = false
is_fault what.Default = false
is_fault what.Done = false
is_fault what.Parked = false
is_fault what.Stalled = false
is_fault what.Cancelled = false

-- its call waits
abbrev pub is_parked : What → Bool
is_parked what.Parked = true
is_parked w = false

-- a call ended because everyone waited
abbrev pub is_stalled : What → Bool
is_stalled what.Stalled = true
is_stalled (what.Made p) = false
is_stalled (what.Fired i o) = false
is_stalled what.Default = false
is_stalled what.Done = false
is_stalled what.Parked = false
is_stalled (what.Fault f) = false
is_stalled what.Cancelled = false

-- whether the entry was answered by a fault
abbrev pub refused : List Event → Bool
refused [] = false
refused (e ∷ es) = is_fault e.what

-- the cases of a call; any other step leaves those before
abbrev pub cases_or : Step → List Case → List Case
cases_or (Make cap) before = before
cases_or (Call cases default word) before = cases.items
cases_or (Close p) before = before
cases_or Exit before = before
cases_or (Cancel q) before = before
cases_or (Start q) before = before
cases_or (Reopen p cap) before = before

-- the cases of the entry at this place; none where it is no call
abbrev pub cases_at : List Entry → ℕ → List Case
cases_at es place = option_map_or (λ e. cases_or e.step []) (slice_get es place) []

-- the cases of the last call of a process that was not refused, after this turn
abbrev pub latest : Pid → List Case → Turned → List Case
latest pid before t =
    if t.entry.pid.0 == pid.0
    then (if refused t.events then before else cases_or t.entry.step before)
    else before

-- the cases of the last such call in these turns, in order
abbrev pub last_call : Pid → List Case → List Turned → List Case
last_call pid before [] = before
last_call pid before (t ∷ ts) = last_call pid (latest pid before t) ts

-- the value that this case sent on the port, by its outcome
abbrev pub sent_on : Port → Option Case → Outcome → Option Value
sent_on p (Some (Send q v)) Sent = if q.0 == p.0 then Some v else None
sent_on p other outcome = None

-- the value that this case received from the port, by its outcome
abbrev pub got_on : Port → Option Case → Outcome → Option Value
got_on p (Some (Recv q)) (Got v) = if q.0 == p.0 then Some v else None
got_on p other outcome = None

-- what `pick` tells of the case that fired
abbrev pub of_what : {A : Type 0} → (Option Case → Outcome → Option A) → List Case → What → Option A
of_what pick cases (what.Fired i o) = pick (slice_get cases i) o
of_what pick cases (what.Made p) = None
of_what pick cases what.Default = None
of_what pick cases what.Done = None
of_what pick cases what.Parked = None
of_what pick cases what.Stalled = None
of_what pick cases (what.Fault f) = None
of_what pick cases what.Cancelled = None

-- what these turns tell by `pick`, where before them stand those turns
abbrev pub values_from :
    {A : Type 0} → (Option Case → Outcome → Option A) → List Turned → List Turned → List A
values_from pick before [] = []
values_from pick before (t ∷ ts) =
    filter_map (λ e. of_what pick (last_call e.pid [] (before ++ t ∷ [])) e.what) t.events
    ++ values_from pick (before ++ t ∷ []) ts

-- the values that were sent on a port
abbrev pub sent_values : Head → List Entry → Port → List Value
sent_values h es p = values_from (sent_on p) [] (turns_after (opening h) es)

-- the values that were received from it
abbrev pub received_values : Head → List Entry → Port → List Value
received_values h es p = values_from (got_on p) [] (turns_after (opening h) es)
