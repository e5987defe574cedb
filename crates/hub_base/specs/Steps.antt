-- What one step does to a hub, and what it tells: sends, receives and selects, close, make and
-- exit, cancel, start and reopen, the stall rule, the faults that are journaled, and why an entry is not admitted.
-- Go: "Send statements", "Receive operator", "Select statements", "Close". Which waiting call is
-- served and which ready case fires are this project's choice, and cancel, start and reopen are its own steps.
use Rattle.std.specs.Prelude.{ℕ, ◌+◌, ◌%◌, ◌==◌, nat_le, nat_lt, Bool, true, false, not, ◌&&◌, ◌||◌, List, []}
use Rattle.std.specs.Prelude.{◌∷◌, ◌++◌, length, filter, Option, None, Some, slice_get, if◌then◌else◌}
use Rattle.std.specs.List.{list_any, list_all, filter_map, range_with_len}
use Rattle.std.specs.Option.{option_map}
use Rattle.hub_base.specs.declared.value.Pid.{Pid}
use Rattle.hub_base.specs.declared.value.Port.{Port}
use Rattle.hub_base.specs.declared.value.Value.{Value}
use Rattle.hub_base.specs.declared.case.Case.{Case}
use Rattle.hub_base.specs.declared.case.Case.TheVariants.{Send, Recv}
use Rattle.hub_base.specs.Entry.{Entry, Step}
use Rattle.hub_base.specs.declared.entry.Step.TheVariants.{Make, Call, Close, Exit, Cancel, Start, Reopen}
use Rattle.hub_base.specs.declared.event.Outcome.{Outcome}
use Rattle.hub_base.specs.declared.event.Outcome.TheVariants.{Sent, Got, Drained, Closed}
use Rattle.hub_base.specs.declared.fault.Fault.{Fault}
use Rattle.hub_base.specs.declared.fault.Fault.TheVariants as fault
use Rattle.hub_base.specs.declared.event.What.{What}
use Rattle.hub_base.specs.declared.event.What.TheVariants as what
use Rattle.hub_base.specs.declared.event.Event.{Event}
use Rattle.hub_base.specs.declared.limits.TheConstants.{MOST_CAP, MOST_PORTS}
use Rattle.hub_base.specs.Head.{most_cases}
use Rattle.hub_base.specs.State.{OpenCall, Channel, State, channel_at, with_channel}
use Rattle.hub_base.specs.Ready.{is_recv_on, is_send_on, is_on, port_of, Ending, lowest, first_with, without, ready}

-- what follows a step: the state, and the events, the caller's answer first
pub record Change : Type 0 where
  pub state : State
  pub events : List Event

-- what follows where a case fires: its outcome, the state, and the events of calls that end with it
pub record Firing : Type 0 where
  pub outcome : Outcome
  pub state : State
  pub ended : List Event

-- this case of the process's call fired
abbrev pub fired : Pid → ℕ → Outcome → Event
fired pid index outcome = record { pid = pid; what = what.Fired index outcome }

-- the process is told so
abbrev pub tells : Pid → What → Event
tells pid w = record { pid = pid; what = w }

-- the channel once its oldest value that was not received is received
abbrev pub after_receive : Channel → Channel
after_receive c = record { cap = c.cap; closed = c.closed; sent = c.sent; received = c.received + 1 }

-- the channel once this value is sent
abbrev pub after_send : Value → Channel → Channel
after_send v c = record { cap = c.cap; closed = c.closed; sent = c.sent ++ v ∷ []; received = c.received }

-- the oldest value that was not received
abbrev pub next_value : Channel → Option Value
next_value c = slice_get c.sent c.received

-- what a receive is answered: a value, or that the closed channel is drained
abbrev pub outcome_of : Option Value → Outcome
outcome_of None = Drained
outcome_of (Some v) = Got v

-- a send on an open channel, whose value was added; the oldest receiver that waits, if any, ends
-- with the oldest value
abbrev pub send_meets : State → Port → Channel → Option Ending → Firing
send_meets s p c None = record { outcome = Sent; state = with_channel s p c; ended = [] }
send_meets s p c (Some e) =
    record {
      outcome = Sent;
      state = with_channel (record s { parked = without e.pid s.parked }) p (after_receive c);
      ended = fired e.pid e.at.index (outcome_of (next_value c)) ∷ [];
    }

-- a send that can proceed: on a closed channel it is answered `Closed` and changes nothing
abbrev pub send_fires : State → Port → Value → Channel → Firing
send_fires s p v c =
    if c.closed then record { outcome = Closed; state = s; ended = [] }
    else send_meets s p (after_send v c) (first_with (is_recv_on p) s.parked)

-- the channel once the value of this case is sent, where it is a send
abbrev pub with_sent : Case → Channel → Channel
with_sent (Send p v) c = after_send v c
with_sent (Recv p) c = c

-- a receive, after the oldest sender that waits was let in
abbrev pub recv_takes : State → Port → Channel → List Event → Option Value → Firing
recv_takes s p c ended None =
    record { outcome = Drained; state = with_channel s p c; ended = ended }
recv_takes s p c ended (Some v) =
    record { outcome = Got v; state = with_channel s p (after_receive c); ended = ended }

-- a receive, with the oldest sender that waits, if any: it ends, and its value is let in first
abbrev pub recv_meets : State → Port → Channel → Option Ending → Firing
recv_meets s p c None = recv_takes s p c [] (next_value c)
recv_meets s p c (Some e) =
    recv_takes (record s { parked = without e.pid s.parked }) p (with_sent e.at.case c)
    (fired e.pid e.at.index Sent ∷ []) (next_value (with_sent e.at.case c))

-- a receive that can proceed
abbrev pub recv_fires : State → Port → Channel → Firing
recv_fires s p c = recv_meets s p c (first_with (is_send_on p) s.parked)

-- a case that fires on its channel
abbrev pub fires : State → Case → Option Channel → Option Firing
fires s case None = None
fires s (Send p v) (Some c) = Some (send_fires s p v c)
fires s (Recv p) (Some c) = Some (recv_fires s p c)

-- a call of which no case can proceed takes its default, or is the newest that waits
abbrev pub waits : State → Pid → List Case → Bool → Change
waits s pid cases default =
    if default then record { state = s; events = tells pid what.Default ∷ [] }
    else record {
      state = record s { parked = s.parked ++ record { pid = pid; cases = cases } ∷ [] };
      events = tells pid what.Parked ∷ [];
    }

-- the caller is answered first, then the calls that end with it
abbrev pub proceeds : State → Pid → ℕ → Option Firing → Change
proceeds s pid index None = record { state = s; events = [] }
proceeds s pid index (Some f) =
    record { state = f.state; events = fired pid index f.outcome ∷ f.ended }

-- a call with the case that was chosen, if one can proceed
abbrev pub chooses : State → Pid → List Case → Bool → Option (ℕ × Case) → Change
chooses s pid cases default None = waits s pid cases default
chooses s pid cases default (Some c) = proceeds s pid c.0 (fires s c.1 (channel_at s (port_of c.1)))

-- a call: of the k cases that can proceed number `word mod k` fires, in case order from 0
abbrev pub calls : State → Pid → List Case → Bool → ℕ → Change
calls s pid cases default word =
    chooses s pid cases default (slice_get (ready s cases) (word % length (ready s cases)))

-- how a call ends when a channel is closed
abbrev pub closing_outcome : Case → Outcome
closing_outcome (Send p v) = Closed
closing_outcome (Recv p) = Drained

-- a call that waits with a case on the port ends at its lowest such case
abbrev pub closing_event : Port → OpenCall → Option Event
closing_event p call =
    option_map (λ c. fired call.pid c.index (closing_outcome c.case)) (lowest (is_on p) call.cases)

-- the channel once it is closed
abbrev pub shut : Channel → Channel
shut c = record { cap = c.cap; closed = true; sent = c.sent; received = c.received }

-- a close: each call that waits with a case on the port ends, by arrival; the buffer stays
abbrev pub closes : State → Pid → Port → Option Channel → Change
closes s pid p None = record { state = s; events = [] }
closes s pid p (Some c) =
    record {
      state = with_channel (record s {
        parked = filter (λ call. not (list_any (is_on p) call.cases)) s.parked;
      }) p (shut c);
      events = tells pid what.Done ∷ filter_map (closing_event p) s.parked;
    }

-- a make: the next port, empty and open
abbrev pub makes : State → Pid → ℕ → Change
makes s pid cap =
    record {
      state = record s {
        channels = s.channels ++ record { cap = cap; closed = false; sent = []; received = 0 } ∷ [];
      };
      events = tells pid (what.Made (record { 0 = length s.channels + 1 })) ∷ [];
    }

-- an exit
abbrev pub exits : State → Pid → Change
exits s pid =
    record { state = record s { gone = s.gone ++ pid ∷ [] }; events = tells pid what.Done ∷ [] }

-- a cancel: the open call of that process ends, and no value moves
abbrev pub cancels : State → Pid → Pid → Change
cancels s pid q =
    record {
      state = record s { parked = without q s.parked };
      events = tells pid what.Done ∷ tells q what.Cancelled ∷ [];
    }

-- a start: that process, which had exited, may make steps again
abbrev pub starts : State → Pid → Pid → Change
starts s pid q =
    record {
      state = record s { gone = filter (λ g. not (g.0 == q.0)) s.gone };
      events = tells pid what.Done ∷ [];
    }

-- a channel once it is open again, with this capacity; what was sent and received on it still counts
abbrev pub reopened : ℕ → Channel → Channel
reopened cap c = record { cap = cap; closed = false; sent = c.sent; received = c.received }

-- a reopen: that port, which was closed and drained, is open again
abbrev pub reopens : State → Pid → Port → ℕ → Option Channel → Change
reopens s pid p cap None = record { state = s; events = [] }
reopens s pid p cap (Some c) =
    record { state = with_channel s p (reopened cap c); events = tells pid what.Done ∷ [] }

-- what a step does that meets no fault, before the stall rule
abbrev pub effect : State → Pid → Step → Change
effect s pid (Make cap) = makes s pid cap
effect s pid (Call cases default word) = calls s pid cases.items default word
effect s pid (Close p) = closes s pid p (channel_at s p)
effect s pid Exit = exits s pid
effect s pid (Cancel q) = cancels s pid q
effect s pid (Start q) = starts s pid q
effect s pid (Reopen p cap) = reopens s pid p cap (channel_at s p)

-- this process has exited
abbrev pub has_gone : State → ℕ → Bool
has_gone s q = list_any (λ g. g.0 == q) s.gone

-- this process has an open call
abbrev pub is_waiting : State → ℕ → Bool
is_waiting s q = list_any (λ call. call.pid.0 == q) s.parked

-- some call waits, and every process that has not exited waits
abbrev pub all_wait : State → Bool
all_wait s =
    not (length s.parked == 0)
    && list_all (λ q. has_gone s q || is_waiting s q) (range_with_len 0 s.head.procs)

-- the stall rule: when everyone waits, all open calls end with `Stalled`, in order of arrival
abbrev pub stalls : Change → Change
stalls c =
    if all_wait c.state
    then record {
      state = record c.state { parked = [] };
      events = c.events ++ filter_map (λ call. Some (tells call.pid what.Stalled)) c.state.parked;
    }
    else c

-- a port other than 0 that was not made
abbrev pub is_unmade : State → Port → Bool
is_unmade s p = nat_lt (length s.channels) p.0

-- why a channel can't be closed. Go: "Close"
abbrev pub close_fault : Option Channel → Option Fault
close_fault None = Some fault.NilClose
close_fault (Some c) = if c.closed then Some fault.AlreadyClosed else None

-- why a channel can't be opened again: it is open, or holds a value
abbrev pub reopen_fault : Option Channel → Option Fault
reopen_fault None = Some fault.NilClose
reopen_fault (Some c) = if c.closed && nat_le (length c.sent) c.received then None else Some fault.InUse

-- why an admitted step has no effect: too great a capacity, a port too many, more cases than the
-- edition admits, a port that was not made, a close of the nil channel or of a closed one, a cancel
-- of a process that has no open call, a start of one that has not exited, a reopen of a port that is in use
abbrev pub fault_of : State → Step → Option Fault
fault_of s (Make cap) =
    if nat_lt MOST_CAP cap then Some fault.BadCap
    else if nat_le MOST_PORTS (length s.channels) then Some fault.TooManyPorts else None
fault_of s (Call cases default word) =
    if nat_lt (most_cases s.head.edition) (length cases.items) then Some fault.TooManyCases
    else if list_any (λ c. is_unmade s (port_of c)) cases.items then Some fault.NoPort else None
fault_of s (Close p) = if is_unmade s p then Some fault.NoPort else close_fault (channel_at s p)
fault_of s Exit = None
fault_of s (Cancel q) = if is_waiting s q.0 then None else Some fault.NotParked
fault_of s (Start q) = if has_gone s q.0 then None else Some fault.NotGone
fault_of s (Reopen p cap) =
    if is_unmade s p then Some fault.NoPort
    else if nat_lt MOST_CAP cap then Some fault.BadCap else reopen_fault (channel_at s p)

-- the fault, or else what the step does
abbrev pub answers : State → Entry → Option Fault → Change
answers s e None = stalls (effect s e.pid e.step)
answers s e (Some f) = record { state = s; events = tells e.pid (what.Fault f) ∷ [] }

-- what follows one admitted entry
abbrev pub turn : State → Entry → Change
turn s e = answers s e (fault_of s e.step)

-- why an entry is not admitted
abbrev pub refusal : State → Pid → Option Fault
refusal s pid =
    if not (nat_lt pid.0 s.head.procs) then Some fault.NoProcess
    else if has_gone s pid.0 then Some fault.Gone
    else if is_waiting s pid.0 then Some fault.Busy else None
