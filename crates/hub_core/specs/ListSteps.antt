-- What one step does to a machine's lists, and what it tells: the rules of a step over buffers and
-- counts, where the meaning has whole histories. Most names are those of the meaning, with `_on`.
use Rattle.std.specs.Prelude.{◌≡◌, ◌<◌, ℕ, ◌+◌, ◌==◌, nat_le, nat_lt, Bool, true, false, not, ◌&&◌, ◌||◌, List, [], ◌∷◌, ◌++◌}
use Rattle.std.specs.Prelude.{count_by, length, filter, map, Option, None, Some, slice_index_or, slice_set, if◌then◌else◌}
use Rattle.std.specs.List.{list_any, list_all, filter_map, range_with_len}
use Rattle.hub_base.specs.declared.value.Pid.{Pid}
use Rattle.hub_base.specs.declared.value.Port.{Port}
use Rattle.hub_base.specs.declared.case.Case.{Case}
use Rattle.hub_base.specs.Entry.{Entry, Step}
use Rattle.hub_base.specs.declared.entry.Step.TheVariants.{Make, Call, Close, Exit, Cancel, Start, Reopen}
use Rattle.hub_base.specs.declared.fault.Fault.{Fault}
use Rattle.hub_base.specs.declared.fault.Fault.TheVariants as fault
use Rattle.hub_base.specs.declared.event.What.{What}
use Rattle.hub_base.specs.declared.event.What.TheVariants as what
use Rattle.hub_base.specs.declared.event.Event.{Event}
use Rattle.hub_base.specs.declared.head.Edition.{Edition}
use Rattle.hub_base.specs.declared.limits.TheConstants.{MOST_CAP, MOST_PORTS}
use Rattle.hub_base.specs.Head.{most_cases}
use Rattle.hub_base.specs.Ready.{is_on, port_of}
use Rattle.hub_base.specs.Steps.{tells, closing_event}
use Rattle.hub_parts.specs.Records.{Lists, Ticketed}
use Rattle.hub_parts.specs.Lists.{port_at, with_new, new_port, with_port, closed_now, open_calls, parked, ended_by}
use Rattle.hub_core.specs.declared.tally.Tally.{Tally}
use Rattle.hub_core.specs.declared.select.Chosen.{Chosen}
use Rattle.hub_core.specs.Records.{MachineLists, no_tally}
use Rattle.hub_core.specs.ListReady.{chosen_on}
use Rattle.hub_core.specs.ListFirings.{ListFiring, fire_on, firing_events}

-- ---- a call
-- a chosen case with its number
abbrev pub placed : Chosen → ℕ × Case
placed chosen = (chosen.index, chosen.case.now)

-- what follows of board and counts, and what is told
pub record ListCall : Type 0 where
  pub board : Lists
  pub counts : List Tally
  pub events : List Event

-- what follows such a firing
abbrev pub tell_firing : Pid → ℕ → ListFiring → ListCall
tell_firing pid index f =
    record { board = f.board; counts = f.counts; events = firing_events pid index f }

-- the board with the call, unless it takes its default
abbrev pub wait_on : Lists → ℕ → Pid → List Case → Bool → Lists
wait_on b ticket pid cases default = if default then b else parked pid ticket cases b

-- what a call is told of which no case can proceed
abbrev pub told_to_wait : Bool → What
told_to_wait default = if default then what.Default else what.Parked

-- a call of which no case can proceed
abbrev pub waits_on : Lists → List Tally → ℕ → Pid → List Case → Bool → ListCall
waits_on b ts ticket pid cases default =
    record {
      board = wait_on b ticket pid cases default;
      counts = ts;
      events = tells pid (told_to_wait default) ∷ [];
    }

-- a call with the case that was chosen and its number, if one can proceed
abbrev pub chooses_on : Lists → List Tally → ℕ → Pid → List Case → Bool → Option (ℕ × Case) → ListCall
chooses_on b ts ticket pid cases default None = waits_on b ts ticket pid cases default
chooses_on b ts ticket pid cases default (Some x) = tell_firing pid x.0 (fire_on b ts x.1)

-- a call
abbrev pub calls_on : Lists → List Tally → ℕ → Pid → List Case → Bool → ℕ → ListCall
calls_on b ts ticket pid cases default word =
    chooses_on b ts ticket pid cases default (chosen_on b cases word)

-- the board and the counts are what follows a call
pub record IsCalled (b : Lists) (ts : List Tally) (c : ListCall) : Type 0 where
  pub board : b ≡ c.board
  pub counts : ts ≡ c.counts

-- ---- a close
-- the open calls with no case on the port
abbrev pub off_port : Port → List Ticketed → List Ticketed
off_port p ws = filter (λ w. not (list_any (is_on p) w.call.cases)) ws

-- the board without the calls that have a case on the port
abbrev pub cleared : Port → Lists → Lists
cleared p b = record b { waiting = off_port p b.waiting }

-- the same, and the port is closed
abbrev pub closed_on : Lists → Port → Lists
closed_on b p = with_port (cleared p b) p (closed_now (port_at b p))

-- what those calls are told
abbrev pub closing_events : Port → List Ticketed → List Event
closing_events p ws = filter_map (closing_event p) (open_calls ws)

-- ---- what a step does that meets no fault, before the stall rule
-- the machine behind a step, and what is told
pub record ListChange : Type 0 where
  pub machine : MachineLists
  pub events : List Event

-- the machine with this board and these counts
abbrev pub with_board : MachineLists → Lists → List Tally → MachineLists
with_board m b ts = record m { board = b; counts = ts }

-- what follows a call
abbrev pub after_call : MachineLists → ListCall → ListChange
after_call m c = record { machine = with_board m c.board c.counts; events = c.events }

-- a call; its ticket is the number of steps before it
abbrev pub call_on : MachineLists → Pid → List Case → Bool → ℕ → ListChange
call_on m pid cases default word =
    after_call m (calls_on m.board m.counts m.steps pid cases default word)

-- a close
abbrev pub closes_on : MachineLists → Pid → Port → ListChange
closes_on m pid p =
    record {
      machine = with_board m (closed_on m.board p) m.counts;
      events = tells pid what.Done ∷ closing_events p m.board.waiting;
    }

-- a make
abbrev pub makes_on : MachineLists → Pid → ℕ → ListChange
makes_on m pid cap =
    record {
      machine = with_board m (with_new cap m.board) (m.counts ++ no_tally ∷ []);
      events = tells pid (what.Made (record { 0 = length m.board.ports + 1 })) ∷ [];
    }

-- an exit
abbrev pub exits_on : MachineLists → Pid → ListChange
exits_on m pid =
    record { machine = record m { gone = slice_set m.gone pid.0 true }; events = tells pid what.Done ∷ [] }

-- a cancel of this process's open call
abbrev pub cancels_on : MachineLists → Pid → Pid → ListChange
cancels_on m pid q =
    record {
      machine = with_board m (ended_by q m.board) m.counts;
      events = tells pid what.Done ∷ tells q what.Cancelled ∷ [];
    }

-- a start of this process
abbrev pub starts_on : MachineLists → Pid → Pid → ListChange
starts_on m pid q =
    record { machine = record m { gone = slice_set m.gone q.0 false }; events = tells pid what.Done ∷ [] }

-- a reopen
abbrev pub reopens_on : MachineLists → Pid → Port → ℕ → ListChange
reopens_on m pid p cap =
    record {
      machine = with_board m (with_port m.board p (new_port cap)) m.counts;
      events = tells pid what.Done ∷ [];
    }

-- a step
abbrev pub effect_on : MachineLists → Pid → Step → ListChange
effect_on m pid (Make cap) = makes_on m pid cap
effect_on m pid (Call cases default word) = call_on m pid cases.items default word
effect_on m pid (Close p) = closes_on m pid p
effect_on m pid Exit = exits_on m pid
effect_on m pid (Cancel q) = cancels_on m pid q
effect_on m pid (Start q) = starts_on m pid q
effect_on m pid (Reopen p cap) = reopens_on m pid p cap

-- ---- when all wait
-- the process has exited
abbrev pub gone_on : List Bool → ℕ → Bool
gone_on gone q = slice_index_or gone q false

-- how many of so many processes have exited
abbrev pub count_gone : List Bool → ℕ → ℕ
count_gone gone procs = count_by (gone_on gone) (range_with_len 0 procs)

-- the process has an open call
abbrev pub open_on : List Ticketed → ℕ → Bool
open_on ws q = list_any (λ w. w.call.pid.0 == q) ws

-- whoever has an open call is one of so many processes, and has not exited
abbrev pub ArePresent : List Ticketed → List Bool → ℕ → Type 0
ArePresent ws gone procs = (q : ℕ) → open_on ws q ≡ true → (q < procs) × (gone_on gone q ≡ false)

-- each of so many processes has exited or has an open call
abbrev pub each_gone_or_open_on : Lists → List Bool → ℕ → Bool
each_gone_or_open_on b gone procs =
    list_all (λ q. gone_on gone q || open_on b.waiting q) (range_with_len 0 procs)

-- some call is open, and every process that has not exited has one
abbrev pub all_wait_on : Lists → List Bool → Bool
all_wait_on b gone = not (length b.waiting == 0) && each_gone_or_open_on b gone b.procs

-- the board without open calls
abbrev pub none_open : Lists → Lists
none_open b = record b { waiting = [] }

-- each waiting process is told that all wait
abbrev pub stalled_events : List Ticketed → List Event
stalled_events ws = map (λ w. tells w.call.pid what.Stalled) ws

-- all stall behind a step
abbrev pub all_stalled : ListChange → ListChange
all_stalled c =
    record {
      machine = with_board c.machine (none_open c.machine.board) c.machine.counts;
      events = c.events ++ stalled_events c.machine.board.waiting;
    }

-- the stall rule
abbrev pub stalls_on : ListChange → ListChange
stalls_on c = if all_wait_on c.machine.board c.machine.gone then all_stalled c else c

-- ---- the faults that are answers to admitted steps
-- a port other than 0 that was not made
abbrev pub is_unmade_on : Lists → Port → Bool
is_unmade_on b p = nat_lt (length b.ports) p.0

-- why a call has no effect
abbrev pub call_fault_on : Edition → Lists → List Case → Option Fault
call_fault_on edition b cases =
    if nat_lt (most_cases edition) (length cases) then Some fault.TooManyCases
    else if list_any (λ c. is_unmade_on b (port_of c)) cases then Some fault.NoPort
    else None

-- why a step has no effect
abbrev pub fault_on : Edition → Lists → List Bool → Step → Option Fault
fault_on edition b gone (Make cap) =
    if nat_lt MOST_CAP cap then Some fault.BadCap
    else if nat_le MOST_PORTS (length b.ports) then Some fault.TooManyPorts
    else None
fault_on edition b gone (Call cases default word) = call_fault_on edition b cases.items
fault_on edition b gone (Close p) =
    if is_unmade_on b p then Some fault.NoPort
    else if p.0 == 0 then Some fault.NilClose
    else if (port_at b p).closed then Some fault.AlreadyClosed
    else None
fault_on edition b gone Exit = None
fault_on edition b gone (Cancel q) = if open_on b.waiting q.0 then None else Some fault.NotParked
fault_on edition b gone (Start q) = if gone_on gone q.0 then None else Some fault.NotGone
fault_on edition b gone (Reopen p cap) =
    if is_unmade_on b p then Some fault.NoPort
    else if nat_lt MOST_CAP cap then Some fault.BadCap
    else if p.0 == 0 then Some fault.NilClose
    else if (port_at b p).closed && (length (port_at b p).buffer == 0) then None
    else Some fault.InUse

-- ---- one admitted entry
-- the process is told why its step has no effect
abbrev pub told_fault : MachineLists → Pid → Fault → ListChange
told_fault m pid f = record { machine = m; events = tells pid (what.Fault f) ∷ [] }

-- the fault, or else what the step does, before the stall rule
abbrev pub acts_by : MachineLists → Pid → Step → Option Fault → ListChange
acts_by m pid step None = effect_on m pid step
acts_by m pid step (Some f) = told_fault m pid f

abbrev pub acts_on : MachineLists → Pid → Step → ListChange
acts_on m pid step = acts_by m pid step (fault_on m.edition m.board m.gone step)

-- the fault, or else what the step does and the stall rule
abbrev pub answers_on : MachineLists → Entry → Option Fault → ListChange
answers_on m e None = stalls_on (effect_on m e.pid e.step)
answers_on m e (Some f) = told_fault m e.pid f

-- the same machine after n entries
abbrev pub with_steps : ℕ → MachineLists → MachineLists
with_steps n m = record { edition = m.edition; board = m.board; gone = m.gone; counts = m.counts; steps = n }

-- what follows, where n entries were admitted before
abbrev pub counted : ℕ → ListChange → ListChange
counted n c = record { machine = with_steps (n + 1) c.machine; events = c.events }

-- an admitted entry
abbrev pub turn_on : MachineLists → Entry → ListChange
turn_on m e = counted m.steps (answers_on m e (fault_on m.edition m.board m.gone e.step))

-- why an entry is not admitted
abbrev pub refusal_of : Lists → List Bool → Pid → Option Fault
refusal_of b gone pid =
    if not (nat_lt pid.0 b.procs) then Some fault.NoProcess
    else if gone_on gone pid.0 then Some fault.Gone
    else if open_on b.waiting pid.0 then Some fault.Busy
    else None
