-- What contracts see of a seat: its hub, its process, and the beginning of the journal that it has
-- seen.
use Rattle.std.specs.Prelude.{◌≡◌, false, List, Option}
use Rattle.hub_base.specs.declared.value.Pid.{Pid}
use Rattle.hub_base.specs.Entry.{Entry}
use Rattle.hub_base.specs.declared.event.Event.{Event}
use Rattle.hub_base.specs.State.{State}
use Rattle.hub_base.specs.Steps.{is_waiting}
use Rattle.hub_base.specs.Runs.{state}
use Rattle.hub_laws.specs.Replies.{own, reply}
use Rattle.hub_live.specs.Name.{Name}
use Rattle.hub_live.specs.Rule.{IsHistory}

-- a seat
pub record SeatView : Type 0 where
  pub hub : Name
  pub pid : Pid
  pub seen : List Entry

-- the state of the hub there
abbrev pub state_seen : SeatView → State
state_seen s = state s.hub.terms.head s.seen

-- the process has no open call there
abbrev pub IsFree : SeatView → Type 0
IsFree s = is_waiting (state_seen s) s.pid.0 ≡ false

-- the entries of the process there
abbrev pub own_of : SeatView → List Entry
own_of s = own s.pid.0 s.seen

-- what the process was told last there, `Parked` left aside
abbrev pub reply_to : SeatView → Option Event
reply_to s = reply s.pid.0 s.hub.terms.head s.seen

-- what holds of each seat between two calls: what it has seen is a legal journal, in which its
-- process has no open call
pub record IsIdle (s : SeatView) : Type 0 where
  pub history : IsHistory s.hub.terms s.seen
  pub free : IsFree s
