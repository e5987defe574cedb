-- What a hub is at a moment: its processes, the calls that wait, and each channel's whole history.
-- There is no buffer and no queue in it: those are the code's. Go: "Channel types".
use Rattle.std.specs.Prelude.{ℕ, ◌-◌, ◌==◌, Bool, List, [], Option, None, drop, slice_get, slice_set, if◌then◌else◌}
use Rattle.hub_base.specs.declared.value.Pid.{Pid}
use Rattle.hub_base.specs.declared.value.Port.{Port}
use Rattle.hub_base.specs.declared.value.Value.{Value}
use Rattle.hub_base.specs.declared.case.Case.{Case}
use Rattle.hub_base.specs.declared.head.Head.{Head}

-- a call that waits
pub record OpenCall : Type 0 where
  pub pid : Pid
  pub cases : List Case

-- a channel
pub record Channel : Type 0 where
  -- how many values its buffer holds
  pub cap : ℕ
  pub closed : Bool
  -- the values of all completed sends, oldest first
  pub sent : List Value
  -- how many of them were received
  pub received : ℕ

-- a hub
pub record State : Type 0 where
  -- what its journal's head says: the number of processes
  pub head : Head
  -- those that have exited
  pub gone : List Pid
  -- the calls that wait, in order of arrival
  pub parked : List OpenCall
  -- in order of making: port 1 first
  pub channels : List Channel

-- a hub with this head, and nothing made, gone or open
abbrev pub opening : Head → State
opening h = record { head = h; gone = []; parked = []; channels = [] }

-- the channel of a port. Ports are numbered from 1; port 0 is nil
abbrev pub channel_at : State → Port → Option Channel
channel_at s p = if p.0 == 0 then None else slice_get s.channels (p.0 - 1)

-- the same hub with this channel at a port that was made
abbrev pub with_channel : State → Port → Channel → State
with_channel s p c = record s { channels = slice_set s.channels (p.0 - 1) c }

-- what was sent and not yet received, oldest first
abbrev pub buffer_of : Channel → List Value
buffer_of c = drop c.received c.sent
