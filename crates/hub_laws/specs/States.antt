-- What holds of every state that a run reaches. A receiver waits only where the buffer is empty, a
-- sender only where it is full, and nobody on a closed port. No process has two open calls, and none
-- that has exited has one.
use Rattle.std.specs.Prelude.{◌≡◌, ◌≤◌, ◌<◌, ℕ, true, false, List, [], length, Some}
use Rattle.std.specs.List.{AllByRecursion}
use Rattle.hub_base.specs.declared.value.Port.{Port}
use Rattle.hub_base.specs.declared.limits.TheConstants.{MOST_PORTS}
use Rattle.hub_base.specs.State.{State, Channel, OpenCall, channel_at, buffer_of}
use Rattle.hub_base.specs.Ready.{is_send_on, is_recv_on, is_on}
use Rattle.hub_base.specs.Steps.{is_waiting, has_gone}
use Rattle.hub_laws.specs.Sound.{some_call, Apart, Alone, CallFits}

-- a channel that is made, against the calls that wait
pub record PortLaws (p : Port) (c : Channel) (calls : List OpenCall) : Type 0 where
  pub fits : length (buffer_of c) ≤ c.cap
  pub receivers : some_call (is_recv_on p) calls ≡ true → buffer_of c ≡ []
  pub senders : some_call (is_send_on p) calls ≡ true → length (buffer_of c) ≡ c.cap
  pub closed : c.closed ≡ true → some_call (is_on p) calls ≡ false
  -- both wait only on capacity 0, and only in one call
  pub both :
      some_call (is_recv_on p) calls ≡ true → some_call (is_send_on p) calls ≡ true → c.cap ≡ 0
  pub alone : Alone p calls

-- what holds of a state that a run reaches
pub record StateLaws (s : State) : Type 0 where
  pub apart : Apart s.parked
  pub present : (q : ℕ) → is_waiting s q ≡ true → (q < s.head.procs) × (has_gone s q ≡ false)
  pub calls : AllByRecursion (CallFits s.head.edition (length s.channels)) s.parked
  pub ports : (p : Port) (c : Channel) → channel_at s p ≡ Some c → PortLaws p c s.parked
  -- no more ports are made than there may be, and no more calls wait than there are processes
  pub few : length s.channels ≤ MOST_PORTS
  pub count : length s.parked ≤ s.head.procs
