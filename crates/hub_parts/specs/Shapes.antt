-- Boards that take the same memory.
use Rattle.std.specs.Prelude.{ℕ, ◌≡◌, List, length, map, slice_get, Some}
use Rattle.hub_parts.specs.Records.{ChannelLists, Lists}

-- the capacities of channels
abbrev pub caps_of : List ChannelLists → List ℕ
caps_of cs = map (λ c. c.lists.cap) cs

-- they have as much room for values and in each queue
pub record AsRoomy (c d : ChannelLists) : Type 0 where
  pub cap : c.lists.cap ≡ d.lists.cap
  pub senders : c.senders.capacity ≡ d.senders.capacity
  pub receivers : c.receivers.capacity ≡ d.receivers.capacity

-- each channel of one list has as much room as that in its place in the other
pub record HaveOneShape (cs ds : List ChannelLists) : Type 0 where
  pub count : length cs ≡ length ds
  pub each : (i : ℕ) (c d : ChannelLists) → slice_get cs i ≡ Some c → slice_get ds i ≡ Some d → AsRoomy c d

-- the boards have as many processes, and ports of the same capacities
pub record IsShapeOf (b c : Lists) : Type 0 where
  pub procs : b.procs ≡ c.procs
  pub caps : map (λ p. p.cap) b.ports ≡ map (λ p. p.cap) c.ports
