-- A channel: its ring as a buffer, its two queues, and which of them has the older first entry.
use Rattle.std.specs.Prelude.{ℕ, ◌≡◌, ◌≤◌, ◌-◌, ◌*◌, List, [], length, Option, None, Some, find, slice_index_or, if◌then◌else◌}
use Rattle.circular_buffer.specs.Buffer.{Buffer, buffer}
use Rattle.hub_base.specs.declared.value.Port.{Port}
use Rattle.hub_base.specs.declared.value.Value.{Value}
use Rattle.hub_parts.specs.declared.wait_queue.TheConstants.{PLACES}
use Rattle.hub_parts.specs.declared.side.Side.{Side}
use Rattle.hub_parts.specs.declared.side.Side.TheVariants as side
use Rattle.hub_parts.specs.declared.wait_queue.Waiter.{Waiter}
use Rattle.hub_parts.specs.Records.{Ticketed, ChannelLists}
use Rattle.hub_parts.specs.Queues.{lives, is_before, taken}
use Rattle.hub_parts.specs.Lists.{no_port, new_port}

-- the ring has the channel's capacity, and holds no more values
abbrev pub RingFits : ℕ → Buffer Value → Type 0
RingFits cap r = (r.capacity ≡ cap) × (length r.items ≤ cap)

-- the side of the older of two first entries; the receivers where there is none
abbrev pub older : Option Waiter → Option Waiter → Side
older None receiver = side.Recv
older (Some sender) None = side.Send
older (Some sender) (Some receiver) = if is_before receiver sender then side.Recv else side.Send

-- the queue of a side
abbrev pub queue_of : Side → ChannelLists → Buffer Waiter
queue_of side.Send c = c.senders
queue_of side.Recv c = c.receivers

-- the channel with that queue changed
abbrev pub with_queue : (Buffer Waiter → Buffer Waiter) → Side → ChannelLists → ChannelLists
with_queue f side.Send c = record { lists = c.lists; senders = f c.senders; receivers = c.receivers }
with_queue f side.Recv c = record { lists = c.lists; senders = c.senders; receivers = f c.receivers }

-- an empty and open channel, with queues for this many processes
abbrev pub new_channel : ℕ → ℕ → ChannelLists
new_channel cap procs =
    record { lists = new_port cap; senders = buffer [] (PLACES * procs); receivers = buffer [] (PLACES * procs) }

-- the oldest live entry on a side
abbrev pub first_on : Side → List Ticketed → ChannelLists → Option Waiter
first_on side ws c = find (lives ws) (queue_of side c).items

-- the side whose oldest live entry is the older one
abbrev pub older_side : List Ticketed → ChannelLists → Side
older_side ws c = older (first_on side.Send ws c) (first_on side.Recv ws c)

-- the channel without that entry, and without the dead ones before it in its queue
abbrev pub without_first : Side → List Ticketed → ChannelLists → ChannelLists
without_first side ws c = with_queue (taken ws) side c

-- what stands for a port that was not made
abbrev pub no_channel : ChannelLists
no_channel = record { lists = no_port; senders = buffer [] 0; receivers = buffer [] 0 }

-- the channel of a port
abbrev pub channel_of : List ChannelLists → Port → ChannelLists
channel_of cs p = slice_index_or cs (p.0 - 1) no_channel
