-- What a look at a port shows of a state. Go: "Length and capacity".
use Rattle.std.specs.Prelude.{ℕ, ◌-◌, ◌==◌, nat_lt, List, length, Option, None, Some, slice_get, option_and_then, if◌then◌else◌}
use Rattle.std.specs.Option.{option_map}
use Rattle.hub_base.specs.declared.value.Port.{Port}
use Rattle.hub_base.specs.declared.value.Value.{Value}
use Rattle.hub_base.specs.declared.counts.Counts.{Counts}
use Rattle.hub_base.specs.declared.counts.Look.{Look}
use Rattle.hub_base.specs.State.{State, Channel, channel_at, buffer_of}
use Rattle.hub_parts.specs.Records.{Lists, PortLists}
use Rattle.hub_parts.specs.Lists.{port_at}
use Rattle.hub_core.specs.declared.tally.Tally.{Tally}
use Rattle.hub_core.specs.Records.{tally_at}

-- the counts of a channel
abbrev pub counts_of : Channel → Counts
counts_of c =
    record {
      len = length c.sent - c.received;
      sent = length c.sent;
      received = c.received;
      closed = c.closed;
    }

-- the capacity and the counts of a port that was made; none of port 0 and of a port that was not
abbrev pub look_at : State → Port → Option Look
look_at s p = option_map (λ c. record { cap = c.cap; counts = counts_of c }) (channel_at s p)

-- the value at place i of a port's buffer, 0 the oldest
abbrev pub value_at : State → Port → ℕ → Option Value
value_at s p i = option_and_then (λ c. slice_get (buffer_of c) i) (channel_at s p)

-- ---- the same, from a machine's lists
-- the counts of a port
abbrev pub counts_shown : PortLists → Tally → Counts
counts_shown q t =
    record {
      len = t.sent - t.received;
      sent = t.sent;
      received = t.received;
      closed = q.closed;
    }

-- the capacity and the counts of a port
abbrev pub look_of : PortLists → Tally → Look
look_of q t = record { cap = q.cap; counts = counts_shown q t }

-- what a look at a port shows
abbrev pub look_on : Lists → List Tally → Port → Option Look
look_on b ts p =
    if p.0 == 0 then None
    else if nat_lt (length b.ports) p.0 then None
    else Some (look_of (port_at b p) (tally_at ts p))

-- the value at place i of a port's buffer
abbrev pub value_on : Lists → Port → ℕ → Option Value
value_on b p i =
    if p.0 == 0 then None
    else if nat_lt (length b.ports) p.0 then None
    else slice_get (port_at b p).buffer i
