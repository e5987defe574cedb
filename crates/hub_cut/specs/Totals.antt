-- What a port has carried since its hub was opened, in counts of 64 bits.
use Rattle.std.specs.Prelude.{ℕ, ◌+◌, ◌-◌, ◌^◌, min, length, Option}
use Rattle.std.specs.Option.{option_map}
use Rattle.hub_base.specs.declared.counts.Look.{Look}
use Rattle.hub_base.specs.declared.value.Port.{Port}
use Rattle.hub_base.specs.State.{State, Channel, channel_at}
use Rattle.hub_cut.specs.declared.totals.Totals.{Totals}

-- a count that stays at the greatest number of 64 bits
abbrev pub in_64_bits : ℕ → ℕ
in_64_bits n = min n (2 ^ 64 - 1)

abbrev pub totals_of : Channel → Totals
totals_of c =
    record {
      cap = c.cap;
      len = length c.sent - c.received;
      sent = in_64_bits (length c.sent);
      received = in_64_bits c.received;
      closed = c.closed;
    }

-- of a port that was made; none of port 0 and of a port that was not
abbrev pub totals_at : State → Port → Option Totals
totals_at s p = option_map totals_of (channel_at s p)

-- the counts of a chapter, with what was received before
abbrev pub with_base : ℕ → Look → Totals
with_base base look =
    record {
      cap = look.cap;
      len = look.counts.len;
      sent = in_64_bits (base + look.counts.sent);
      received = in_64_bits (base + look.counts.received);
      closed = look.counts.closed;
    }
