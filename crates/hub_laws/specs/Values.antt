-- The values received on a port, and then those in its buffer, are the values sent, in order of
-- completion and each once. Both are read from entries and events alone. A process has one open call
-- at a time, so each sender's values come in its own order.
use Rattle.std.specs.Prelude.{◌≡◌, ◌++◌, List, Some}
use Rattle.hub_base.specs.declared.value.Port.{Port}
use Rattle.hub_base.specs.Entry.{Entry}
use Rattle.hub_base.specs.declared.head.Head.{Head}
use Rattle.hub_base.specs.State.{Channel, channel_at, buffer_of}
use Rattle.hub_base.specs.Runs.{state}
use Rattle.hub_base.specs.Values.{sent_values, received_values}

-- of each port that is made
abbrev pub ValuesLaw : Head → List Entry → Type 0
ValuesLaw h es =
    (p : Port) (c : Channel) → channel_at (state h es) p ≡ Some c →
    received_values h es p ++ buffer_of c ≡ sent_values h es p
