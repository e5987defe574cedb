-- A port that carries a value more: which counts change, and when they can.
use Rattle.std.specs.Prelude.{◌<◌, ◌-◌, ◌^◌, List}
use Rattle.hub_base.specs.declared.value.Port.{Port}
use Rattle.hub_core.specs.declared.tally.Tally.{Tally}
use Rattle.hub_core.specs.declared.tally.Carried.{Carried}
use Rattle.hub_core.specs.declared.tally.Carried.TheVariants.{Sent, Received, Handed}
use Rattle.hub_core.specs.Records.{one_sent, one_received, one_handed}

-- the counts that change are below the greatest number
abbrev pub CanCarry : Carried → Tally → Type 0
CanCarry Sent t = t.sent < 2 ^ 32 - 1
CanCarry Received t = t.received < 2 ^ 32 - 1
CanCarry Handed t = (t.sent < 2 ^ 32 - 1) × (t.received < 2 ^ 32 - 1)

-- the tallies with one more value carried at the port
abbrev pub one_carried : Carried → Port → List Tally → List Tally
one_carried Sent = one_sent
one_carried Received = one_received
one_carried Handed = one_handed
