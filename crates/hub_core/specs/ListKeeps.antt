-- What the parts of a step ask of a machine's lists.
use Rattle.std.specs.Prelude.{◌≤◌, ◌<◌, ◌-◌, ◌^◌, ◌≡◌, ℕ, List, length}
use Rattle.hub_base.specs.declared.value.Port.{Port}
use Rattle.hub_base.specs.declared.case.Case.{Case}
use Rattle.hub_base.specs.Ready.{port_of}
use Rattle.hub_core.specs.declared.tally.Tally.{Tally}
use Rattle.hub_core.specs.Records.{tally_at}
use Rattle.hub_core.specs.ListReady.{BufferFits}
use Rattle.hub_parts.specs.Records.{Lists}
use Rattle.hub_parts.specs.Lists.{IsMade}

-- the case's port was made, or is nil
abbrev pub IsNamed : Lists → Case → Type 0
IsNamed b c = (port_of c).0 ≤ length b.ports

-- one more value can be counted on the port
pub record CanCount (ts : List Tally) (p : Port) : Type 0 where
  pub sent : (tally_at ts p).sent < 2 ^ 32 - 1
  pub received : (tally_at ts p).received < 2 ^ 32 - 1

-- what each made port keeps
pub record PortsKeep (b : Lists) (ts : List Tally) : Type 0 where
  pub count : length ts ≡ length b.ports
  pub fits : (p : Port) → IsMade b p → BufferFits b p
  pub counts : (p : Port) → IsMade b p → CanCount ts p

-- a case can fire on the port, with places for so many events
pub record MayFire (b : Lists) (ts : List Tally) (p : Port) (places : ℕ) : Type 0 where
  pub made : IsMade b p
  pub keep : PortsKeep b ts
  pub room : 1 < places
