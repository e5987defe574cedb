-- Who was the last to send on a port, and to receive from it; whether all who received there have left; and who has left.
use Rattle.std.specs.Prelude.{◌≡◌, List, [], ◌∷◌, length, Option, None, Some, slice_index_or, slice_set, if◌then◌else◌}
use Rattle.hub_base.specs.declared.value.Port.{Port}
use Rattle.hub_base.specs.Entry.{Entry}
use Rattle.hub_parts.specs.declared.side.Side.{Side}
use Rattle.hub_story.specs.declared.by_port.TheConstants.{PORT_NUMBERS}
use Rattle.hub_story.specs.declared.last_moves.AtPort.{AtPort}
use Rattle.hub_story.specs.declared.last_moves.Mover.{Mover}
use Rattle.hub_story.specs.declared.last_moves.LastMoves.{LastMoves}
use Rattle.hub_story.specs.declared.moved.Moved.{Moved}
use Rattle.hub_story.specs.declared.moves.Move.{Move}
use Rattle.hub_story.specs.declared.told.Told.{Told}
use Rattle.hub_story.specs.Moves.{is_same}
use Rattle.hub_story.specs.OfPorts.{things_on}
use Rattle.hub_story.specs.Passing.{sends, receives}
use Rattle.hub_story.specs.Receivers.{AreReceivers, are_gone, gone_from}

-- the process that moved a value, and its step
abbrev pub mover_of : Told → Mover
mover_of t = record { pid = t.event.pid; asked = t.asked; by = t.by }

-- the last of these, or else the one before
abbrev pub latest : Option Mover → List Moved → Option Mover
latest before [] = before
latest before (m ∷ ms) = latest (Some (mover_of m.told)) ms

-- what is known of a port, of all that is told
abbrev pub known_of : List Entry → List Told → Port → AtPort
known_of es all p = record {
  sender = latest None (sends es all p);
  receiver = latest None (receives es all p);
  gone = gone_from es all p;
}

-- ---- kept event by event
-- what a table tells of a port
abbrev pub mover_at : List (Option Mover) → Port → Option Mover
mover_at table p = slice_index_or table p.0 None

-- what is known of it by the tables
abbrev pub known_at : LastMoves → Port → AtPort
known_at moves p = record {
  sender = mover_at moves.sent.items p;
  receiver = mover_at moves.received.items p;
  gone = are_gone moves.receivers.left.items (things_on moves.receivers.pids p);
}

-- with the mover of this, where it moved on that side
abbrev pub with_mover : Side → List (Option Mover) → Option Move → Mover → List (Option Mover)
with_mover s table None mover = table
with_mover s table (Some m) mover = if is_same s m.side then slice_set table m.port.0 (Some mover) else table

-- each table has a place for each number that a case can give a port
pub record IsWhole (moves : LastMoves) : Type 0 where
  pub sent : length moves.sent.items ≡ PORT_NUMBERS
  pub received : length moves.received.items ≡ PORT_NUMBERS

-- they tell what is known of each port, and who received there and has left
pub record AreLast (es : List Entry) (all : List Told) (moves : LastMoves) : Type 0 where
  pub known : (p : Port) → known_at moves p ≡ known_of es all p
  pub receivers : AreReceivers es all moves.receivers
