-- Which calls moved values through which ports, by the places of their entries.
use Rattle.std.specs.Prelude.{◌≡◌, List, map}
use Rattle.hub_base.specs.declared.value.Port.{Port}
use Rattle.hub_base.specs.Entry.{Entry}
use Rattle.hub_story.specs.declared.moved.Moved.{Moved}
use Rattle.hub_story.specs.declared.port_moves.PortMove.{PortMove}
use Rattle.hub_story.specs.declared.port_moves.PortMoves.{PortMoves}
use Rattle.hub_story.specs.declared.told.Told.{Told}
use Rattle.hub_story.specs.OfPorts.{things_on}
use Rattle.hub_story.specs.Passing.{receives, sends}

-- the call that moved it
abbrev pub move_at : Moved → PortMove
move_at m = record { place = m.told.asked; by = m.told.by }

-- all that are told, port by port
pub record AreMoves (es : List Entry) (all : List Told) (moves : PortMoves) : Type 0 where
  pub sent : (p : Port) → things_on moves.sent p ≡ map move_at (sends es all p)
  pub received : (p : Port) → things_on moves.received p ≡ map move_at (receives es all p)
