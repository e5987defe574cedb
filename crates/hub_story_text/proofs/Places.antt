-- By which steps values moved through a port: those of the port's sends and receives.
use Rattle.std.proofs.Common.{◌≡◌, List, [], ◌∷◌, map, refl, ap, ◌∙◌, subst, sym}
use Rattle.hub_base.specs.declared.value.Port.{Port}
use Rattle.hub_base.specs.Entry.{Entry}
use Rattle.hub_story.specs.declared.told.Told.{Told}
use Rattle.hub_story.specs.declared.moved.Moved.{Moved}
use Rattle.hub_story.specs.declared.port_moves.PortMoves.{PortMoves}
use Rattle.hub_story.specs.OfPorts.{things_on}
use Rattle.hub_story.specs.Passing.{receives, sends}
use Rattle.hub_story.specs.Stories.{IsFrom}
use Rattle.hub_base.specs.Values.{got_on, sent_on}
use Rattle.hub_story.specs.PortMoves.{AreMoves, move_at}
use Rattle.hub_story_text.specs.Fullest.{IsUp, steps_of}
use Rattle.hub_story_text.proofs.Levels.{moved_by_steps, steps-up}

steps-moved : (ms : List Moved) → steps_of (map move_at ms) ≡ moved_by_steps ms
steps-moved [] = refl
steps-moved (m ∷ ms) = ap (λ l. m.told.by ∷ l) (steps-moved ms)

pub sent-steps : (es : List Entry) (all : List Told) (moves : PortMoves) → AreMoves es all moves → (p : Port) →
    steps_of (things_on moves.sent p) ≡ moved_by_steps (sends es all p)
sent-steps es all moves so p = ap steps_of (so.sent p) ∙ steps-moved (sends es all p)

pub received-steps : (es : List Entry) (all : List Told) (moves : PortMoves) → AreMoves es all moves → (p : Port) →
    steps_of (things_on moves.received p) ≡ moved_by_steps (receives es all p)
received-steps es all moves so p = ap steps_of (so.received p) ∙ steps-moved (receives es all p)

-- these never go back
pub sent-up : (es : List Entry) (all : List Told) (moves : PortMoves) → AreMoves es all moves → IsFrom 0 all → (p : Port) →
    IsUp 0 (steps_of (things_on moves.sent p))
sent-up es all moves so order p = subst (IsUp 0) (sym (sent-steps es all moves so p)) (steps-up (sent_on p) es 0 all order)

pub received-up : (es : List Entry) (all : List Told) (moves : PortMoves) → AreMoves es all moves → IsFrom 0 all → (p : Port) →
    IsUp 0 (steps_of (things_on moves.received p))
received-up es all moves so order p = subst (IsUp 0) (sym (received-steps es all moves so p)) (steps-up (got_on p) es 0 all order)
