-- What is kept of all that a journal tells.
use Rattle.std.specs.Prelude.{◌≡◌, ◌&&◌, not, nat_lt, Bool, List, [], ◌∷◌, filter, if◌then◌else◌}
use Rattle.hub_base.specs.Entry.{Entry}
use Rattle.hub_laws.specs.Replies.{is_parked}
use Rattle.hub_story.specs.declared.outline.Outline.{Outline}
use Rattle.hub_story.specs.declared.told.Told.{Told}
use Rattle.hub_story.specs.Lives.{is_turn}
use Rattle.hub_story.specs.Partners.{is_made}
use Rattle.hub_story.specs.PortMoves.{AreMoves}

-- the event says that a call ended by a later step than its own
abbrev pub ends_late : Told → Bool
ends_late t = not (is_parked t.event.what) && nat_lt t.asked t.by

-- the event, where it is wanted
abbrev pub kept : Bool → Told → List Told
kept wanted t = if wanted then t ∷ [] else []

-- of all that is told, which calls moved values; and that a port was made, that one was closed or opened again, and that a call
-- ended late, each time
pub record IsOutline (es : List Entry) (all : List Told) (o : Outline) : Type 0 where
  pub moves : AreMoves es all o.moves
  pub made : o.made.items ≡ filter (λ t. is_made t.event.what) all
  pub turns : o.turns.items ≡ filter (is_turn es) all
  pub ended : o.ended ≡ filter ends_late all
