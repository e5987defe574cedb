-- How calls ended that waited.
use Rattle.std.specs.Prelude.{◌≡◌, ℕ, List, filter}
use Rattle.hub_story.specs.declared.late_ends.LateEnds.{LateEnds}
use Rattle.hub_story.specs.declared.told.Told.{Told}
use Rattle.hub_story.specs.Ends.{AreEnds}
use Rattle.hub_story.specs.Outlines.{ends_late}

-- all that ended late of what is told, and of so many entries the places of their ends
pub record AreLate (all : List Told) (count : ℕ) (late : LateEnds) : Type 0 where
  pub ended : late.ended ≡ filter ends_late all
  pub places : AreEnds late.ended count late.places.items
