use Rattle.hub_story.proofs.Ending.{PlacesSoFar}
use Rattle.hub_story.proofs.late_ends.places_of.Given as goal

abbrev pub invariant-loop-place : goal.invariant-loop-place
invariant-loop-place l = PlacesSoFar l.ended l.place l.count l.places.items
