use Rattle.hub_story.proofs.Ending.{PlacesSoFar}
use Rattle.hub_story.proofs.ends.ends_of.Given as goal

abbrev pub invariant-loop-place : goal.invariant-loop-place
invariant-loop-place l = PlacesSoFar l.told l.place l.count l.ends.items
