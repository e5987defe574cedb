use Rattle.std.proofs.Common.{◌≡◌, ◌++◌, drop}
use Rattle.hub_story.specs.Partners.{places_of}
use Rattle.hub_story.proofs.partners.places_of.Given as goal

abbrev pub invariant-loop-moved : goal.invariant-loop-moved
invariant-loop-moved l = l.places.items ++ places_of (drop l.moved-index l.moves) ≡ places_of l.moves
