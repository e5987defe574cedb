use Rattle.std.proofs.Common.{◌≡◌, List, length, replicate, None}
use Rattle.std.specs.List.{fold}
use Rattle.hub_story.specs.declared.told.Told.{Told}
use Rattle.hub_story.specs.Partners.{with_way, ways_from}
use Rattle.hub_story.specs.PortMoves.{AreMoves}
use Rattle.hub_story.proofs.partners.partners_of.Given as goal

abbrev pub invariant-loop-place : goal.invariant-loop-place
invariant-loop-place l =
    (all : List Told) → AreMoves l.entries all l.moves
    → l.table.items ≡ fold with_way (replicate (length l.entries) None) (ways_from l.entries all 1 l.place)
