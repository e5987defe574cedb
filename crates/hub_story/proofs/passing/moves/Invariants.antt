use Rattle.std.proofs.Common.{◌≡◌, take}
use Rattle.hub_story.specs.Sides.{moves_on}
use Rattle.hub_story.proofs.passing.moves.Given as goal

abbrev pub invariant-loop-told : goal.invariant-loop-told
invariant-loop-told l = l.moves.items ≡ moves_on l.side l.port l.entries (take l.told-index l.told)
