use Rattle.std.proofs.Common.{◌≡◌, take}
use Rattle.hub_story.specs.Leavers.{leavers}
use Rattle.hub_story.proofs.exits.leavers_of.Given as goal

abbrev pub invariant-loop-told : goal.invariant-loop-told
invariant-loop-told l = l.left.items ≡ leavers l.entries (take l.told-index l.told)
