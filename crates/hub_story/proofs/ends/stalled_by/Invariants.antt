use Rattle.std.proofs.Common.{◌≡◌, take}
use Rattle.hub_story.specs.Waiting.{stalled_by}
use Rattle.hub_story.proofs.ends.stalled_by.Given as goal

abbrev pub invariant-loop-told : goal.invariant-loop-told
invariant-loop-told l = l.stalled.items ≡ stalled_by (take l.told-index l.told) l.place
