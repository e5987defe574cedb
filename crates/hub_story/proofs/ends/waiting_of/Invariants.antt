use Rattle.std.proofs.Common.{◌≡◌, filter, take}
use Rattle.hub_story.specs.Ends.{waits_by_place}
use Rattle.hub_story.proofs.ends.waiting_of.Given as goal

abbrev pub invariant-loop-told : goal.invariant-loop-told
invariant-loop-told l = l.waiting.items ≡ filter (waits_by_place l.ends) (take l.told-index l.told)
