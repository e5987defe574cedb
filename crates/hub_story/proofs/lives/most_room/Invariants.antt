use Rattle.std.proofs.Common.{◌≡◌, take}
use Rattle.hub_story.specs.Lives.{most_room}
use Rattle.hub_story.proofs.lives.most_room.Given as goal

abbrev pub invariant-loop-told : goal.invariant-loop-told
invariant-loop-told l = l.room ≡ most_room l.entries (take l.told-index l.told) l.port l.place
