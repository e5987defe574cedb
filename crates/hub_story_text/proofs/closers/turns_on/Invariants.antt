use Rattle.std.proofs.Common.{◌≡◌, take}
use Rattle.hub_story_text.specs.Closers.{turns_on}
use Rattle.hub_story_text.proofs.closers.turns_on.Given as goal

abbrev pub invariant-loop-told : goal.invariant-loop-told
invariant-loop-told l = l.turns ≡ turns_on l.entries (take l.told-index l.told) l.port
