use Rattle.std.proofs.Common.{◌≡◌, take}
use Rattle.hub_story.specs.Passing.{beside}
use Rattle.hub_story.proofs.passing.beside.Given as goal

abbrev pub invariant-loop-place : goal.invariant-loop-place
invariant-loop-place l = l.passages.items ≡ beside l.sends (take l.place l.receives)
