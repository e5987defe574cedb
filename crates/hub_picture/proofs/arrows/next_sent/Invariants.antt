use Rattle.std.proofs.Common.{◌≡◌, drop}
use Rattle.hub_story.specs.Passing.{sends}
use Rattle.hub_picture.proofs.arrows.next_sent.Given as goal

abbrev pub invariant-loop-place : goal.invariant-loop-place
invariant-loop-place l = sends l.entries (drop l.from l.told) l.port ≡ sends l.entries (drop l.place l.told) l.port
