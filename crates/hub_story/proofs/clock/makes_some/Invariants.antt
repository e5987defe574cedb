use Rattle.std.proofs.Common.{◌≡◌, false, take}
use Rattle.hub_story.specs.Clock.{makes_some}
use Rattle.hub_story.proofs.clock.makes_some.Given as goal

abbrev pub invariant-loop-place : goal.invariant-loop-place
invariant-loop-place l = makes_some l.kind l.pid.0 (take l.place l.entries) ≡ false
