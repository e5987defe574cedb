use Rattle.std.proofs.Common.{◌≡◌, ◌≤◌, take}
use Rattle.hub_story.specs.Clock.{steps_made}
use Rattle.hub_story.proofs.clock.steps_made.Given as goal

abbrev pub invariant-loop-place : goal.invariant-loop-place
invariant-loop-place l = (l.made ≡ steps_made l.pid.0 (take l.place l.entries)) × (l.made ≤ l.place)
