use Rattle.hub_story.specs.Walks.{IsAt}
use Rattle.hub_trace.proofs.ports.Ports.of.Given as goal

abbrev pub invariant-loop-place : goal.invariant-loop-place
invariant-loop-place l = IsAt l.journal l.place l.walk
