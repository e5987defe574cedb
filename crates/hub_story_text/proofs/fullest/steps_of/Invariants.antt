use Rattle.std.proofs.Common.{◌≡◌, ◌++◌, drop}
use Rattle.hub_story_text.specs.Fullest.{steps_of}
use Rattle.hub_story_text.proofs.fullest.steps_of.Given as goal

abbrev pub invariant-loop-moved : goal.invariant-loop-moved
invariant-loop-moved l = l.steps.items ++ steps_of (drop l.moved-index l.moves) ≡ steps_of l.moves
