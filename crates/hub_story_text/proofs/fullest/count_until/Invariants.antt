use Rattle.std.proofs.Common.{◌≤◌, ◌+◌}
use Rattle.hub_story_text.specs.Fullest.{count_below}
use Rattle.hub_story_text.proofs.fullest.count_until.Given as goal

abbrev pub invariant-loop-count : goal.invariant-loop-count
invariant-loop-count l = l.count ≤ count_below (l.place + 1) l.steps
