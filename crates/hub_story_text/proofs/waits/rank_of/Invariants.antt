use Rattle.std.proofs.Common.{◌≡◌, ◌++◌, drop, take}
use Rattle.hub_story_text.specs.Waits.{with_wait}
use Rattle.hub_story_text.proofs.waits.rank_of.Given as goal

abbrev pub invariant-loop-rank : goal.invariant-loop-rank
invariant-loop-rank l = with_wait l.wait l.ranked ≡ take l.rank l.ranked ++ with_wait l.wait (drop l.rank l.ranked)
