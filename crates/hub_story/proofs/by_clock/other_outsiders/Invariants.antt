use Rattle.std.proofs.Common.{◌≡◌, ◌++◌, drop}
use Rattle.hub_story.specs.ByClock.{other_outsiders}
use Rattle.hub_story.proofs.by_clock.other_outsiders.Given as goal

abbrev pub invariant-loop-outsider : goal.invariant-loop-outsider
invariant-loop-outsider l = l.others.items ++ other_outsiders l.clock (drop l.outsider-index l.outside) ≡ other_outsiders l.clock l.outside
