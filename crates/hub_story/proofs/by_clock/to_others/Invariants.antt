use Rattle.std.proofs.Common.{◌≡◌, ◌++◌, drop}
use Rattle.hub_story.specs.ByClock.{to_others}
use Rattle.hub_story.proofs.by_clock.to_others.Given as goal

abbrev pub invariant-loop-told : goal.invariant-loop-told
invariant-loop-told l = l.others.items ++ to_others l.clock (drop l.told-index l.all) ≡ to_others l.clock l.all
