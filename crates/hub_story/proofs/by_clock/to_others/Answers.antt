use Rattle.std.proofs.Common.{arith}
use Rattle.std.proofs.lemmas.Grind.{common_steps}
use Rattle.hub_story.proofs.by_clock.to_others.Goals as goal

pub loop-told-preserved : goal.loop-told-preserved
loop-told-preserved c = grind (arith, common_steps)
