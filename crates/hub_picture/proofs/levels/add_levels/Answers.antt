use Rattle.std.proofs.Common.{arith}
use Rattle.std.proofs.lemmas.Grind.{common_steps}
use Rattle.hub_picture.proofs.levels.add_levels.Goals.{then-not-is_same+in_ok-add_shown, else-not-is_same}
use Rattle.hub_picture.proofs.levels.add_levels.Goals as goal

pub loop-index-preserved : goal.loop-index-preserved
loop-index-preserved c = elim c.if-not-is_same.branch [
  | then-not-is_same+in_ok-add_shown w ↦ grind (arith, common_steps)
  | else-not-is_same w ↦ grind (arith, common_steps)
]
