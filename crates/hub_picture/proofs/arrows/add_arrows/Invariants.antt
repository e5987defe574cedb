use Rattle.std.proofs.Common.{◌≡◌, ◌++◌, drop}
use Rattle.hub_story.specs.Passing.{beside, passages, receives, sends}
use Rattle.hub_picture.specs.Drawings.{arrows_on}
use Rattle.hub_picture.proofs.arrows.add_arrows.Given as goal

abbrev pub invariant-loop-place : goal.invariant-loop-place
invariant-loop-place l =
    l.arrows.items ++ arrows_on l.window l.port
    (beside (sends l.entries (drop l.from l.told) l.port) (receives l.entries (drop l.place l.told) l.port))
    ≡ l.fn.arrows.items ++ arrows_on l.window l.port (passages l.entries l.told l.port)
