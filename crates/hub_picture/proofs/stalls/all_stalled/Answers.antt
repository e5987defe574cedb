use Rattle.std.proofs.Common.{◌∙◌, sym}
use Rattle.hub_picture.specs.Drawings.{stalls_in}
use Rattle.hub_picture.proofs.Kept.{kept, left}
use Rattle.hub_picture.proofs.stalls.all_stalled.Goals.{then-stalls_in+in_ok-push, else-stalls_in}
use Rattle.hub_picture.proofs.stalls.all_stalled.Goals as goal

pub loop-told-preserved : goal.loop-told-preserved
loop-told-preserved c =
    elim c.if-stalls_in.branch [
      | then-stalls_in+in_ok-push w ↦
          rw w.all-is
          (kept (stalls_in c.args.window) c.args.told.now c.loop-told.told-index c.told-item.result c.loop-told.all.items _ c.loop-told-test.true
          c.told-item.is c.loop-told.invariant (sym c.stalls_in.ensures ∙ w.if-stalls_in.true) w.in_ok-push.ensures.items)
      | else-stalls_in w ↦
          rw w.all-is
          (left (stalls_in c.args.window) c.args.told.now c.loop-told.told-index c.told-item.result c.loop-told.all.items c.loop-told-test.true
          c.told-item.is c.loop-told.invariant (sym c.stalls_in.ensures ∙ w.if-stalls_in.false))
    ]
