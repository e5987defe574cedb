use Rattle.std.proofs.Common.{◌∙◌, sym}
use Rattle.hub_picture.specs.Drawings.{makes_port}
use Rattle.hub_picture.proofs.Kept.{kept, left}
use Rattle.hub_picture.proofs.moves.made_of.Goals.{then-makes_port+in_ok-push, else-makes_port}
use Rattle.hub_picture.proofs.moves.made_of.Goals as goal

pub loop-told-preserved : goal.loop-told-preserved
loop-told-preserved c =
    elim c.if-makes_port.branch [
      | then-makes_port+in_ok-push w ↦
          rw w.made-is
          (kept makes_port c.args.told.now c.loop-told.told-index c.told-item.result c.loop-told.made.items _ c.loop-told-test.true
          c.told-item.is c.loop-told.invariant (sym c.makes_port.ensures ∙ w.if-makes_port.true) w.in_ok-push.ensures.items)
      | else-makes_port w ↦
          rw w.made-is
          (left makes_port c.args.told.now c.loop-told.told-index c.told-item.result c.loop-told.made.items c.loop-told-test.true
          c.told-item.is c.loop-told.invariant (sym c.makes_port.ensures ∙ w.if-makes_port.false))
    ]
