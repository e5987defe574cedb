use Rattle.std.proofs.Common.{◌∙◌, [], ap, sym}
use Rattle.hub_base.proofs.Growing.{kept-none, kept-some}
use Rattle.hub_picture.specs.Lanes.{turn_of}
use Rattle.hub_picture.proofs.lanes.turns_of.Goals.{in-Some+in_ok-push, in_default}
use Rattle.hub_picture.proofs.lanes.turns_of.Goals as goal

pub loop-told-preserved : goal.loop-told-preserved
loop-told-preserved c =
    let f = turn_of c.args.entries.now in
    let i = c.loop-told.told-index in
    let told = c.told-item.result in
    let old = c.loop-told.turns.items in
    let here = ap f (sym c.told-item.is) ∙ sym c.turn_of.ensures in
    elim c.match-turn_of.branch [
      | in-Some+in_ok-push w ↦
          rw w.turns-is
          (w.in_ok-push.ensures.items
          ∙ kept-some f c.args.told.now i told w.in-Some.turn [] old c.loop-told-test.true (here ∙ w.in-Some.is) c.loop-told.invariant)
      | in_default w ↦
          rw w.turns-is (kept-none f c.args.told.now i told [] old c.loop-told-test.true (here ∙ w.in_default.is) c.loop-told.invariant)
    ]
