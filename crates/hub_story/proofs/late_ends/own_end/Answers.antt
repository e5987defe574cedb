use Rattle.std.proofs.Common.{◌∙◌, sym}
use Rattle.hub_story.specs.Told.{ends_it}
use Rattle.hub_story.proofs.Late.{found-here, not-here, nowhere}
use Rattle.hub_story.proofs.late_ends.own_end.Goals as goal

pub loop-told-preserved : goal.loop-told-preserved
loop-told-preserved c =
    not-here (ends_it c.args.place) c.args.came.now c.loop-told.told-index c.told-item.result c.loop-told-test.true c.told-item.is
    (sym c.ends_it.ensures ∙ c.if-ends_it.false) c.loop-told.invariant

pub returns-then-ends_it : goal.returns-then-ends_it
returns-then-ends_it c =
    found-here (ends_it c.args.place) c.args.came.now c.loop-told.told-index c.told-item.result c.loop-told-test.true c.told-item.is
    (sym c.ends_it.ensures ∙ c.if-ends_it.true) c.loop-told.invariant

pub returns : goal.returns
returns c = nowhere (ends_it c.args.place) c.args.came.now c.loop-told.told-index c.loop-told-test.false c.loop-told.invariant
