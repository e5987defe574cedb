use Rattle.std.proofs.Common.{◌++◌, ◌∙◌, ap, codes}
use Rattle.hub_base.proofs.Growing.{flat-next}
use Rattle.hub_story.specs.declared.told.Told.{Told}
use Rattle.hub_story_text.specs.WaiterText.{who_words}
use Rattle.hub_story_text.proofs.waiters.put_left.Goals as goal

pub loop-told-preserved : goal.loop-told-preserved
loop-told-preserved c =
    let words = who_words (codes " left at step ") in
    flat-next words c.args.left.now c.loop-told.told-index c.told-item.result c.loop-told.out.items c.put_who.new.out.items _ c.loop-told-test.true
    c.loop-told.invariant (c.in_ok-put_who.ensures ∙ ap (λ (t : Told). c.loop-told.out.items ++ words t) c.told-item.is)
