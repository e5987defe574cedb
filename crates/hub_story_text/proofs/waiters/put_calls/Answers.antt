use Rattle.std.proofs.Common.{◌++◌, ◌∙◌, ap}
use Rattle.hub_base.proofs.Growing.{flat-next}
use Rattle.hub_story.specs.declared.told.Told.{Told}
use Rattle.hub_story.specs.LastMoves.{known_at}
use Rattle.hub_story_text.specs.WaiterText.{waiter_words}
use Rattle.hub_story_text.proofs.waiters.put_calls.Goals as goal

pub loop-told-preserved : goal.loop-told-preserved
loop-told-preserved c =
    let words = waiter_words c.args.entries.now (known_at c.args.moves.now) in
    flat-next words c.args.waiters.now c.loop-told.told-index c.told-item.result c.loop-told.out.items c.put_waiter.new.out.items _
    c.loop-told-test.true c.loop-told.invariant
    (c.in_ok-put_waiter.ensures ∙ ap (λ (t : Told). c.loop-told.out.items ++ words t) c.told-item.is)
