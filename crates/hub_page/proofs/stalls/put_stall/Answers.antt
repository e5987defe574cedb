use Rattle.std.proofs.Common.{◌∙◌, ◌++◌, ap}
use Rattle.hub_base.proofs.Growing.{flat-next}
use Rattle.hub_story.specs.declared.told.Told.{Told}
use Rattle.hub_page.specs.Stalls.{call_of}
use Rattle.hub_page.proofs.stalls.put_stall.Goals as goal

pub loop-own-preserved : goal.loop-own-preserved
loop-own-preserved c =
    let stall = c.args.stall.now in
    let out = c.loop-own.out.items in
    flat-next (call_of stall) stall.stalled.now c.loop-own.own-index c.own-item.result out c.put_call.new.out.items _ c.loop-own-test.true
    c.loop-own.invariant (c.in_ok-put_call.ensures ∙ ap (λ (t : Told). out ++ call_of stall t) c.own-item.is)
