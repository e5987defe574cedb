use Rattle.std.proofs.Common.{◌∷◌, [], ◌∙◌, ◌++◌, ap}
use Rattle.hub_picture.specs.declared.waiters.Waiter.{Waiter}
use Rattle.hub_picture.specs.Waiters.{waits_for}
use Rattle.hub_picture.proofs.Kept.{mapped}
use Rattle.hub_picture.proofs.waiters.add_cases.Goals as goal

pub loop-case-preserved : goal.loop-case-preserved
loop-case-preserved c =
    let here = c.args.standing.now in
    let moves = here.moves.now in
    let all = c.loop-case.all.items in
    mapped (waits_for moves.entries.now moves.told.now here.step here.stalled.now c.args.call.now) c.args.cases.now
    c.loop-case.case-index c.case-item.result all
    c.push.new.self.items _ c.loop-case-test.true c.case-item.is c.loop-case.invariant
    (c.in_ok-push.ensures.items ∙ ap (λ (w : Waiter). all ++ w ∷ []) c.waits_for.ensures)
