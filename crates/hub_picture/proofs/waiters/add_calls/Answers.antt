use Rattle.hub_picture.specs.Waiters.{waiters_of}
use Rattle.hub_picture.proofs.Kept.{flattened}
use Rattle.hub_picture.proofs.waiters.add_calls.Goals as goal

pub loop-call-preserved : goal.loop-call-preserved
loop-call-preserved c =
    let here = c.args.standing.now in
    let moves = here.moves.now in
    flattened (waiters_of moves.entries.now moves.told.now here.step here.stalled.now) c.args.calls.now c.loop-call.call-index
    c.call-item.result c.loop-call.all.items
    c.add_cases.new.all.items _ c.loop-call-test.true c.call-item.is c.loop-call.invariant
    (rw c.cases_at-cases.ensures at c.in_ok-add_cases.ensures)
