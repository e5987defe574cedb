use Rattle.hub_picture.proofs.Lives.{lanes-next}
use Rattle.hub_picture.proofs.lanes.put_lanes.Goals as goal

pub loop-turn-preserved : goal.loop-turn-preserved
loop-turn-preserved c =
    lanes-next c.args.turns.now c.loop-turn.turn-index _ c.loop-turn.lane c.after-lane.result c.loop-turn.lanes.items c.put_left.new.lanes.items _
    c.loop-turn-test.true c.after-lane.ensures c.in_ok-put_left.ensures c.loop-turn.invariant
