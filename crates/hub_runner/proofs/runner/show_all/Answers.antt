use Rattle.std.proofs.Common.{◌<◌, length, refl, arith}
use Rattle.hub_runner.proofs.Ports.{shown_next}
use Rattle.hub_runner.proofs.runner.show_all.Goals as goal

pub loop-other-preserved : goal.loop-other-preserved
loop-other-preserved g c =
    let low : c.loop-other.other-index < length c.loop-other.others = omega arith in
    shown_next c.loop-other.other-index c.other-item.result c.loop-other.invariant low refl c.meet.ensures.later c.meet.ensures.same
    c.meet.ensures.other c.meet.ensures.other_same c.meet.ensures.together
