use Rattle.std.proofs.Common.{rules, length, ◌≡◌}
use Rattle.hub_live.proofs.Finishing.{compared_next, compared_all}
use Rattle.hub_live.proofs.desk.Desk.compare_all.Goals as goal

pub loop-seat-preserved : goal.loop-seat-preserved
loop-seat-preserved g c =
    compared_next c.loop-seat.invariant c.compare.ensures.same c.into_inner.ensures.inner c.compare.ensures.stands c.in-Some.ensures.steps.0

pub returns-clause-stand : goal.returns-clause-stand
returns-clause-stand g c =
    let none : length c.loop-seat.seat-iterator.rest.items ≡ 0 = search (rules, c.loop-seat.seat-iterator.rest.ok, c.in-None.ensures.steps.0) in
    compared_all c.loop-seat.invariant none
