use Rattle.std.proofs.Common.{◌∙◌, rules, length, ◌≡◌}
use Rattle.hub_live.proofs.Finishing.{compared_next, compared_all}
use Rattle.hub_live.proofs.held.compare_all.Goals as goal

pub loop-one-preserved : goal.loop-one-preserved
loop-one-preserved g c =
    let same = c.into_inner.ensures.inner ∙ c.into_seat.ensures.seat in
    compared_next c.loop-one.invariant c.compare.ensures.same same c.compare.ensures.stands c.in-Some.ensures.steps.0

pub returns-clause-stand : goal.returns-clause-stand
returns-clause-stand g c =
    let none : length c.loop-one.one-iterator.rest.items ≡ 0 = search (rules, c.loop-one.one-iterator.rest.ok, c.in-None.ensures.steps.0) in
    compared_all c.loop-one.invariant none
