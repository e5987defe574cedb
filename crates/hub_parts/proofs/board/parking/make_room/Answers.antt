use Rattle.std.proofs.Common.{ap, sym, subst, length, drop, get_or, ◌∙◌, ◌+◌, ◌≤◌}
use Rattle.hub_base.specs.declared.case.Case.{Case}
use Rattle.hub_base.specs.Ready.{port_of}
use Rattle.hub_parts.specs.Keeps.{AllMade}
use Rattle.hub_parts.specs.Parking.{with_case, with_cases}
use Rattle.hub_parts.specs.Queues.{roomy}
use Rattle.hub_parts.proofs.Lines.{length-with_case, made-next, with_cases-next}
use Rattle.hub_parts.proofs.board.parking.make_room.Goals as goal

pub room_for-requires : goal.room_for-requires
room_for-requires c =
    let loop = c.loop-case in
    subst (λ (x : Case). (port_of x).0 ≤ length loop.ports.items) (sym c.case-item.is)
    (made-next (length loop.ports.items) loop.case-index c.args.cases.now c.case-item.result c.loop-case-test.true loop.invariant.1).0

pub loop-case-preserved : goal.loop-case-preserved
loop-case-preserved c =
    let ports = c.loop-case.ports.items in
    let i = c.loop-case.case-index in
    let cases = c.args.cases.now in
    let case = c.case-item.result in
    let next = get_or cases i case in
    let waiting = c.args.tickets.now.waiting in
    let is = c.room_for.ensures ∙ ap (with_case (roomy waiting) ports) c.case-item.is in (
      ap (λ p. with_cases (λ i. roomy waiting) (i + 1) p (drop (i + 1) cases)) is
          ∙ with_cases-next (λ i. roomy waiting) i ports cases case c.loop-case-test.true ∙ c.loop-case.invariant.0,
      subst (λ n. AllMade n (drop (i + 1) cases)) (sym (ap length is ∙ length-with_case (roomy waiting) ports next))
          (made-next (length ports) i cases case c.loop-case-test.true c.loop-case.invariant.1).1,
    )
