use Rattle.std.proofs.Common.{ap, sym, subst, drop, ◌∙◌, ◌+◌}
use Rattle.hub_parts.specs.Parking.{CanJoin, CaseFits, all_joined, with_case}
use Rattle.hub_parts.specs.Queues.{joined, waiter_at}
use Rattle.hub_parts.proofs.Lines.{joins-next, with_cases-next}
use Rattle.hub_parts.proofs.board.parking.join.Goals as goal

pub join_for-requires : goal.join_for-requires
join_for-requires c =
    let case = c.index-cases-i.result in
    subst (CaseFits c.loop-i.ports.items) (sym c.index-cases-i.is)
    (joins-next c.args.pid c.args.ticket c.loop-i.i c.loop-i.ports.items c.args.cases.now case c.loop-i-test.true c.loop-i.invariant.1).0

pub loop-i-preserved : goal.loop-i-preserved
loop-i-preserved c =
    let a = c.args in
    let ports = c.loop-i.ports.items in
    let i = c.loop-i.i in
    let cases = a.cases.now in
    let case = c.index-cases-i.result in
    let is = c.join_for.ensures ∙ ap (with_case (joined (waiter_at a.pid a.ticket i)) ports) c.index-cases-i.is in
    let inside = c.loop-i-test.true in (
      ap (λ p. all_joined a.pid a.ticket (i + 1) p (drop (i + 1) cases)) is
          ∙ with_cases-next (λ i. joined (waiter_at a.pid a.ticket i)) i ports cases case inside ∙ c.loop-i.invariant.0,
      subst (λ p. CanJoin a.pid a.ticket (i + 1) p (drop (i + 1) cases)) (sym is)
          (joins-next a.pid a.ticket i ports cases case inside c.loop-i.invariant.1).1,
    )
