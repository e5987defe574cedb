use Rattle.std.proofs.Common.{ap, arith, map, slice_get, subst, sym, take}
use Rattle.std.specs.Prelude.{List}
use Rattle.hub_base.specs.declared.head.Head.{Head}
use Rattle.hub_base.specs.State.{OpenCall}
use Rattle.hub_core.specs.HubView.{state_of}
use Rattle.hub_chapters.specs.Checkpoint.{call_again}
use Rattle.hub_cut.specs.Cut.{CanMake, Makes}
use Rattle.hub_cut.specs.Written.{one_of}
use Rattle.hub_cut.proofs.Parts.{all_calls, calls_more}
use Rattle.hub_cut.proofs.Renewing.{can_grow, made_more}
use Rattle.hub_cut.proofs.making.make_calls.Goals as goal

pub make_call-requires : goal.make_call-requires
make_call-requires c =
    let hub = c.args.hub.now.memory.hub in
    let base = c.args.next.now.memory.hub in
    let calls = (state_of hub).parked in
    let procs = ap (λ (h : Head). h.procs) c.head.ensures.value in
    let can : CanMake base (map call_again (take hub.terms.head.procs calls)) =
    subst (λ (cs : List OpenCall). CanMake base (map call_again cs)) (sym (all_calls hub.terms.head hub.journal hub.terms.head.procs (omega arith)))
    c.requires.can in
    record {
      can = can_grow base c.loop-place.next.memory.hub (λ n. map call_again (take n calls)) (λ n. one_of call_again (slice_get calls n))
          (λ n. calls_more n calls) c.loop-place.place hub.terms.head.procs (omega (arith, procs, c.loop-place-test.true, c.from-place-end.ensures)) can
          c.loop-place.invariant;
    }

pub loop-place-preserved : goal.loop-place-preserved
loop-place-preserved c =
    let calls = (state_of c.args.hub.now.memory.hub).parked in
    made_more c.args.next.now.memory.hub c.loop-place.next.memory.hub c.make_call.new.next.memory.hub (λ n. map call_again (take n calls))
    (λ n. one_of call_again (slice_get calls n)) (λ n. calls_more n calls) c.loop-place.place c.loop-place.invariant c.in_ok-make_call.ensures

pub returns : goal.returns
returns c =
    let hub = c.args.hub.now.memory.hub in
    let procs = ap (λ (h : Head). h.procs) c.head.ensures.value in
    subst (λ (cs : List OpenCall). Makes c.args.next.now.memory.hub (map call_again cs) c.loop-place.next.memory.hub)
    (all_calls hub.terms.head hub.journal c.loop-place.place (omega (arith, procs, c.loop-place-test.false, c.from-place-end.ensures))) c.loop-place.invariant
