use Rattle.std.proofs.Common.{◌+◌, ◌∙◌, ◌++◌, ap, arith, map, take, slice_get}
use Rattle.hub_base.specs.declared.head.Head.{Head}
use Rattle.hub_base.specs.State.{OpenCall}
use Rattle.std.specs.Prelude.{List}
use Rattle.hub_core.specs.HubView.{state_of}
use Rattle.hub_chapters.specs.Checkpoint.{call_again}
use Rattle.hub_cut.specs.Written.{one_of}
use Rattle.hub_cut.proofs.Parts.{grown, calls_more, all_calls}
use Rattle.hub_cut.proofs.checkpoints.write_calls.Goals as goal

pub loop-place-preserved : goal.loop-place-preserved
loop-place-preserved c =
    let calls = (state_of c.args.hub.now.memory.hub).parked in
    grown c.args.entries.now.items c.loop-place.entries.items c.write_call.new.entries.items (map call_again (take c.loop-place.place calls))
    (one_of call_again (slice_get calls c.loop-place.place)) (map call_again (take (c.loop-place.place + 1) calls))
    c.in_ok-write_call.ensures c.loop-place.invariant (calls_more c.loop-place.place calls)

pub returns : goal.returns
returns c =
    let hub = c.args.hub.now.memory.hub in
    let procs = ap (λ (h : Head). h.procs) c.head.ensures.value in
    c.loop-place.invariant
    ∙ ap (λ (cs : List OpenCall). c.args.entries.now.items ++ map call_again cs)
    (all_calls hub.terms.head hub.journal c.loop-place.place (omega (arith, procs, c.loop-place-test.false, c.from-place-end.ensures)))
