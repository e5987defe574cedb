use Rattle.std.proofs.Common.{arith, subst, sym}
use Rattle.hub_core.specs.HubView.{state_of}
use Rattle.hub_core.specs.Looks.{value_at}
use Rattle.hub_chapters.specs.Checkpoint.{send_again}
use Rattle.hub_cut.specs.Cut.{Makes}
use Rattle.hub_cut.specs.Written.{one_of, sent_entries}
use Rattle.hub_cut.proofs.Parts.{sent_more}
use Rattle.hub_cut.proofs.Renewing.{can_grow, made_more, made_none, sent_none}
use Rattle.hub_cut.proofs.making.make_buffer.Goals as goal

pub loop-place-init : goal.loop-place-init
loop-place-init c =
    let hub = c.args.next.now.memory.hub in
    subst (λ es. Makes hub es hub) (sym (sent_none (state_of c.args.hub.now.memory.hub) c.args.port)) (made_none hub)

pub make_value-requires : goal.make_value-requires
make_value-requires c =
    let s = state_of c.args.hub.now.memory.hub in
    let p = c.args.port in
    record {
      can = can_grow c.args.next.now.memory.hub c.loop-place.next.memory.hub (sent_entries s p) (λ n. one_of (send_again p.0) (value_at s p n)) (sent_more s p)
          c.loop-place.place c.args.len (omega (arith, c.loop-place-test.true)) c.requires.can c.loop-place.invariant;
    }

pub loop-place-preserved : goal.loop-place-preserved
loop-place-preserved c =
    let s = state_of c.args.hub.now.memory.hub in
    let p = c.args.port in
    made_more c.args.next.now.memory.hub c.loop-place.next.memory.hub c.make_value.new.next.memory.hub (sent_entries s p)
    (λ n. one_of (send_again p.0) (value_at s p n)) (sent_more s p) c.loop-place.place c.loop-place.invariant c.in_ok-make_value.ensures
