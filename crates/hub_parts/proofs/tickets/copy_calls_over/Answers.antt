use Rattle.std.proofs.Common.{◌≡◌, ◌∙◌, Some, ap, refl, sym}
use Rattle.std.proofs.lemmas.Option.{slice_get_read}
use Rattle.hub_parts.specs.declared.tickets.LastCall.{LastCall}
use Rattle.hub_parts.proofs.Copies.{over-next}
use Rattle.hub_parts.proofs.tickets.copy_calls_over.Goals as goal

pub loop-place-preserved : goal.loop-place-preserved
loop-place-preserved c =
    let other : LastCall = c.index-others-place.result in
    let same : c.write_call.new.last ≡ other = c.write_call.ensures
    ∙ ap (λ xs. record { ticket = other.ticket; cases = record { items = xs } }) c.as_slice.ensures.value in
    over-next c.loop-place.calls c.args.calls.now c.args.others.now c.loop-place.place c.write_call.new.last c.loop-place-test.true c.requires
    (slice_get_read c.args.others.now _ c.loop-place.place other refl c.loop-place-test.true c.index-others-place.is ∙ ap Some (sym same))
    c.loop-place.invariant
