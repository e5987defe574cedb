use Rattle.std.proofs.Common.{◌∙◌, Some, ap, refl, sym}
use Rattle.std.proofs.lemmas.Option.{slice_get_read}
use Rattle.hub_parts.proofs.Copies.{over-next}
use Rattle.hub_parts.proofs.board.copy_channels_over.Goals as goal

pub loop-place-preserved : goal.loop-place-preserved
loop-place-preserved c =
    over-next c.loop-place.channels c.args.channels.now c.args.others.now c.loop-place.place c.copy_from.new.self c.loop-place-test.true c.requires.count
    (slice_get_read c.args.others.now _ c.loop-place.place c.index-others-place.result refl c.loop-place-test.true c.index-others-place.is
    ∙ ap Some (sym c.copy_from.ensures)) c.loop-place.invariant
