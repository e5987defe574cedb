use Rattle.std.proofs.Common.{◌≡◌, arith, length}
use Rattle.hub_trace.specs.declared.pieces.Piece.TheVariants.{Tells}
use Rattle.hub_trace.proofs.Spelled.{event-spelled, taken}
use Rattle.hub_trace.proofs.pieces.put_event_words.Goals as goal

pub returns : goal.returns
returns c =
    let begins : c.len-line.result ≡ length c.args.out.now.items = omega (arith, c.len-line.ensures) in
    let ensured = c.in_ok-write_event.ensures in
    taken (Tells c.args.part c.args.what) _ _ _ _ c.len-line.result begins ensured.ok (event-spelled _ ensured.fits) (λ text h. h) c.take_out.ensures
