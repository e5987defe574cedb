use Rattle.std.proofs.Common.{◌≡◌, arith, length}
use Rattle.hub_base.proofs.Editions.{three-has}
use Rattle.hub_trace.specs.declared.pieces.Piece.TheVariants.{Asks}
use Rattle.hub_trace.proofs.Spelled.{entry-spelled, taken}
use Rattle.hub_trace.proofs.pieces.put_asked.Goals as goal

pub write_entry-requires : goal.write_entry-requires
write_entry-requires c = record { fits = three-has c.args.entry.now.step }

pub returns : goal.returns
returns c =
    let begins : c.len-line.result ≡ length c.args.out.now.items = omega (arith, c.len-line.ensures) in
    let ensured = c.in_ok-write_entry.ensures in
    taken (Asks c.args.entry) _ _ _ _ c.len-line.result begins ensured.ok (entry-spelled _ _ ensured.fits) (λ text h. h) c.take_out.ensures
