use Rattle.std.proofs.Common.{◌≡◌, ◌∙◌, ◌++◌, ◌+◌, arith, drop, length, refl, subst}
use Rattle.std.specs.Prelude.{slice_get}
use Rattle.hub_session.specs.declared.structs.TheConstants.{NO_ROOM, WRITTEN}
use Rattle.hub_session.specs.Pieces.{Puts}
use Rattle.hub_session.specs.Texts.{pieces_by}
use Rattle.hub_session.proofs.Texts.{puts_first, reads_none, reads_no_room, reads_some}
use Rattle.hub_session.proofs.text.Source.read.Goals as goal

pub returns-in-Ok-false-clause-reads : goal.returns-in-Ok-false-clause-reads
returns-in-Ok-false-clause-reads c =
    let ps = pieces_by c.args.self.now in
    let was = c.clear.new.self.items in
    let now = c.put.new.out.items in
    reads_none ps c.args.number was now c.args.place.now c.no_piece.result
    (subst (λ there. Puts (slice_get ps c.args.number) there was now) c.in-Ok-false.field-0-test c.in-Ok-false.ensures.ok) c.no_piece.ensures

pub returns-then-place-len-clause-reads : goal.returns-then-place-len-clause-reads
returns-then-place-len-clause-reads c =
    let ps = pieces_by c.args.self.now in
    let first = c.put.new.out.items in
    let long : c.len-then-place-len.result ≡ length first = omega (arith, c.len-then-place-len.ensures, c.put.new.out.ok) in
    reads_no_room ps c.args.number first c.args.place.now c.told-then-place-len.result
    (puts_first (slice_get ps c.args.number) c.in-Ok-true.field-0 c.clear.new.self.items first c.in-Ok-true.field-0-test c.clear.ensures.items
    c.in-Ok-true.ensures.ok) (omega (arith, c.if-place-len.true, c.len.ensures, c.put.new.out.ok))
    (c.told-then-place-len.ensures ∙ (λ i. record { what = NO_ROOM; count = 0; length = long i }))

pub returns-clause-reads : goal.returns-clause-reads
returns-clause-reads c =
    let ps = pieces_by c.args.self.now in
    let first = c.put.new.out.items in
    let all = c.put_more-count.new.out.items in
    let place = c.args.place.now in
    let count = 1 + c.put_more-count.result in
    let len : c.len-2.result ≡ length all = omega (arith, c.len-2.ensures, c.put_more-count.new.out.ok) in
    let told : c.len-3.result ≡ length all = omega (arith, c.len-3.ensures, c.put_more-count.new.out.ok) in
    let copied : c.copy_from_slice.new.self ≡ all = c.copy_from_slice.ensures.after ∙ c.deref.ensures.value in
    reads_some ps c.args.number c.put_more-count.result count first all place (c.copy_from_slice.new.self ++ drop c.len-2.result place) c.told-2.result
    (puts_first (slice_get ps c.args.number) c.in-Ok-true.field-0 c.clear.new.self.items first c.in-Ok-true.field-0-test c.clear.ensures.items
    c.in-Ok-true.ensures.ok) c.put_more-count.ensures.pieces (omega (arith, c.if-place-len.false, c.len.ensures, c.put.new.out.ok))
    c.put_more-count.ensures.fits refl (c.told-2.ensures ∙ (λ i. record { what = WRITTEN; count = count; length = told i }))
    (λ i. copied i ++ drop (len i) place)
