use Rattle.std.proofs.Common.{◌∙◌, refl}
use Rattle.hub_session.proofs.Fitting.{fits_at}
use Rattle.hub_session.proofs.Texts.{put_there}
use Rattle.hub_session.proofs.text.put_given.Goals as goal

pub put_piece-requires : goal.put_piece-requires
put_piece-requires c =
    let hub = c.args.hub.now in
    record {
      fits = rw (c.by_slice.ensures, c.given-entry.ensures.entry, c.head.ensures, c.locked.ensures)
          (fits_at hub.locked.hub.terms.head.edition hub.given c.place_of.result c.given-entry.ensures.fits);
    }

pub returns-clause-ok : goal.returns-clause-ok
returns-clause-ok c =
    let hub = c.args.hub.now in
    let put = c.put_piece in
    put_there put.result c.args.out.now.items put.new.out.items (record { head = hub.locked.hub.terms.head; entries = hub.given })
    c.head.result c.by_slice.result c.place_of.result c.args.number _ (rw (c.head.ensures, c.locked.ensures) refl)
    (c.by_slice.ensures ∙ c.given-entry.ensures.entry) c.place_of.ensures refl put.ensures.ok
