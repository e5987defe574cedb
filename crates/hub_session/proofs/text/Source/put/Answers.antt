use Rattle.std.proofs.Common.{ap}
use Rattle.hub_cut.specs.Recorder.{journal_of}
use Rattle.hub_session.specs.Texts.{pieces_by}
use Rattle.hub_session.proofs.Fitting.{fits_at}
use Rattle.hub_session.proofs.Texts.{put_there}
use Rattle.hub_session.proofs.text.Source.put.Goals as goal

pub put_piece-requires : goal.put_piece-requires
put_piece-requires c =
    let hub = c.in-Locked.hub.now.hub in
    record {
      fits = rw (c.entry.ensures.entry, c.head.ensures) (fits_at hub.terms.head.edition hub.journal c.place_of-place.result c.entry.ensures.fits);
    }

pub put_piece-requires-in-Chapter : goal.put_piece-requires-in-Chapter
put_piece-requires-in-Chapter c =
    let hub = c.in-Chapter.hub.now.memory.hub in
    record {
      fits = rw (c.entry-in-Chapter.ensures.entry, c.head-in-Chapter.ensures.value)
          (fits_at hub.terms.head.edition hub.journal c.place_of-place.result c.entry-in-Chapter.ensures.fits);
    }

pub returns-in-Locked-clause-ok : goal.returns-in-Locked-clause-ok
returns-in-Locked-clause-ok c =
    let put = c.put_piece in
    put_there put.result c.args.out.now.items put.new.out.items (journal_of c.in-Locked.hub.now.hub) c.head.result c.entry.result
    c.place_of-place.result c.args.number (pieces_by c.args.self.now) c.head.ensures c.entry.ensures.entry c.place_of-place.ensures
    (ap pieces_by c.in-Locked.is) put.ensures.ok

pub returns-in-Chapter-clause-ok : goal.returns-in-Chapter-clause-ok
returns-in-Chapter-clause-ok c =
    let put = c.put_piece-in-Chapter in
    put_there put.result c.args.out.now.items put.new.out.items (journal_of c.in-Chapter.hub.now.memory.hub) c.head-in-Chapter.result
    c.entry-in-Chapter.result c.place_of-place.result c.args.number (pieces_by c.args.self.now) c.head-in-Chapter.ensures.value
    c.entry-in-Chapter.ensures.entry c.place_of-place.ensures (ap pieces_by c.in-Chapter.is) put.ensures.ok
