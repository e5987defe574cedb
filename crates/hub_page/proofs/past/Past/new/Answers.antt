use Rattle.hub_page.specs.Known.{entries_of}
use Rattle.hub_page.proofs.past.Past.new.Goals as goal

pub returns : goal.returns
returns c =
    let none = c.requires.known.known.telling.none in
    record {
      at = c.in_ok-new.ensures.at;
      seen = c.in_ok-new-2.ensures c.args.known.now.explained;
      levels = rw none (c.in_ok-new-3.ensures.none (entries_of c.args.known.now));
      whole_levels = c.in_ok-new-3.ensures.whole;
      parked = rw none (rw c.procs.ensures at c.in_ok-new-4.ensures.none);
      whole_parked = rw c.procs.ensures at c.in_ok-new-4.ensures.whole;
    }
