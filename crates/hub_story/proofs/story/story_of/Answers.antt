use Rattle.std.proofs.Common.{◌∙◌, sym, ap, map, List}
use Rattle.hub_base.specs.Entry.{Entry}
use Rattle.hub_story.specs.Waiting.{still_waiting, open_call}
use Rattle.hub_story.proofs.Ordered.{in-order}
use Rattle.hub_story.proofs.Ending.{places-below, waits-still}
use Rattle.hub_story.proofs.Waits.{waiting-law}
use Rattle.hub_story.proofs.story.story_of.Goals as goal

pub returns : goal.returns
returns c =
    let ends = rw (c.deref.ensures.value, c.len.ensures, c.entries.ensures) at c.in_ok-ends.ensures in
    let waiting = rw (c.deref-3.ensures.value, c.deref-2.ensures.value) at c.in_ok-waiting.ensures in
    let below = rw (sym c.in_ok-told.ensures) at (places-below c.args.journal.now.head c.args.journal.now.entries) in
    let still = waiting ∙ waits-still _ _ _ ends below in
    let entries : List Entry = c.args.journal.now.entries in
    record {
      told = c.in_ok-told.ensures;
      in_order = rw c.in_ok-told.ensures (in-order c.args.journal.now.head c.args.journal.now.entries);
      ends = ends;
      waiting = still;
      calls =
          ap (map (open_call entries)) (still ∙ ap still_waiting c.in_ok-told.ensures) ∙ waiting-law c.args.journal.now.head entries;
    }
