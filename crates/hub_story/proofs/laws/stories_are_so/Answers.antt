use Rattle.hub_story.proofs.Filling.{levels-law}
use Rattle.hub_story.proofs.InTime.{in-time-law}
use Rattle.hub_story.proofs.Passages.{passages-law}
use Rattle.hub_story.proofs.Stories.{sends-law}
use Rattle.hub_story.proofs.Waits.{ending-law, events-law, waiting-law}
use Rattle.hub_story.proofs.laws.stories_are_so.Goals as goal

pub returns : goal.returns
returns c =
    let h = c.args.head in
    let es = c.args.entries.now in
    record {
      events = events-law h es;
      sends = sends-law h es;
      passages = passages-law h es;
      in_time = in-time-law h es;
      ending = ending-law h es;
      levels = levels-law h es;
      waiting = waiting-law h es;
    }
