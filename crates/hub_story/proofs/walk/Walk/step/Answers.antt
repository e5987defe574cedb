use Rattle.std.proofs.Common.{◌≡◌, Some, arith, slice_get, sym, take}
use Rattle.hub_story.proofs.Walks.{one-further}
use Rattle.hub_story.proofs.walk.Walk.step.Goals as goal

pub returns : goal.returns
returns c =
    let j = c.args.journal.now in
    let place = c.args.place in
    let entry = c.entry-entry.result in
    let at = c.requires.at in
    let here : slice_get j.entries place ≡ Some entry = rw (sym c.entries.ensures) c.entry-entry.ensures in
    let next = one-further j.head j.entries place entry _ c.note_call.new.calls c.tell.new.told.items c.answer.new.events.items c.answer.new.self
    c.requires.within here at.places at.calls (c.in_ok-answer.ensures.ok j.head (take place j.entries) at.follows) c.note_call.ensures.pid
    (rw c.deref.ensures.0 at c.note_call.ensures.calls) (rw (c.deref-2.ensures.0, c.clear.ensures.items) at c.in_ok-tell.ensures) in
    record {
      at = record {
        follows = next.follows;
        steps = omega (arith, c.in_ok-answer.ensures.steps, at.steps);
        places = next.places;
        calls = next.calls;
      };
      came = next.came;
      entry = here;
    }
