use Rattle.std.proofs.Common.{◌∙◌, ◌++◌, [], ap, arith, length, subst, sym}
use Rattle.std.specs.List.{cons_option}
use Rattle.hub_story.specs.LastMoves.{AreLast}
use Rattle.hub_story.specs.Levels.{told_by}
use Rattle.hub_story_text.specs.Explained.{entries_of, told_of}
use Rattle.hub_story_text.specs.Waits.{AreWaits, waits_below}
use Rattle.hub_story_text.proofs.Lateness.{still-more, told-more}
use Rattle.hub_story_text.proofs.Ranks.{waits-next}
use Rattle.hub_story_text.proofs.seen.Seen.note.Goals as goal

pub returns : goal.returns
returns c =
    let e = c.args.explained.now in
    let es = entries_of e in
    let all = told_of e in
    let place = c.args.place in
    let came = c.args.came.now in
    let telling = c.requires.explained.known.telling in
    let so = c.requires.seen in
    let noted = rw c.entries.ensures at c.in_ok-note_all.ensures.last in
    record {
      seen = record {
        last = subst (λ l. AreLast es l c.note_all.new.self) (told-more telling c.requires.within c.requires.came)
            (noted (told_by place all) so.last);
        whole = c.note_all.ensures.whole;
        waits = subst (λ ws. AreWaits ws c.note.new.self)
            (ap (λ o. waits_below e.clock es all place ++ cons_option o []) c.told_wait.ensures ∙ sym (waits-next e.clock es place all))
            (c.in_ok-note.ensures.waits (waits_below e.clock es all place) so.waits);
        few = omega (arith, c.in_ok-note.ensures.few, so.few);
        waiting = still-more (length es) place all came _ _ c.end-end.result telling c.requires.within c.requires.came c.end-end.ensures so.waiting
            c.in_ok-note_waiting.ensures;
      };
      end = c.end-end.ensures;
    }
