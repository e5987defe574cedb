use Rattle.std.proofs.Common.{◌≡◌, ◌∙◌, ◌++◌, ap, filter, length}
use Rattle.hub_story.specs.Leavers.{leavers}
use Rattle.hub_story.specs.Levels.{told_by}
use Rattle.hub_story.specs.Waiting.{still_waiting}
use Rattle.hub_story_text.specs.Explained.{entries_of, head_of, told_of}
use Rattle.hub_story_text.specs.OutsideText.{outside_text}
use Rattle.hub_story_text.specs.Seen.{waits_still}
use Rattle.hub_story_text.specs.StoryText.{end_heading, end_nobody, ports_text}
use Rattle.hub_story_text.specs.Waits.{waits_text}
use Rattle.hub_story_text.proofs.Chains.{four-behind}
use Rattle.hub_story_text.proofs.StepTexts.{waiters-told}
use Rattle.hub_story_text.proofs.seen.Seen.put_end.Goals as goal

pub put_outside-requires-clause-left : goal.put_outside-requires-clause-left
put_outside-requires-clause-left c =
    let e = c.args.explained.now in
    let es = entries_of e in
    c.deref-4.ensures.value ∙ c.requires.seen.last.receivers.left ∙ ap (leavers es) c.requires.explained.known.telling.within

pub put_outside-requires-clause-waiting : goal.put_outside-requires-clause-waiting
put_outside-requires-clause-waiting c =
    let e = c.args.explained.now in
    let es = entries_of e in
    c.deref-5.ensures.value ∙ c.requires.seen.waiting ∙ ap (filter (waits_still (told_of e))) c.requires.explained.known.telling.within

pub returns : goal.returns
returns c =
    let e = c.args.explained.now in
    let es = entries_of e in
    let told = told_of e in
    let out = c.args.out.now.items in
    let outside = outside_text e.clock es told (head_of e).procs in
    let still : c.args.self.now.waiting.items ≡ still_waiting told =
    c.requires.seen.waiting ∙ ap (filter (waits_still told)) c.requires.explained.known.telling.within in
    let others = rw (c.deref-2.ensures.value, still) at c.in_ok-others.ensures in
    let ports = c.in_ok-extend_from_slice.ensures.items ∙ ap (λ l. out ++ l) (c.deref.ensures.value ∙ c.requires.explained.known.ports) in
    let waits = rw (c.entries-entries.ensures, c.deref-3.ensures.value, others) at c.in_ok-put_waiters.ensures in
    rw (c.in_ok-put_outside.ensures, waits, c.in_ok-put_waits.ensures, ports)
    (four-behind out (ports_text es told) (waits_text e.clock es told) _ outside
    ∙ ap (λ l. out ++ (ports_text es told ++ waits_text e.clock es told ++ l ++ outside))
    (waiters-told end_nobody end_heading e.clock es (told_by (length es) told) c.args.self.now.last c.requires.seen.last _))
