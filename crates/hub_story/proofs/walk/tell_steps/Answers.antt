use Rattle.std.proofs.Common.{◌≤◌, ◌<◌, ◌++◌, ◌∙◌, ap, arith, length, sym}
use Rattle.hub_story.specs.Levels.{came_by}
use Rattle.hub_story.specs.Told.{told}
use Rattle.hub_story.proofs.Filling.{told_by-all, told_by-take}
use Rattle.hub_story.proofs.Walks.{came-more}
use Rattle.hub_story.proofs.walk.tell_steps.Goals as goal

pub loop-place-init : goal.loop-place-init
loop-place-init c = record {
  at = c.requires.at;
  all = c.requires.none ∙ sym (told_by-take c.args.journal.now.head c.args.journal.now.entries 0);
}

pub loop-place-preserved : goal.loop-place-preserved
loop-place-preserved c =
    let j = c.args.journal.now in
    let place = c.loop-place.place in
    let below : place < length j.entries = omega (arith, c.loop-place-test.true, c.len-place-end.ensures, ap length c.entries.ensures) in
    record {
      at = c.in_ok-step.ensures.at;
      all = c.in_ok-extend_from_slice.ensures.items ∙ ap (λ l. c.loop-place.all.items ++ l) (c.came.ensures ∙ c.in_ok-step.ensures.came)
          ∙ ap (λ l. l ++ came_by place (told j.head j.entries)) c.loop-place.invariant.all
          ∙ sym (came-more j.head j.entries place c.in_ok-step.field-0 below);
    }

pub returns : goal.returns
returns c =
    let j = c.args.journal.now in
    let past : length j.entries ≤ c.loop-place.place = omega (arith, c.loop-place-test.false, c.len-place-end.ensures, ap length c.entries.ensures) in
    c.loop-place.invariant.all ∙ told_by-all j.head j.entries c.loop-place.place past
