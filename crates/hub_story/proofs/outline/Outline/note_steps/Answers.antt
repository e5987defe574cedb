use Rattle.std.proofs.Common.{◌≤◌, ◌<◌, ◌++◌, ◌∙◌, ap, arith, length, subst, sym}
use Rattle.hub_story.specs.Levels.{told_by}
use Rattle.hub_story.specs.Outlines.{IsOutline}
use Rattle.hub_story.specs.Told.{told}
use Rattle.hub_story.proofs.Filling.{told_by-all, told_by-take}
use Rattle.hub_story.proofs.Walks.{came-more}
use Rattle.hub_story.proofs.outline.Outline.note_steps.Goals as goal

pub loop-place-init : goal.loop-place-init
loop-place-init c =
    let j = c.args.journal.now in
    record {
      at = c.requires.at;
      outline = subst (λ l. IsOutline j.entries l c.args.self.now) (sym (told_by-take j.head j.entries 0)) c.requires.none;
    }

pub loop-place-preserved : goal.loop-place-preserved
loop-place-preserved c =
    let j = c.args.journal.now in
    let all = told j.head j.entries in
    let place = c.loop-place.place in
    let below : place < length j.entries = omega (arith, c.loop-place-test.true, c.len-place-end.ensures, ap length c.entries-entries.ensures) in
    let noted = rw c.entries-entries.ensures at c.in_ok-note_all.ensures in
    record {
      at = c.in_ok-step.ensures.at;
      outline =
          subst (λ l. IsOutline j.entries l c.note_all.new.self)
          (ap (λ l. told_by place all ++ l) (c.came.ensures ∙ c.in_ok-step.ensures.came) ∙ sym (came-more j.head j.entries place c.in_ok-step.field-0 below))
          (noted (told_by place all) c.loop-place.invariant.outline);
    }

pub returns : goal.returns
returns c =
    let j = c.args.journal.now in
    let past : length j.entries ≤ c.loop-place.place =
    omega (arith, c.loop-place-test.false, c.len-place-end.ensures, ap length c.entries-entries.ensures) in
    subst (λ l. IsOutline j.entries l c.loop-place.self) (told_by-all j.head j.entries c.loop-place.place past) c.loop-place.invariant.outline
