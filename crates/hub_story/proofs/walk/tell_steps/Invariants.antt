use Rattle.std.proofs.Common.{◌≡◌}
use Rattle.hub_story.specs.Levels.{told_by}
use Rattle.hub_story.specs.Told.{told}
use Rattle.hub_story.specs.Walks.{IsAt}
use Rattle.hub_story.proofs.walk.tell_steps.Given as goal

abbrev pub invariant-loop-place : goal.invariant-loop-place
invariant-loop-place l = record {
  at : IsAt l.journal l.place l.walk;
  all : l.all.items ≡ told_by l.place (told l.journal.head l.journal.entries);
}
