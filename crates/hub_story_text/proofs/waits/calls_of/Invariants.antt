use Rattle.std.proofs.Common.{◌≡◌, ◌≤◌, count_by, take}
use Rattle.hub_story_text.specs.Waits.{counts}
use Rattle.hub_story_text.proofs.waits.calls_of.Given as goal

abbrev pub invariant-loop-place : goal.invariant-loop-place
invariant-loop-place l = record {
  calls : l.calls ≡ count_by (counts l.clock) (take l.place l.entries);
  few : l.calls ≤ l.place;
}
