use Rattle.std.proofs.Common.{◌≡◌, ◌≤◌, ◌<◌, ◌+◌, drop, get_or, length}
use Rattle.std.specs.List.{fold}
use Rattle.hub_story_text.specs.Fullest.{count_below, fuller_by, fullest_of}
use Rattle.hub_story_text.proofs.fullest.fullest_of.Given as goal

abbrev pub invariant-loop-place : goal.invariant-loop-place
invariant-loop-place l = record {
  put : l.place-index < length l.sent → l.put ≤ count_below (get_or l.sent l.place-index 0 + 1) l.sent;
  taken : l.place-index < length l.sent → l.taken ≤ count_below (get_or l.sent l.place-index 0 + 1) l.received;
  full : fold (fuller_by l.sent l.received) l.full (drop l.place-index l.sent) ≡ fullest_of l.sent l.received;
}
