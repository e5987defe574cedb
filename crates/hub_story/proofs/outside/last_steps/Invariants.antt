use Rattle.std.proofs.Common.{◌≡◌, ℕ, None, drop, length, get_or}
use Rattle.hub_story.specs.Outside.{last_of}
use Rattle.hub_story.proofs.outside.last_steps.Given as goal

abbrev pub invariant-loop-place : goal.invariant-loop-place
invariant-loop-place l = record {
  whole : length l.last ≡ 256;
  last : (n : ℕ) → last_of n l.place (get_or l.last n None) (drop l.place l.entries) ≡ last_of n 0 None l.entries;
}
