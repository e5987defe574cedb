-- The bytes before this place are the same in both.
use Rattle.std.proofs.Common.{◌≡◌, ◌+◌, ◌==◌, drop}
use Rattle.std.specs.List.{common_prefix_len}
use Rattle.hub_replay.proofs.comparison.common_length.Given as goal

abbrev pub invariant-loop-place : goal.invariant-loop-place
invariant-loop-place l = common_prefix_len (λ x y. x == y) l.a l.b ≡ l.place + common_prefix_len (λ x y. x == y) (drop l.place l.a) (drop l.place l.b)
