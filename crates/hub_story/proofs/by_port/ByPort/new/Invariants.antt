use Rattle.std.proofs.Common.{◌≡◌, ℕ, [], length, map}
use Rattle.std.specs.Prelude.{slice_index_or}
use Rattle.hub_story.proofs.by_port.ByPort.new.Given as goal

abbrev pub invariant-loop-number : goal.invariant-loop-number
invariant-loop-number g l = record {
  many : length l.lists.items ≡ l._number;
  none : (k : ℕ) → slice_index_or (map (λ v. v.items) l.lists.items) k [] ≡ [];
}
