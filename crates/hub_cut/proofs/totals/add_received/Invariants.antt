use Rattle.std.proofs.Common.{◌≡◌, ◌≤◌, ◌<◌, ◌+◌, ℕ, slice_index}
use Rattle.hub_base.specs.Notation.{port}
use Rattle.hub_core.specs.HubView.{state_of}
use Rattle.hub_chapters.specs.Carried.{received_count}
use Rattle.hub_cut.specs.Totals.{in_64_bits}
use Rattle.hub_cut.proofs.totals.add_received.Given as goal

abbrev pub invariant-loop-number : goal.invariant-loop-number
invariant-loop-number l = record {
  added : (n : ℕ) → n < l.number → slice_index l.bases n ≡ in_64_bits (slice_index l.fn.bases n + received_count (state_of l.hub.memory.hub) (port n));
  others : (n : ℕ) → l.number ≤ n → slice_index l.bases n ≡ slice_index l.fn.bases n;
}
