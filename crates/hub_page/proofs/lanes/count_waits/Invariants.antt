use Rattle.std.proofs.Common.{◌≡◌, ◌≤◌, ◌<◌, ◌+◌, ℕ, length}
use Rattle.std.specs.Prelude.{is_some}
use Rattle.hub_page.specs.Block.{count_of}
use Rattle.hub_page.specs.Lanes.{one_if}
use Rattle.hub_page.specs.ParkedCalls.{call_of}
use Rattle.hub_page.proofs.lanes.count_waits.Given as goal

abbrev pub invariant-loop-lane : goal.invariant-loop-lane
invariant-loop-lane l = record {
  counted : (lane : ℕ) → lane < l.lane →
      count_of l.waited.items lane ≡ count_of l.fn.waited.items lane + one_if (is_some (call_of l.parked lane));
  left : (lane : ℕ) → l.lane ≤ lane → count_of l.waited.items lane ≡ count_of l.fn.waited.items lane;
  whole : length l.waited.items ≡ l.procs + 1;
}
