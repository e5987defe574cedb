use Rattle.std.proofs.Common.{◌≡◌, ◌≤◌, ◌+◌, ℕ, count_by, length, take}
use Rattle.hub_page.specs.Block.{count_of}
use Rattle.hub_page.specs.Lanes.{is_trouble_in}
use Rattle.hub_page.proofs.lanes.count_troubles.Given as goal

abbrev pub invariant-loop-told : goal.invariant-loop-told
invariant-loop-told l = record {
  counted : (lane : ℕ) → lane ≤ l.procs →
      count_of l.troubles.items lane ≡ count_of l.fn.troubles.items lane + count_by (is_trouble_in l.procs lane) (take l.told-index l.came);
  whole : length l.troubles.items ≡ l.procs + 1;
}
