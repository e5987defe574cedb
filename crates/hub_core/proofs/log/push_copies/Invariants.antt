-- The entries so far are copied.
use Rattle.std.proofs.Common.{◌≡◌, ◌++◌, take}
use Rattle.std.specs.Vec.{vec_capacity}
use Rattle.hub_core.proofs.log.push_copies.Given as goal

abbrev pub invariant-loop-entry : goal.invariant-loop-entry
invariant-loop-entry l = record {
  items : l.entries.items ≡ l.fn.entries.items ++ take l.entry-index l.others;
  capacity : vec_capacity l.entries ≡ vec_capacity l.fn.entries;
}
