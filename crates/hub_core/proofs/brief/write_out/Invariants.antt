-- What is written out and what is left are all entries.
use Rattle.std.proofs.Common.{◌≡◌, ◌≤◌, ◌+◌, ◌++◌, length, drop, vec_len}
use Rattle.std.specs.Vec.{vec_capacity}
use Rattle.hub_core.specs.LogView.{AreBriefs, written}
use Rattle.hub_core.proofs.brief.write_out.Given as goal

abbrev pub invariant-loop-brief : goal.invariant-loop-brief
invariant-loop-brief l = record {
  briefs : AreBriefs (drop l.brief-index l.briefs) (drop l.at l.cases.items);
  items : l.whole.items ++ written (drop l.brief-index l.briefs) (drop l.at l.cases.items) ≡ l.fn.whole.items ++ written l.fn.briefs l.fn.cases.items;
  within : l.at ≤ length l.cases.items;
  room : vec_len l.whole + length (drop l.brief-index l.briefs) ≤ vec_capacity l.whole;
  capacity : vec_capacity l.whole ≡ vec_capacity l.fn.whole;
}
