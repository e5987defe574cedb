use Rattle.std.proofs.Common.{◌≡◌, ◌≤◌, ◌++◌, take}
use Rattle.std.specs.List.{flat_map}
use Rattle.std.specs.Vec.{vec_capacity}
use Rattle.hub_base.specs.Lines.{line}
use Rattle.hub_core.proofs.short_journal.write_lines.Given as goal

-- the lines of the entries so far were appended
abbrev pub invariant-loop-place : goal.invariant-loop-place
invariant-loop-place l = record {
  items : l.out.items ≡ l.fn.out.items ++ flat_map line (take l.place l.entries);
  capacity : vec_capacity l.fn.out ≤ vec_capacity l.out;
}
