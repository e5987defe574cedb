-- So many of the bytes were put.
use Rattle.std.proofs.Common.{◌≡◌, ◌+◌, ◌++◌, take, length}
use Rattle.hub_text.proofs.event_lines.put.Given as goal

abbrev pub invariant-loop-i : goal.invariant-loop-i
invariant-loop-i l = record {
  text : take (l.fn.at + l.i) l.out ≡ take l.fn.at l.initial.out ++ take l.i l.bytes;
  length : length l.out ≡ length l.initial.out;
}
