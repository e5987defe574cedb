use Rattle.std.proofs.Common.{◌≡◌, ◌++◌, drop}
use Rattle.std.specs.List.{flat_map}
use Rattle.hub_trace.specs.Pieces.{escape}
use Rattle.hub_trace.proofs.diagram.put_escaped.Given as goal

abbrev pub invariant-loop-byte : goal.invariant-loop-byte
invariant-loop-byte l = l.text.items ++ flat_map escape (drop l.byte-index l.bytes) ≡ l.fn.text.items ++ flat_map escape l.bytes
