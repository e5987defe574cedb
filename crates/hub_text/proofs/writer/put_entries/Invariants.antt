use Rattle.std.proofs.Common.{Ok, take}
use Rattle.std.specs.declared.alloc.AllocError.{AllocError}
use Rattle.std.specs.List.{flat_map}
use Rattle.hub_base.specs.Lines.{line}
use Rattle.hub_text.specs.Writing.{Appends}
use Rattle.hub_text.proofs.writer.put_entries.Given as goal

-- the lines of the entries so far were appended
abbrev pub invariant-loop-entry : goal.invariant-loop-entry
invariant-loop-entry l = Appends {E = AllocError} l.fn.out l.out (flat_map line (take l.entry-index l.entries)) (Ok tt)
