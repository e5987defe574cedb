use Rattle.std.proofs.Common.{Ok, take}
use Rattle.std.specs.declared.alloc.AllocError.{AllocError}
use Rattle.std.specs.List.{flat_map}
use Rattle.hub_text.specs.Writing.{Appends}
use Rattle.hub_text.proofs.Appending.{spaced_case}
use Rattle.hub_text.proofs.writer.put_cases.Given as goal

-- the cases so far were appended
abbrev pub invariant-loop-case : goal.invariant-loop-case
invariant-loop-case l = Appends {E = AllocError} l.fn.out l.out (flat_map spaced_case (take l.case-index l.cases)) (Ok tt)
