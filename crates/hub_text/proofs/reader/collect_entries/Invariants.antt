-- What was read and what is left say together what was left at first.
use Rattle.std.proofs.Common.{◌≡◌}
use Rattle.hub_base.specs.Reading.{behind}
use Rattle.hub_text.proofs.reader.collect_entries.Given as goal

abbrev pub invariant-loop-entry : goal.invariant-loop-entry
invariant-loop-entry l = l.initial.reader.left ≡ behind l.entries.items l.reader.left

abbrev pub decreases-loop-entry : goal.decreases-loop-entry
decreases-loop-entry l = l.reader.bytes
