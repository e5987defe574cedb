-- What was read and what is left say together what was left at first.
use Rattle.std.proofs.Common.{◌≡◌}
use Rattle.hub_base.specs.Reading.{behind}
use Rattle.hub_core.proofs.short_journal.collect_entries.Given as goal

abbrev pub invariant-loop-list : goal.invariant-loop-list
invariant-loop-list l = l.initial.reader.left ≡ behind l.list l.reader.left

abbrev pub decreases-loop-list : goal.decreases-loop-list
decreases-loop-list l = l.reader.bytes
