use Rattle.std.proofs.Common.{◌≡◌, take}
use Rattle.hub_core.proofs.short_entries.shortened.Given as goal

-- the entries so far
abbrev pub invariant-loop-entry : goal.invariant-loop-entry
invariant-loop-entry l = l.list ≡ take l.entry-index l.entries
