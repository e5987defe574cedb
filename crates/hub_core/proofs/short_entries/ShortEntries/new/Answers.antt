use Rattle.hub_core.proofs.Logs.{none_begins, none_short}
use Rattle.hub_core.proofs.Shorts.{nothing_written}
use Rattle.hub_core.proofs.short_entries.ShortEntries.new.Goals as goal

pub invariant_of-result : goal.invariant_of-result
invariant_of-result c = (
  none_short c.new.result.items c.new-2.result.items c.new.ensures.items c.new-2.ensures,
  none_begins c.new.result.items c.new.ensures.items,
)

pub returns : goal.returns
returns c = nothing_written c.new.result.items c.new-2.result.items c.new.ensures.items
