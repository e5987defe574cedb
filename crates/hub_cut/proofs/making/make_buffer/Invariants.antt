use Rattle.hub_core.specs.HubView.{state_of}
use Rattle.hub_cut.specs.Cut.{Makes}
use Rattle.hub_cut.specs.Written.{sent_entries}
use Rattle.hub_cut.proofs.making.make_buffer.Given as goal

abbrev pub invariant-loop-place : goal.invariant-loop-place
invariant-loop-place l = Makes l.fn.next.memory.hub (sent_entries (state_of l.hub.memory.hub) l.port l.place) l.next.memory.hub
