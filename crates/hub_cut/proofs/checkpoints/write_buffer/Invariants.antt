use Rattle.std.proofs.Common.{◌≡◌, ◌++◌}
use Rattle.hub_core.specs.HubView.{state_of}
use Rattle.hub_cut.specs.Written.{sent_entries}
use Rattle.hub_cut.proofs.checkpoints.write_buffer.Given as goal

abbrev pub invariant-loop-place : goal.invariant-loop-place
invariant-loop-place l = l.entries.items ≡ l.fn.entries.items ++ sent_entries (state_of l.hub.memory.hub) l.port l.place
