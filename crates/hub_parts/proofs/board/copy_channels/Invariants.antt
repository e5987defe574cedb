-- The channels so far are copied.
use Rattle.std.proofs.Common.{◌≡◌, take}
use Rattle.hub_parts.proofs.board.copy_channels.Given as goal

abbrev pub invariant-loop-channel : goal.invariant-loop-channel
invariant-loop-channel l = l.copy.items ≡ take l.channel-index l.channels
