-- Those so far are the others, and the rest is as it was.
use Rattle.std.proofs.Common.{◌≡◌, ◌++◌, take, drop}
use Rattle.hub_parts.proofs.board.copy_channels_over.Given as goal

abbrev pub invariant-loop-place : goal.invariant-loop-place
invariant-loop-place l = l.channels ≡ take l.place l.others ++ drop l.place l.fn.channels
