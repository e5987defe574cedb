use Rattle.std.proofs.Common.{◌≤◌, ◌+◌, ◌*◌, ◌-◌}
use Rattle.hub_text.proofs.QuickLines.{Decoded}
use Rattle.hub_text.proofs.standing.bytes_at.Given as goal

-- the bytes that were read so far stand before this place, two digits each
abbrev pub invariant-loop-len : goal.invariant-loop-len
invariant-loop-len l = record { so_far : Decoded l.bytes l.start l.len l.places (l.start + 1 + 2 * l.len); most : l.len ≤ l.most }

abbrev pub decreases-loop-len : goal.decreases-loop-len
decreases-loop-len l = l.most - l.len
