use Rattle.std.proofs.Common.{◌-◌, ◌<◌, length}
use Rattle.hub_text.specs.Quick.{GoesOn}
use Rattle.hub_text.proofs.standing.longer_at.Given as goal

-- the number goes on up to this place, behind which there is more, and is not 0
abbrev pub invariant-loop-value : goal.invariant-loop-value
invariant-loop-value l = record {
  stands : GoesOn l.bytes l.first l.start l.value l.end;
  inside : l.end < length l.bytes;
  some : 0 < l.value;
}

abbrev pub decreases-loop-value : goal.decreases-loop-value
decreases-loop-value l = length l.bytes - l.end
