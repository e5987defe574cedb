-- What was read so far was replayed, the events given agree so far with its text, and no line is left to compare.
use Rattle.std.proofs.Common.{◌≡◌, []}
use Rattle.hub_replay.proofs.Verified.{Verified}
use Rattle.hub_replay.proofs.verifier.verify.Given as goal

abbrev pub invariant-loop-lines : goal.invariant-loop-lines
invariant-loop-lines l = record {
  so_far : Verified l.journal l.events l.steps.reader l.steps.machine l.comparison.bytes.now l.comparison.agreed l.comparison.parted;
  none : l.lines.lines ≡ [];
}

abbrev pub decreases-loop-lines : goal.decreases-loop-lines
decreases-loop-lines l = l.steps.reader.bytes
