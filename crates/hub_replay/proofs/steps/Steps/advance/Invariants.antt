-- Whatever was replayed before, what was read so far was replayed behind it.
use Rattle.std.proofs.Common.{◌≤◌, ℕ, List}
use Rattle.hub_replay.specs.Replayed.{Replayed, ReplayedMore}
use Rattle.hub_replay.proofs.steps.Steps.advance.Given as goal

abbrev pub invariant-loop-lines : goal.invariant-loop-lines
invariant-loop-lines l = record {
  more : (bytes text : List ℕ) → Replayed bytes text l.initial.self.reader l.initial.self.machine
      → ReplayedMore bytes text l.self.reader l.self.machine l.initial.lines.lines l.lines.lines;
  less : l.self.reader.bytes ≤ l.initial.self.reader.bytes;
}

abbrev pub decreases-loop-lines : goal.decreases-loop-lines
decreases-loop-lines l = l.self.reader.bytes
