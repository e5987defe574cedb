-- Some pieces were written, the others are left, and no write has failed.
use Rattle.std.proofs.Common.{◌≡◌, ℕ, List, ◌++◌, drop}
use Rattle.std.specs.Io.KnownBytes.{Appends}
use Rattle.hub_replay.specs.FaultLines.{joined}
use Rattle.hub_replay.proofs.fault_lines.write_pieces.Given as goal

abbrev pub invariant-loop-piece : goal.invariant-loop-piece
invariant-loop-piece g l =
    (written : List ℕ) × (joined l.pieces ≡ written ++ joined (drop l.piece-index l.pieces))
    × Appends (g.W.Sink.contents l.initial.sink) (g.W.Sink.contents l.sink) written
    × (g.W.Sink.failures l.sink ≡ g.W.Sink.failures l.initial.sink)
