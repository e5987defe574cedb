-- What was taken is the beginning of the bytes, `rest` is what is left of them, and no write has failed.
use Rattle.std.proofs.Common.{◌≡◌, ℕ, List, ◌++◌, length}
use Rattle.std.specs.Io.KnownBytes.{Appends}
use Rattle.hub_replay.proofs.pieces.write_whole.Given as goal

abbrev pub invariant-loop-rest : goal.invariant-loop-rest
invariant-loop-rest g l =
    (taken : List ℕ) × (l.initial.rest ≡ taken ++ l.rest)
    × Appends (g.W.Sink.contents l.initial.sink) (g.W.Sink.contents l.sink) taken
    × (g.W.Sink.failures l.sink ≡ g.W.Sink.failures l.initial.sink)

abbrev pub decreases-loop-rest : goal.decreases-loop-rest
decreases-loop-rest g l = length l.rest
