-- What came was consumed, and no read has failed.
use Rattle.std.proofs.Common.{◌≡◌, ◌+◌, ◌-◌, ◌≤◌, vec_len}
use Rattle.std.specs.Io.KnownBytes.{Consumes}
use Rattle.hub_replay.proofs.pieces.read_up_to.Given as goal

abbrev pub invariant-loop-chunk : goal.invariant-loop-chunk
invariant-loop-chunk g l =
    Consumes (g.S.Source.remaining l.initial.source) (g.S.Source.remaining l.source) l.bytes.items
    × (vec_len l.bytes ≤ l.limit + 1)
    × (g.S.Source.failures l.source ≡ g.S.Source.failures l.initial.source)

abbrev pub decreases-loop-chunk : goal.decreases-loop-chunk
decreases-loop-chunk g l = l.limit + 1 - vec_len l.bytes
