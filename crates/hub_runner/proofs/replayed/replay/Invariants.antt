use Rattle.std.proofs.Common.{take}
use Rattle.hub_runner.specs.Replays.{Tells, Within}
use Rattle.hub_runner.proofs.replayed.replay.Given as goal

abbrev pub invariant-loop-place : goal.invariant-loop-place
invariant-loop-place l = record {
  tells : Tells l.journal.head (take l.place l.journal.entries) l.replayed;
  within : Within l.place l.replayed;
}
