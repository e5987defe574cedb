-- What was read so far was replayed.
use Rattle.hub_replay.specs.Replayed.{Replayed}
use Rattle.hub_replay.proofs.replayer.event_text.Given as goal

abbrev pub invariant-loop-text : goal.invariant-loop-text
invariant-loop-text l = Replayed l.bytes l.text.lines l.steps.reader l.steps.machine

abbrev pub decreases-loop-text : goal.decreases-loop-text
decreases-loop-text l = l.steps.reader.bytes
