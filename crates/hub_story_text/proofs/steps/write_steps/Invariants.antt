-- Of the text all but the lines that are held, and those of the other steps, was written, and no write has failed.
use Rattle.std.proofs.Common.{◌≡◌, ◌++◌}
use Rattle.hub_story.specs.Walks.{IsAt}
use Rattle.hub_replay.specs.Devices.{AppendsAllBut}
use Rattle.hub_story_text.specs.Explained.{lines_from}
use Rattle.hub_story_text.specs.Seen.{IsSeen}
use Rattle.hub_story_text.proofs.steps.write_steps.Given as goal

abbrev pub invariant-loop-place : goal.invariant-loop-place
invariant-loop-place g l = record {
  at : IsAt l.explained.journal.now l.place l.walk;
  seen : IsSeen l.explained l.place l.seen;
  written : AppendsAllBut (g.W.Sink.contents l.fn.output) (g.W.Sink.contents l.output)
      (l.fn.text.items ++ lines_from l.explained l.window 0) (l.text.items ++ lines_from l.explained l.window l.place);
  same : g.W.Sink.failures l.output ≡ g.W.Sink.failures l.fn.output;
}
