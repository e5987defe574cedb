-- The steps so far were written, or wait, and no write has failed.
use Rattle.std.proofs.Common.{◌≡◌}
use Rattle.hub_story.specs.Walks.{IsAt}
use Rattle.hub_trace.specs.Formats.{Goes}
use Rattle.hub_trace.proofs.writing.write_steps.Given as goal

abbrev pub invariant-loop-place : goal.invariant-loop-place
invariant-loop-place g l = record {
  at : IsAt l.journal l.place l.walk;
  written : Goes g.P.Pen.format (g.W.Sink.contents l.fn.output) (g.W.Sink.contents l.output) l.fn.text.items l.text.items;
  same : g.W.Sink.failures l.output ≡ g.W.Sink.failures l.fn.output;
}
