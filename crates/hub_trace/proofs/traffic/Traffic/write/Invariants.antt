-- The ports so far were written, or wait, and no write has failed.
use Rattle.std.proofs.Common.{◌≡◌}
use Rattle.hub_trace.specs.Formats.{Goes}
use Rattle.hub_trace.specs.Formats.Format.{Trace}
use Rattle.hub_trace.proofs.traffic.Traffic.write.Given as goal

abbrev pub invariant-loop-port : goal.invariant-loop-port
invariant-loop-port g l = record {
  written : Goes Trace (g.W.Sink.contents l.fn.output) (g.W.Sink.contents l.output) l.fn.text.items l.text.items;
  same : g.W.Sink.failures l.output ≡ g.W.Sink.failures l.fn.output;
}
