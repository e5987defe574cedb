use Rattle.hub_trace.specs.Formats.{Keeps}
use Rattle.hub_trace.specs.Formats.Format.{Trace}
use Rattle.hub_trace.proofs.trace.Events.put_waiting.Given as goal

abbrev pub invariant-loop-told : goal.invariant-loop-told
invariant-loop-told l = Keeps Trace l.fn.text.items l.text.items
