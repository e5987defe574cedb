use Rattle.hub_trace.specs.Formats.{Keeps}
use Rattle.hub_trace.proofs.writing.put_step.Given as goal

abbrev pub invariant-loop-told : goal.invariant-loop-told
invariant-loop-told g l = Keeps g.P.Pen.format l.fn.text.items l.text.items
