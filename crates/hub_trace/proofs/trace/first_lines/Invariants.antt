use Rattle.hub_trace.specs.Formats.{AtLine}
use Rattle.hub_trace.specs.Formats.Format.{Trace}
use Rattle.hub_trace.proofs.trace.first_lines.Given as goal

abbrev pub invariant-loop-pid : goal.invariant-loop-pid
invariant-loop-pid l = AtLine Trace l.text.items
