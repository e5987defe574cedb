use Rattle.hub_trace.specs.Formats.{AtLine}
use Rattle.hub_trace.specs.Formats.Format.{Diagram}
use Rattle.hub_trace.proofs.diagram.first_lines.Given as goal

abbrev pub invariant-loop-pid : goal.invariant-loop-pid
invariant-loop-pid l = AtLine Diagram l.text.items
