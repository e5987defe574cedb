use Rattle.hub_trace.specs.Formats.{Keeps}
use Rattle.hub_trace.specs.Formats.Format.{Diagram}
use Rattle.hub_trace.proofs.diagram.put_ports.Given as goal

abbrev pub invariant-loop-port : goal.invariant-loop-port
invariant-loop-port l = Keeps Diagram l.fn.text.items l.text.items
