use Rattle.std.proofs.Common.{◌≡◌, ℕ, ◌+◌, List, ◌++◌, drop}
use Rattle.hub_runner.specs.ReportText.{port_lines}
use Rattle.hub_runner.proofs.writer.put_ports.Given as goal

abbrev pub invariant-loop-port : goal.invariant-loop-port
invariant-loop-port l = record {
  number : l.number ≡ l.port-index + 1;
  same : l.out.items ++ port_lines l.number (drop l.port-index l.ports) ≡ l.fn.out.items ++ port_lines 1 l.ports;
  grown : (rest : List ℕ) × (l.out.items ≡ l.fn.out.items ++ rest);
}
