use Rattle.std.proofs.Common.{◌≡◌, ◌≤◌, length}
use Rattle.hub_tests.proofs.parts.queues.select_and_serve.Given as goal

abbrev pub invariant-loop-selects : goal.invariant-loop-selects
invariant-loop-selects g l = (l.board.procs ≡ 2) × (length l.board.ports ≡ 2) × (l.board.next_ticket ≤ l.selects)
