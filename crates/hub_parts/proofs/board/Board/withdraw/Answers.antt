use Rattle.hub_parts.proofs.Boards.{queues_ended}
use Rattle.hub_parts.proofs.board.Board.withdraw.Goals as goal

pub invariant_of-self : goal.invariant_of-self
invariant_of-self c = rw c.end.ensures (queues_ended c.args.pid c.self.inside.calls c.self.inside.ports.items c.self.invariant)
