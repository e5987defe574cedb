use Rattle.hub_parts.proofs.Taken.{older_told}
use Rattle.hub_parts.proofs.board.Board.older_side.Goals as goal

pub returns : goal.returns
returns c =
    rw (← c.self.view_is)
    (older_told c.older_side.result c.args.port c.self.inside.calls c.self.inside.ports.items c.index.result.now
    (rw (← c.self.view_is) at c.requires) c.index.ensures c.older_side.ensures c.self.invariant)
