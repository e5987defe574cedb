use Rattle.hub_parts.proofs.Taken.{kept_passed, lists_passed}
use Rattle.hub_parts.proofs.board.Board.pass_dead.Goals as goal

pub invariant_of-self : goal.invariant_of-self
invariant_of-self c =
    kept_passed c.args.side c.args.port c.self.inside.calls c.self.inside.ports.items c.index_mut-channel.result.now c.pass_dead.new.self
    (rw (← c.self.view_is) at c.requires) c.index_mut-channel.ensures.value c.pass_dead.ensures c.self.invariant

pub returns : goal.returns
returns c =
    rw (← c.self.view_is)
    (lists_passed c.args.side c.args.port c.self.inside.calls c.self.inside.ports.items c.index_mut-channel.result.now c.pass_dead.new.self
    (rw (← c.self.view_is) at c.requires) c.index_mut-channel.ensures.value c.pass_dead.ensures)
