use Rattle.hub_parts.specs.Lists.{new_port}
use Rattle.hub_parts.proofs.Taken.{kept_changed, lists_changed}
use Rattle.hub_parts.proofs.board.Board.reopen.Goals as goal

pub invariant_of-self-2 : goal.invariant_of-self-2
invariant_of-self-2 c =
    kept_changed (λ q. new_port c.args.cap) c.args.port c.self.inside.calls c.self.inside.ports.items c.index_mut-channel.result.now c.reopen.new.self
    (rw (← c.self.view_is) at c.requires) c.index_mut-channel.ensures.value c.in_ok-reopen.ensures.ok c.self.invariant

pub returns-clause-ok : goal.returns-clause-ok
returns-clause-ok c =
    rw (← c.self.view_is)
    (lists_changed (λ q. new_port c.args.cap) c.args.port c.self.inside.calls c.self.inside.ports.items c.index_mut-channel.result.now c.reopen.new.self
    (rw (← c.self.view_is) at c.requires) c.index_mut-channel.ensures.value c.in_ok-reopen.ensures.ok)
