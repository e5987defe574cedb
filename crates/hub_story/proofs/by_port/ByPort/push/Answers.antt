use Rattle.std.proofs.Common.{arith}
use Rattle.hub_story.proofs.OfPorts.{things-pushed}
use Rattle.hub_story.proofs.by_port.ByPort.push.Goals as goal

pub returns : goal.returns
returns g c q =
    rw (← c.self.view_is)
    (things-pushed c.self.inside.lists.items c.index_mut-list.result.now c.push.new.self c.from.result c.args.port q c.args.thing (omega arith)
    c.from.ensures c.index_mut-list.ensures.value c.in_ok-push.ensures.items)
