use Rattle.std.proofs.Common.{arith}
use Rattle.hub_story.proofs.OfPorts.{things-cleared}
use Rattle.hub_story.proofs.by_port.ByPort.clear.Goals as goal

pub returns : goal.returns
returns g c q =
    rw (← c.self.view_is)
    (things-cleared c.self.inside.lists.items c.clear.new.self c.from.result c.args.port q (omega arith) c.from.ensures c.clear.ensures.items)
