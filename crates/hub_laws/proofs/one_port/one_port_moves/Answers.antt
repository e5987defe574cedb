use Rattle.hub_laws.proofs.OnePort.{one_port-law}
use Rattle.hub_laws.proofs.one_port.one_port_moves.Goals as goal

pub returns : goal.returns
returns c = one_port-law c.args.head c.args.before.now c.args.entry.now
