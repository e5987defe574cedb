use Rattle.hub_laws.proofs.Received.{received_values-law}
use Rattle.hub_laws.proofs.received_values.received_values_are_told.Goals as goal

pub returns : goal.returns
returns c = received_values-law c.args.head c.args.before.now c.args.entry.now
