use Rattle.hub_laws.proofs.Values.{values-law}
use Rattle.hub_laws.proofs.kept_values.values_are_kept.Goals as goal

pub returns : goal.returns
returns c = values-law c.args.head c.args.entries.now
