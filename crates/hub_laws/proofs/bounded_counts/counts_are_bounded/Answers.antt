use Rattle.hub_laws.proofs.Counts.{counts-law}
use Rattle.hub_laws.proofs.bounded_counts.counts_are_bounded.Goals as goal

pub returns : goal.returns
returns c = counts-law c.args.head c.args.entries.now
