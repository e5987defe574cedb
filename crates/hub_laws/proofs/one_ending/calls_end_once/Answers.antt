use Rattle.hub_laws.proofs.Once.{once-law}
use Rattle.hub_laws.proofs.one_ending.calls_end_once.Goals as goal

pub returns : goal.returns
returns c = once-law c.args.head c.args.entries.now
