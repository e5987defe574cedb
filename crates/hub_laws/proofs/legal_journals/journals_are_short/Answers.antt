use Rattle.hub_laws.proofs.Limits.{limits-law}
use Rattle.hub_laws.proofs.legal_journals.journals_are_short.Goals as goal

pub returns : goal.returns
returns c = limits-law c.args.head c.args.entries.now
