use Rattle.hub_laws.proofs.Journals.{grows-law}
use Rattle.hub_laws.proofs.legal_journals.journals_grow.Goals as goal

pub returns : goal.returns
returns c = grows-law c.args.head c.args.before.now c.args.entry.now
