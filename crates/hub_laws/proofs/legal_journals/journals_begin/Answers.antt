use Rattle.hub_laws.proofs.Journals.{begins-law}
use Rattle.hub_laws.proofs.legal_journals.journals_begin.Goals as goal

pub returns : goal.returns
returns c = begins-law c.args.head c.args.before.now c.args.later.now
