use Rattle.hub_laws.proofs.Journals.{journal-law}
use Rattle.hub_laws.proofs.legal_journals.journals_are_legal.Goals as goal

pub returns : goal.returns
returns c = journal-law c.args.head c.args.entries.now
