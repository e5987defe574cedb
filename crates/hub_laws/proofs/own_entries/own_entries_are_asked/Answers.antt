use Rattle.hub_laws.proofs.Askings.{asked-steps, asked-last}
use Rattle.hub_laws.proofs.own_entries.own_entries_are_asked.Goals as goal

pub returns-clause-steps : goal.returns-clause-steps
returns-clause-steps c = asked-steps

pub returns-clause-last : goal.returns-clause-last
returns-clause-last c = asked-last
