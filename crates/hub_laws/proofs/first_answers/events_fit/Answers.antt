use Rattle.hub_laws.proofs.Sizes.{events-law}
use Rattle.hub_laws.proofs.first_answers.events_fit.Goals as goal

pub returns : goal.returns
returns c = events-law c.args.head c.args.before.now c.args.entry.now
