use Rattle.hub_laws.proofs.Replied.{replied-law}
use Rattle.hub_laws.proofs.last_replies.replies_come.Goals as goal

pub returns : goal.returns
returns c = replied-law c.args.head c.args.before.now c.args.entry.now
