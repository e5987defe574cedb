use Rattle.hub_laws.proofs.Replies.{replies-law}
use Rattle.hub_laws.proofs.last_replies.replies_stay.Goals as goal

pub returns : goal.returns
returns c = replies-law c.args.head c.args.before.now c.args.pid.0 c.args.later.now
