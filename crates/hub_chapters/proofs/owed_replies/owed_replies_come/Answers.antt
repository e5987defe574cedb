use Rattle.hub_chapters.proofs.Replies.{owed-law}
use Rattle.hub_chapters.proofs.owed_replies.owed_replies_come.Goals as goal

pub returns : goal.returns
returns c = λ chapters q. owed-law c.args.head chapters c.args.later.now q
