use Rattle.hub_chapters.proofs.Counts.{carried-law}
use Rattle.hub_chapters.proofs.carried_counts.counts_go_on.Goals as goal

pub returns : goal.returns
returns c = λ chapters p. carried-law c.args.head chapters p
