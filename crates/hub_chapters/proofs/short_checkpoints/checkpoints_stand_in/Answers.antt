use Rattle.hub_chapters.proofs.Checkpoints.{checkpoint-law}
use Rattle.hub_chapters.proofs.short_checkpoints.checkpoints_stand_in.Goals as goal

pub returns : goal.returns
returns c = checkpoint-law c.args.head c.args.entries.now
