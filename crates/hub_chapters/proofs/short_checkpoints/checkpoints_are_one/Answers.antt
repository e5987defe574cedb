use Rattle.hub_base.specs.Runs.{state}
use Rattle.hub_chapters.proofs.Checkpoints.{one-checkpoint}
use Rattle.hub_chapters.proofs.short_checkpoints.checkpoints_are_one.Goals as goal

pub returns : goal.returns
returns c = one-checkpoint (state c.args.head c.args.entries.now) (state c.args.head c.args.other.now)
