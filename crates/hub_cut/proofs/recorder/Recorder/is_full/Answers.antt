use Rattle.std.proofs.Common.{arith}
use Rattle.hub_cut.specs.RecorderKeeps.{shown}
use Rattle.hub_cut.proofs.Recording.{recorder_checkpoint}
use Rattle.hub_cut.proofs.recorder.Recorder.is_full.Goals as goal

pub least_of-requires : goal.least_of-requires
least_of-requires c = omega (arith, recorder_checkpoint (shown c.self.inside) c.self.invariant.recorder, c.self.invariant.head.1)
