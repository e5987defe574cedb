use Rattle.hub_cut.proofs.Recording.{recorder_texts}
use Rattle.hub_cut.proofs.recorder.Recorder.into_chapters.Goals as goal

pub returns-clause-texts : goal.returns-clause-texts
returns-clause-texts c = rw (← c.self.view_is) (recorder_texts c.self.inside c.self.invariant)
