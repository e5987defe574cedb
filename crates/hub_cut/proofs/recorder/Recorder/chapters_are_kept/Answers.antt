use Rattle.hub_cut.specs.RecorderKeeps.{shown}
use Rattle.hub_cut.proofs.Recording.{recorder_short, recorder_texts}
use Rattle.hub_cut.proofs.recorder.Recorder.chapters_are_kept.Goals as goal

pub returns-clause-texts : goal.returns-clause-texts
returns-clause-texts c = rw (← c.self.view_is) (recorder_texts c.self.inside c.self.invariant)

pub returns-clause-short : goal.returns-clause-short
returns-clause-short c = rw (← c.self.view_is) (recorder_short (shown c.self.inside) c.self.invariant.recorder c.journal_is_legal.ensures.fits)
