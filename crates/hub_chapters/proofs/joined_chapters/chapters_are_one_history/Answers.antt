use Rattle.hub_chapters.proofs.Chapters.{chapters-law}
use Rattle.hub_chapters.proofs.joined_chapters.chapters_are_one_history.Goals as goal

pub returns : goal.returns
returns c = λ chapters. chapters-law c.args.head chapters
