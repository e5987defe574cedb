use Rattle.hub_chapters.proofs.Chapters.{chapters-law}
use Rattle.hub_cut.proofs.Wholes.{whole_at}
use Rattle.hub_cut.proofs.chains.Chain.chapters_are_whole.Goals as goal

pub returns-clause-chapters : goal.returns-clause-chapters
returns-clause-chapters c = λ h chapters stands.
    let law = chapters-law h chapters in
    record { chapters_legal = stands.legal; history_legal = law.legal stands.legal; told = law.told }

pub returns-clause-texts : goal.returns-clause-texts
returns-clause-texts c = λ texts at. whole_at c.args.self.now texts at
