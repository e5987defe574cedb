use Rattle.hub_story_text.proofs.explained.Explained.end.Goals as goal

pub returns : goal.returns
returns c = c.end.ensures c.args.self.now.journal.now c.requires.explained.known.ends c.requires.within c.requires.came
