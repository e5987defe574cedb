use Rattle.hub_story.proofs.story.Story.level.Goals as goal

pub returns-clause-received : goal.returns-clause-received
returns-clause-received c = rw (c.entries.ensures, c.deref.ensures.value) at c.level_of.ensures.received
