use Rattle.hub_live.proofs.words.Words.publish.Given as goal

abbrev pub ghosts-publish_as : goal.ghosts-publish_as
ghosts-publish_as g a = record { entry = a.entry.now }
