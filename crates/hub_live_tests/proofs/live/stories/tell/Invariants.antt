use Rattle.hub_live_tests.proofs.live.stories.tell.Given as goal

abbrev pub ghosts-tell_named : goal.ghosts-tell_named
ghosts-tell_named g a = record { name = a.blank.name }
