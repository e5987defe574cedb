use Rattle.hub_live_tests.proofs.live.refusals.refused_crew_makes_no_step.Given as goal

abbrev pub ghosts-make_or_none : goal.ghosts-make_or_none
ghosts-make_or_none g a = record { name = a.blank.name }
