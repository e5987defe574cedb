use Rattle.hub_live_tests.proofs.live.refusals.open_and_end.Given as goal

abbrev pub ghosts-make_and_end : goal.ghosts-make_and_end
ghosts-make_and_end g a = record { name = a.blank.name }
