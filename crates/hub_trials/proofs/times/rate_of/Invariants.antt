use Rattle.hub_trials.proofs.times.rate_of.Given as goal

abbrev pub ghosts-run_named : goal.ghosts-run_named
ghosts-run_named g a = record { name = a.blank.name }
