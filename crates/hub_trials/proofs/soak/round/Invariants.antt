use Rattle.hub_trials.proofs.soak.round.Given as goal

abbrev pub ghosts-in_round : goal.ghosts-in_round
ghosts-in_round g a = record { name = a.blank.name }
