use Rattle.hub_hello.proofs.main.Given as goal

-- the hub that is opened has its own name
abbrev pub ghosts-run : goal.ghosts-run
ghosts-run g a = record { name = a.blank.name }
