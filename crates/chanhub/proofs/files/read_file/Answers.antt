use Rattle.chanhub.proofs.files.read_file.Goals as goal

pub returns-in-Ok : goal.returns-in-Ok
returns-in-Ok g c = c.read_up_to.ensures.most
