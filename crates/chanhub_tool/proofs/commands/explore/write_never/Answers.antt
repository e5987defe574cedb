use Rattle.chanhub_tool.proofs.commands.explore.write_never.Goals as goal

pub returns : goal.returns
returns g c = rw (c.subject.ensures, c.format.ensures.text, c.format-2.ensures.text) at c.write_pieces.ensures.whole
