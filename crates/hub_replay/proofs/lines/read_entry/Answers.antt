use Rattle.std.proofs.Common.{◌∙◌, sym}
use Rattle.hub_replay.proofs.EntryLines.{text-says, fault-said}
use Rattle.hub_replay.proofs.lines.read_entry.Goals as goal

pub returns-in-Ok : goal.returns-in-Ok
returns-in-Ok c = λ head line body entry.
    c.read_one.ensures head body (sym c.in-Ok.ensures.ok ∙ text-says _ line body head entry c.requires.fits)

pub returns-in-Err : goal.returns-in-Err
returns-in-Err c = λ head line body entry.
    fault-said head _ _ _ (sym (text-says _ line body head entry c.requires.fits) ∙ c.in-Err.ensures.fault)
