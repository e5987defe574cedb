use Rattle.hub_base.proofs.Results.{on-err}
use Rattle.hub_picture.proofs.Writing.{begun-here, begun-whole, holds-first, whole}
use Rattle.hub_picture.proofs.svg.write_svg.Goals as goal

pub returns-in_err-write_bands-clause-beginning : goal.returns-in_err-write_bands-clause-beginning
returns-in_err-write_bands-clause-beginning g c =
    on-err c.from_residual-in_err-write_bands.result
    (c.in_err-write_bands.ensures.begun _ (holds-first _ c.new-text.ensures.items c.in_ok-put_top.ensures))

pub returns-in_err-put_foot-clause-beginning : goal.returns-in_err-put_foot-clause-beginning
returns-in_err-put_foot-clause-beginning g c =
    on-err c.from_residual-in_err-put_foot.result
    (begun-here (c.in_ok-write_bands.ensures.goes _ (holds-first _ c.new-text.ensures.items c.in_ok-put_top.ensures)))

pub returns-in_err-write_whole-clause-beginning : goal.returns-in_err-write_whole-clause-beginning
returns-in_err-write_whole-clause-beginning g c =
    on-err c.from_residual-in_err-write_whole.result
    (begun-whole _ (c.in_ok-write_bands.ensures.goes _ (holds-first _ c.new-text.ensures.items c.in_ok-put_top.ensures)) c.in_ok-put_foot.ensures
    c.deref.ensures.value c.in_err-write_whole.ensures.beginning)

pub returns-clause-whole : goal.returns-clause-whole
returns-clause-whole g c =
    whole _ (c.in_ok-write_bands.ensures.goes _ (holds-first _ c.new-text.ensures.items c.in_ok-put_top.ensures)) c.in_ok-put_foot.ensures
    c.deref.ensures.value c.in_ok-write_whole.ensures.whole
