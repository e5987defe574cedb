use Rattle.hub_base.proofs.Results.{on-err}
use Rattle.hub_picture.proofs.Writing.{begun-here, begun-more, holds-elements, holds-more}
use Rattle.hub_picture.proofs.svg.bands.write_band.Goals as goal

pub returns-in_err-put_shapes-clause-begun : goal.returns-in_err-put_shapes-clause-begun
returns-in_err-put_shapes-clause-begun g c = on-err c.from_residual.result (λ start so. begun-here so)

pub returns-in_err-write_many-clause-begun : goal.returns-in_err-write_many-clause-begun
returns-in_err-write_many-clause-begun g c =
    on-err c.from_residual-in_err-write_many.result
    (λ start so. begun-more _ c.in_err-write_many.ensures.beginning (holds-elements c.in_ok-put_shapes.ensures so))

pub returns-clause-goes : goal.returns-clause-goes
returns-clause-goes g c start so = holds-more c.in_ok-write_many.ensures.whole (holds-elements c.in_ok-put_shapes.ensures so)
