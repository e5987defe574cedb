use Rattle.hub_base.proofs.Results.{on-err}
use Rattle.hub_picture.proofs.Writing.{begun-here}
use Rattle.hub_picture.proofs.svg.bands.write_bands.Goals as goal

pub returns-then-bands-eq0-clause-goes : goal.returns-then-bands-eq0-clause-goes
returns-then-bands-eq0-clause-goes g c start so = so

pub returns-in_err-shapes-clause-begun : goal.returns-in_err-shapes-clause-begun
returns-in_err-shapes-clause-begun g c = on-err c.from_residual.result (λ start so. begun-here so)
