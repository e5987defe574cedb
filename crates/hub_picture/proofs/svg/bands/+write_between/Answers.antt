use Rattle.std.proofs.lemmas.Result.{on_err_weaker, on_ok_weaker}
use Rattle.hub_base.proofs.Results.{on-err}
use Rattle.hub_picture.proofs.Writing.{begun-here}
use Rattle.hub_picture.proofs.svg.bands.+write_between.Goals as goal

pub returns-in_err-part-clause-begun : goal.returns-in_err-part-clause-begun
returns-in_err-part-clause-begun g t c = on-err c.from_residual.result (λ start so. begun-here so)

pub returns-clause-goes : goal.returns-clause-goes
returns-clause-goes g t c =
    on_ok_weaker c.write_between-else-end-first-eq1.result (λ goes start so. goes start (c.in_ok-write_between.ensures.goes start so))
    c.write_between-else-end-first-eq1.ensures.goes

pub returns-clause-begun : goal.returns-clause-begun
returns-clause-begun g t c =
    on_err_weaker c.write_between-else-end-first-eq1.result (λ begun start so. begun start (c.in_ok-write_between.ensures.goes start so))
    c.write_between-else-end-first-eq1.ensures.begun
