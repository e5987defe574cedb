use Rattle.std.proofs.Common.{arith}
use Rattle.std.proofs.lemmas.Grind.{common_steps}
use Rattle.hub_base.proofs.value.Value.first.Goals as goal

pub returns-clause-fits : goal.returns-clause-fits
returns-clause-fits c =
    let all = c.told-places in
    let is = c.as_slice.ensures in
    (grind (arith, common_steps), λ i. let fits = c.fits-places i in grind (arith, common_steps))
