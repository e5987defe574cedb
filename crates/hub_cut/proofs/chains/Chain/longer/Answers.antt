use Rattle.std.proofs.Common.{rules}
use Rattle.hub_cut.proofs.Wholes.{only_one, only_more}
use Rattle.hub_cut.proofs.chains.Chain.longer.Goals as goal

pub returns-in-None-clause-only : goal.returns-in-None-clause-only
returns-in-None-clause-only c = only_one c.args.text.now c.args.chain c.first.result c.in-None.is c.first.ensures.only

pub returns-in_err-next-in-Some-clause-only : goal.returns-in_err-next-in-Some-clause-only
returns-in_err-next-in-Some-clause-only c =
    only_more c.args.text.now c.args.chain c.in-Some.chain c.from_residual.result c.in-Some.is (search rules)
