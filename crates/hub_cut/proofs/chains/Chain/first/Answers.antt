use Rattle.std.proofs.Common.{rules}
use Rattle.hub_cut.proofs.Following.{only_first}
use Rattle.hub_cut.proofs.chains.Chain.first.Goals as goal

pub returns-in_err-chapter-clause-only : goal.returns-in_err-chapter-clause-only
returns-in_err-chapter-clause-only c = only_first c.args.text.now c.from_residual.result (search rules)

pub returns-clause-only : goal.returns-clause-only
returns-clause-only c = only_first c.args.text.now c.ending_in.result (search rules)
