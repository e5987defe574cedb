use Rattle.std.proofs.Common.{◌+◌, arith, length-take}
use Rattle.hub_base.specs.declared.limits.TheConstants.{MOST_BYTES}
use Rattle.hub_replay.proofs.LongTexts.{read_text-take}
use Rattle.hub_replay.proofs.steps.deciding.Goals as goal

pub returns-else-bytes-le-MOST_BYTES-clause-same : goal.returns-else-bytes-le-MOST_BYTES-clause-same
returns-else-bytes-le-MOST_BYTES-clause-same c = read_text-take (MOST_BYTES + 1) c.args.bytes.now (omega arith) (omega arith)

pub returns-else-bytes-le-MOST_BYTES-clause-few : goal.returns-else-bytes-le-MOST_BYTES-clause-few
returns-else-bytes-le-MOST_BYTES-clause-few c = simp length-take (omega arith)
