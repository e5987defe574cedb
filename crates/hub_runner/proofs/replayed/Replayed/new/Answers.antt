use Rattle.hub_runner.proofs.Replays.{none-told, none-within}
use Rattle.hub_runner.proofs.replayed.Replayed.new.Goals as goal

pub returns-clause-tells : goal.returns-clause-tells
returns-clause-tells c = none-told c.args.head c.in_ok-new.field-0 c.no_sums.result c.no_sums.ensures c.in_ok-new.ensures

pub returns-clause-within : goal.returns-clause-within
returns-clause-within c = none-within c.args.head c.in_ok-new.field-0 c.no_sums.result c.no_sums.ensures c.in_ok-new.ensures
