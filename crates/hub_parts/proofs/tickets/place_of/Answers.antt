use Rattle.hub_parts.proofs.Room.{found_where, none_where}
use Rattle.hub_parts.proofs.tickets.place_of.Goals as goal

pub returns-clause-found : goal.returns-clause-found
returns-clause-found c = found_where c.args.opened.now c.args.pid.0 c.memrchr.result c.memrchr.ensures

pub returns-clause-none : goal.returns-clause-none
returns-clause-none c = none_where c.args.opened.now c.args.pid.0 c.memrchr.result c.memrchr.ensures
