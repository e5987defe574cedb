use Rattle.hub_chapters.proofs.Future.{alike-law}
use Rattle.hub_chapters.proofs.alike_states.alike_states_go_on.Goals as goal

pub returns : goal.returns
returns c = alike-law c.args.head c.args.before.now c.args.other.now c.args.later.now
