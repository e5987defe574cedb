use Rattle.std.proofs.Common.{rules, arith, length}
use Rattle.hub_served.specs.Given.{turn_from}
use Rattle.hub_served.proofs.Turns.{place_is, turn_behind, turn_none, turn_within}
use Rattle.hub_served.proofs.given.Given.turn.Goals as goal

pub returns-then-place-len-clause-behind : goal.returns-then-place-len-clause-behind
returns-then-place-len-clause-behind c =
    let g = c.args.self.now in
    let n = c.args.pid.0 in
    let first = place_is _ n _ _ _ g c.self.invariant.1 c.self.view_is (omega arith) c.from.ensures c.index.ensures in
    turn_behind (turn_from n g.made g.entries) g.made (length g.entries) c.index.result.now (turn_within n g.made g.entries) first (search rules)

pub returns-else-place-len-clause-turn : goal.returns-else-place-len-clause-turn
returns-else-place-len-clause-turn c =
    let g = c.args.self.now in
    let first = place_is _ c.args.pid.0 _ _ _ g c.self.invariant.1 c.self.view_is (omega arith) c.from.ensures c.index.ensures in
    turn_none (turn_from c.args.pid.0 g.made g.entries) g.made (length g.entries) c.index.result.now (turn_within c.args.pid.0 g.made g.entries) first
    (search rules)
