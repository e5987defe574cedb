use Rattle.std.proofs.Common.{◌∙◌, ap, filter, map, slice_get}
use Rattle.hub_picture.specs.Moves.{StandAt, is_told_on}
use Rattle.hub_picture.proofs.Places.{themselves, these-are}
use Rattle.hub_picture.proofs.moves.Moves.on.Goals as goal

stand : (c : goal.After-on) →
    StandAt c.args.self.now.told.now c.on.result.now (filter (is_told_on c.args.self.now.entries.now c.args.port) c.args.self.now.told.now)
stand c = ap (map (slice_get c.args.self.now.told.now)) c.on.ensures ∙ c.args.self.now.each c.args.port

pub invariant_of-result : goal.invariant_of-result
invariant_of-result c = themselves c.args.self.now.told.now c.on.result.now _ (stand c)

pub returns : goal.returns
returns c = these-are c.args.self.now.told.now c.on.result.now _ (stand c)
