use Rattle.std.proofs.Common.{◌∙◌, ap, length}
use Rattle.std.proofs.lemmas.List.{length-map}
use Rattle.hub_story.specs.Passing.{receives, sends}
use Rattle.hub_story.specs.PortMoves.{move_at}
use Rattle.hub_story.proofs.port_moves.PortMoves.level.Goals as goal

pub returns-clause-sent : goal.returns-clause-sent
returns-clause-sent c es all so =
    ap length c.on.ensures ∙ ap length (so.sent c.args.port) ∙ length-map (sends es all c.args.port) move_at

pub returns-clause-received : goal.returns-clause-received
returns-clause-received c es all so =
    ap length c.on-2.ensures ∙ ap length (so.received c.args.port) ∙ length-map (receives es all c.args.port) move_at
