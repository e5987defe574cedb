use Rattle.std.proofs.Common.{◌<◌, ◌∙◌, ap, sym, subst}
use Rattle.std.specs.Prelude.{IfSome}
use Rattle.hub_parts.specs.declared.side.Side.TheVariants as side
use Rattle.hub_story.specs.declared.by_port.TheConstants.{PORT_NUMBERS}
use Rattle.hub_story.specs.LastMoves.{mover_of, with_mover}
use Rattle.hub_story.specs.Receivers.{AreReceivers}
use Rattle.hub_story.proofs.Movers.{last-more}
use Rattle.hub_story.proofs.last_moves.LastMoves.note.Goals as goal

pub returns-clause-last : goal.returns-clause-last
returns-clause-last c before was =
    let es = c.args.entries.now in
    let told = c.args.told.now in
    let old = c.args.self.now in
    let is = c.move_of-moved.ensures.value in
    last-more es before told old (record {
      sent = c.note_mover.new.self.sent;
      received = c.note_mover.new.self.received;
      receivers = c.note.new.self;
    }) c.requires was
    (subst (λ o. IfSome o (λ m. m.port.0 < PORT_NUMBERS)) is c.move_of-moved.ensures.few)
    (c.note_mover.ensures.sent ∙ ap (λ o. with_mover side.Send old.sent.items o (mover_of told)) is)
    (c.note_mover.ensures.received ∙ ap (λ o. with_mover side.Recv old.received.items o (mover_of told)) is)
    (c.in_ok-note.ensures before (subst (AreReceivers es before) (sym c.note_mover.ensures.receivers) was.receivers))
