use Rattle.std.proofs.Common.{◌∙◌, ap, sym}
use Rattle.hub_story.specs.Moves.{got_from}
use Rattle.hub_story.specs.Receivers.{got_there}
use Rattle.hub_story.proofs.Gone.{receiver-is, receivers-next}
use Rattle.hub_story.proofs.receivers.Receivers.note.Goals as goal

pub returns : goal.returns
returns c before was =
    let told = c.args.told.now in
    receivers-next c.args.entries.now before told c.got_from.result c.args.self.now _ _ was
    (λ p.
    receiver-is c.args.entries.now told p ∙ ap (λ m. got_there p (got_from m) told.event.pid.0) (sym c.requires)
    ∙ ap (λ q. got_there p q told.event.pid.0) (sym c.got_from.ensures))
    c.note_life.ensures c.in_ok-note_receiver.ensures c.in_ok-note_leaver.ensures
