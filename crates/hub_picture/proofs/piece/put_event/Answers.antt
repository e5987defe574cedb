use Rattle.hub_base.specs.EventText.{event_line}
use Rattle.hub_picture.proofs.Plain.{plain-event}
use Rattle.hub_picture.proofs.Reading.{plain}
use Rattle.hub_picture.proofs.piece.put_event.Goals as goal

pub returns-in-Ok : goal.returns-in-Ok
returns-in-Ok c = plain (event_line c.args.event.now) c.in-Ok.ensures.ok (plain-event c.args.event.now c.write_event.ensures.fits)
