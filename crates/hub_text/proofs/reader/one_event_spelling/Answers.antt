use Rattle.hub_text.proofs.EventLines.{one-line, one-events, begins}
use Rattle.hub_text.proofs.reader.one_event_spelling.Goals as goal

pub returns : goal.returns
returns c = record { line = one-line; text = one-events; begins = begins }
