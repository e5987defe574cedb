use Rattle.hub_trace.specs.Formats.{in_events}
use Rattle.hub_trace.proofs.Walks.{json_leads}
use Rattle.hub_trace.proofs.pieces.put_event.Goals as goal

pub returns : goal.returns
returns c = json_leads c.put_pieces.result c.args.pieces.now in_events in_events _ _ c.put_pieces.ensures c.requires
