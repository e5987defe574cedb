use Rattle.std.proofs.Common.{[], refl}
use Rattle.hub_trace.specs.Json.{at}
use Rattle.hub_trace.specs.Json.Place.{Behind}
use Rattle.hub_trace.specs.Formats.{in_events}
use Rattle.hub_trace.proofs.Walks.{json_leads}
use Rattle.hub_trace.proofs.trace.put_end.Goals as goal

pub returns : goal.returns
returns c = json_leads c.put_pieces.result _ in_events (at Behind []) _ _ c.put_pieces.ensures refl
