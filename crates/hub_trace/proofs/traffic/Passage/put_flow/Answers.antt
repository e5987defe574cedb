use Rattle.std.proofs.Common.{refl}
use Rattle.hub_trace.proofs.traffic.Passage.put_flow.Goals.{in-Send, in-Recv}
use Rattle.hub_trace.proofs.traffic.Passage.put_flow.Goals as goal

pub put_event-requires : goal.put_event-requires
put_event-requires c = elim c.match-moved.branch [ in-Send w ↦ rw w.number-is refl | in-Recv w ↦ rw w.number-is refl ]
