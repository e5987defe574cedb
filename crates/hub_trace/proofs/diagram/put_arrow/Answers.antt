use Rattle.std.proofs.Common.{refl}
use Rattle.hub_trace.proofs.diagram.put_arrow.Goals.{in-Into, in-OutOf, in-From}
use Rattle.hub_trace.proofs.diagram.put_arrow.Goals as goal

pub put_line-requires : goal.put_line-requires
put_line-requires c =
    elim c.match-way.branch [ in-Into w ↦ rw w.from-is refl | in-OutOf w ↦ rw w.from-is refl | in-From w ↦ rw w.from-is refl ]
