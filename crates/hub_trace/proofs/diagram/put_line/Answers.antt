use Rattle.hub_trace.proofs.Walks.{diagram_line}
use Rattle.hub_trace.proofs.diagram.put_line.Goals as goal

pub returns : goal.returns
returns c =
    diagram_line c.args.pieces.now _ _ _ _ c.new-plain.ensures.items c.in_ok-put_pieces.ensures (rw c.deref.ensures.value at c.in_ok-put_escaped.ensures)
    c.requires
