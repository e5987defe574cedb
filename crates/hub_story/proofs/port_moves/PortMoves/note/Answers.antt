use Rattle.std.proofs.Common.{◌≡◌, ◌∙◌, append-nil, sym}
use Rattle.std.proofs.lemmas.Result.{on_ok_weaker}
use Rattle.hub_parts.specs.declared.side.Side.TheVariants as side
use Rattle.hub_story.specs.OfPorts.{things_on}
use Rattle.hub_story.proofs.Pushed.{none-pushed, one-pushed}
use Rattle.hub_story.proofs.port_moves.PortMoves.note.Goals as goal

pub returns-in_default : goal.returns-in_default
returns-in_default c before was =
    none-pushed c.args.entries.now before c.args.told.now c.args.self.now was (sym c.move_of.ensures.value ∙ c.in_default.is)

pub returns-in-Send : goal.returns-in-Send
returns-in-Send c =
    let at-side = c.in-Some.side-is in
    let sends = c.in-Send.is in
    let on : c.in-Some.field-0.side ≡ side.Send = cc in
    on_ok_weaker c.push.result
    (λ pushed before was.
    one-pushed c.args.entries.now before c.args.told.now c.args.self.now _ c.in-Some.field-0 side.Send was
    (sym c.move_of.ensures.value ∙ c.in-Some.is) on pushed (λ p. sym (append-nil (things_on c.args.self.now.received p))))
    c.push.ensures

pub returns-in-Recv : goal.returns-in-Recv
returns-in-Recv c =
    let at-side = c.in-Some.side-is in
    let receives = c.in-Recv.is in
    let on : c.in-Some.field-0.side ≡ side.Recv = cc in
    on_ok_weaker c.push-in-Recv.result
    (λ pushed before was.
    one-pushed c.args.entries.now before c.args.told.now c.args.self.now _ c.in-Some.field-0 side.Recv was
    (sym c.move_of.ensures.value ∙ c.in-Some.is) on (λ p. sym (append-nil (things_on c.args.self.now.sent p))) pushed)
    c.push-in-Recv.ensures
