use Rattle.hub_picture.proofs.Ports.{all-drawn}
use Rattle.hub_picture.proofs.arrows.arrows_in.Goals as goal

pub returns : goal.returns
returns c =
    let ports = c.ports-before-end in
    let drawn =
    all-drawn c.args.window c.args.moves.now.entries.now c.args.moves.now.told.now c.loop-before.before ports.result _
    c.loop-before.auto.before-end c.loop-before-test.false c.loop-before.invariant in
    rw ports.ensures.value at drawn
