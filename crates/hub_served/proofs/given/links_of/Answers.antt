use Rattle.std.proofs.Common.{◌≡◌, ◌-◌, arith}
use Rattle.hub_served.proofs.Turns.{before, told_within}
use Rattle.hub_served.proofs.given.links_of.Goals as goal

pub loop-left-preserved-in-Some : goal.loop-left-preserved-in-Some
loop-left-preserved-in-Some c =
    let place = c.loop-left.left - 1 in
    let turns = c.loop-left.turns.items in
    let number : c.from-process.result ≡ c.in-Some.pid.0 = c.from-process.ensures in
    let held = before c.loop-left.links.items turns c.loop-left.left place c.from-process.result c.index.result.now c.args.entries.now c.in-Some.pid
    (omega (arith, c.loop-left-test.true)) c.in-Some.ensures (omega arith) number c.index.ensures c.loop-left.invariant.links c.loop-left.invariant.turns in
    record { within = omega (arith, c.loop-left.invariant.within); links = held.0; turns = held.1 }

pub loop-left-preserved : goal.loop-left-preserved
loop-left-preserved c =
    absurd (told_within c.args.entries.now (c.loop-left.left - 1) (omega (arith, c.loop-left-test.true, c.loop-left.invariant.within)) c.in_default.ensures)
