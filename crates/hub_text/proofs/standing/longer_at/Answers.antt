use Rattle.std.proofs.Common.{◌+◌, arith}
use Rattle.hub_text.proofs.QuickLines.{behind-digit, goes-on, goes-on-two}
use Rattle.hub_text.proofs.standing.longer_at.Goals as goal

pub returns-then-last-gt9 : goal.returns-then-last-gt9
returns-then-last-gt9 c =
    let loop = c.loop-value in
    let so = loop.invariant in
    let next = c.digit-next.ensures (omega arith) in
    let e = next.1 in
    rw e (goes-on c.args.bytes.now c.args.first c.args.start loop.value loop.end c.requires.line so.stands next.0 so.some (omega arith))

pub loop-value-preserved : goal.loop-value-preserved
loop-value-preserved c =
    let loop = c.loop-value in
    let so = loop.invariant in
    let next = c.digit-next.ensures (omega arith) in
    let last = c.digit-last.ensures (omega arith) in
    let one = behind-digit c.args.bytes.now loop.end c.requires.line so.inside next.0 in
    let two = behind-digit c.args.bytes.now (loop.end + 1) c.requires.line one last.0 in
    let e = next.1 in
    let f = last.1 in
    record {
      stands = rw (e, f) (goes-on-two c.args.bytes.now c.args.first c.args.start loop.value loop.end c.requires.line so.stands next.0 last.0 so.some
          (omega arith));
      inside = omega (arith, two);
      some = omega arith;
    }

pub returns : goal.returns
returns c =
    let loop = c.loop-value in
    let so = loop.invariant in
    let next = c.digit-next-2.ensures (omega arith) in
    let e = next.1 in
    rw e (goes-on c.args.bytes.now c.args.first c.args.start loop.value loop.end c.requires.line so.stands next.0 so.some (omega arith))
