use Rattle.std.proofs.Common.{arith}
use Rattle.std.proofs.lemmas.Option.{IfSome_then}
use Rattle.hub_text.proofs.QuickLines.{stands-digit, stands-three, stands-two}
use Rattle.hub_text.proofs.standing.number_at.Goals as goal

pub returns-then-next-gt9 : goal.returns-then-next-gt9
returns-then-next-gt9 c =
    let first = c.digit-first.ensures (omega arith) in
    let e = first.1 in
    rw e (stands-digit c.args.bytes.now c.args.start c.requires.line c.requires.start first.0)

pub returns-then-last-gt9 : goal.returns-then-last-gt9
returns-then-last-gt9 c =
    let first = c.digit-first.ensures (omega arith) in
    let next = c.digit-next.ensures (omega arith) in
    let e = first.1 in
    let f = next.1 in
    rw (e, f) (stands-two c.args.bytes.now c.args.start c.requires.line c.requires.start first.0 (omega (arith, e)) next.0)

pub returns : goal.returns
returns c =
    let first = c.digit-first.ensures (omega arith) in
    let next = c.digit-next.ensures (omega arith) in
    let last = c.digit-last.ensures (omega arith) in
    let e = first.1 in
    let f = next.1 in
    let g = last.1 in
    IfSome_then c.longer_at.result c.longer_at.ensures
    (λ x so. so c.args.start (rw (e, f, g) (stands-three c.args.bytes.now c.args.start c.requires.line c.requires.start first.0 (omega (arith, e))
    next.0 last.0)))
