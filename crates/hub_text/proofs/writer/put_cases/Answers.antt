use Rattle.std.proofs.Common.{refl, Err}
use Rattle.hub_text.proofs.Appending.{each-more, each-done, each-part, spaced_case, spaced-flat}
use Rattle.hub_text.proofs.writer.put_cases.Goals as goal

pub returns : goal.returns
returns c =
    rw (← spaced-flat c.args.cases.now) (each-done spaced_case c.args.cases.now c.loop-case.case-index c.loop-case-test.false c.loop-case.invariant)

pub returns-in-Err : goal.returns-in-Err
returns-in-Err c =
    let cases = c.args.cases.now in
    let i = c.loop-case.case-index in
    let here = each-more spaced_case cases i c.case-item.result c.loop-case-test.true c.case-item.is c.loop-case.invariant c.in-Err.ensures in
    rw (← spaced-flat cases) (each-part spaced_case cases i (Err c.in-Err.field-0) here refl)

pub loop-case-preserved : goal.loop-case-preserved
loop-case-preserved c =
    each-more spaced_case c.args.cases.now c.loop-case.case-index c.case-item.result c.loop-case-test.true c.case-item.is c.loop-case.invariant
    c.in-Ok.ensures
