use Rattle.std.proofs.Common.{◌∙◌, ◌++◌, ap}
use Rattle.hub_base.specs.declared.case.Case.{Case}
use Rattle.hub_base.proofs.Growing.{flat-next}
use Rattle.hub_page.specs.Stalls.{case_of}
use Rattle.hub_page.proofs.stalls.put_cases.Goals as goal

pub loop-case-preserved : goal.loop-case-preserved
loop-case-preserved c =
    let words = case_of c.args.stall.now c.args.own.now in
    let out = c.loop-case.out.items in
    flat-next words c.args.cases.now c.loop-case.case-index c.case-item.result out c.put_case.new.out.items _ c.loop-case-test.true
    c.loop-case.invariant (c.in_ok-put_case.ensures ∙ ap (λ (k : Case). out ++ words k) c.case-item.is)
