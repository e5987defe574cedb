use Rattle.std.proofs.Common.{◌≡◌, ◌∙◌, List, ap, subst, sym}
use Rattle.std.specs.Prelude.{IfSome}
use Rattle.hub_base.specs.declared.case.Case.{Case}
use Rattle.hub_base.specs.Entry.{Entry, Step}
use Rattle.hub_base.specs.Lines.{by, call}
use Rattle.hub_core.specs.LogView.{IsWhole}
use Rattle.hub_core.proofs.brief.brief_of_plain.Goals as goal

pub returns-in-Call : goal.returns-in-Call
returns-in-Call c =
    let pid = c.args.entry.now.pid in
    let same : by pid.0 (call c.as_slice.result.now c.in-Call.default c.in-Call.word) ≡ c.args.entry.now =
    ap (λ (cases : List Case). by pid.0 (call cases c.in-Call.default c.in-Call.word)) c.as_slice.ensures.cases
    ∙ ap (λ (s : Step). record { pid = pid; step = s }) (sym c.in-Call.is) in
    subst (λ (e : Entry). IfSome c.brief_of_all.result (IsWhole e)) same c.brief_of_all.ensures
