use Rattle.std.proofs.Common.{◌≡◌, ◌∙◌, ◌++◌, ◌∷◌, [], List, ap}
use Rattle.std.proofs.lemmas.Result.{on_err_weaker, on_ok_weaker}
use Rattle.hub_base.specs.declared.case.Case.{Case}
use Rattle.hub_base.specs.Entry.{Entry}
use Rattle.hub_core.specs.declared.brief.Brief.{Brief}
use Rattle.hub_core.specs.LogView.{written}
use Rattle.hub_core.proofs.short_entries.ShortEntries.push.Goals as goal

pub returns-clause-ok : goal.returns-clause-ok
returns-clause-ok c =
    let e = c.args.entry.now in
    let cases = c.self.inside.cases.items in
    on_ok_weaker c.keep.result
    (λ (more : written c.keep.new.briefs.items c.keep.new.cases.items ≡ written c.reserve.new.self.items cases ++ e ∷ []).
    more ∙ ap (λ (bs : List Brief). written bs cases ++ e ∷ []) c.reserve.ensures.items ∙ ap (λ (es : List Entry). es ++ e ∷ []) c.self.view_is)
    c.keep.ensures.ok

pub returns-clause-err : goal.returns-clause-err
returns-clause-err c =
    let briefs = c.keep.new.briefs.items in
    let cases = c.self.inside.cases.items in
    on_err_weaker c.keep.result
    (λ (same : (briefs ≡ c.reserve.new.self.items) × (c.keep.new.cases.items ≡ cases)).
    ap (λ (cs : List Case). written briefs cs) same.1 ∙ ap (λ (bs : List Brief). written bs cases) (same.0 ∙ c.reserve.ensures.items) ∙ c.self.view_is)
    c.keep.ensures.err
