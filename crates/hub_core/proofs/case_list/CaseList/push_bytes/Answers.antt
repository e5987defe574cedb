use Rattle.std.proofs.Common.{◌≡◌, ◌∙◌, ◌++◌, ◌∷◌, [], ap, arith, length}
use Rattle.hub_base.specs.declared.case.Case.TheVariants.{Send}
use Rattle.hub_core.specs.CaseListView.{CaseListView}
use Rattle.hub_core.proofs.CaseLists.{one_with_bytes}
use Rattle.hub_core.proofs.case_list.CaseList.push_bytes.Goals as goal

pub returns-clause-items : goal.returns-clause-items
returns-clause-items c =
    let behind : c.len-place.result ≡ length c.self.inside.values.items = omega (arith, c.len-place.ensures, c.self.inside.values.ok) in
    one_with_bytes c.self.inside.kept.items c.self.inside.values.items c.args.port c.args.value.now c.self.invariant.stand behind
    c.push_reserved.ensures.items c.push_reserved-2.ensures.items
    ∙ ap (λ (v : CaseListView). v.items ++ Send c.args.port c.args.value.now ∷ []) c.self.view_is
