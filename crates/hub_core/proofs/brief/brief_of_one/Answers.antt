use Rattle.std.proofs.Common.{◌≡◌, [], ◌∷◌, IfSome, ap, false, refl, subst, sym}
use Rattle.std.specs.Prelude.{ℕ}
use Rattle.hub_base.specs.declared.case.Case.{Case}
use Rattle.hub_base.specs.declared.case.Case.TheVariants.{Send}
use Rattle.hub_base.specs.Lines.{by, call}
use Rattle.hub_base.specs.Value.{value_of}
use Rattle.hub_core.specs.declared.brief.Brief.TheVariants as brief
use Rattle.hub_core.specs.LogView.{IsWhole}
use Rattle.hub_core.proofs.brief.brief_of_one.Goals as goal

pub returns-in-Some : goal.returns-in-Some
returns-in-Some c =
    let again : value_of c.in-Some.number ≡ c.in-Send.value =
    subst (λ r. IfSome r (λ (n : ℕ). value_of n ≡ c.in-Send.value)) c.in-Some.is c.as_num.ensures.is in
    subst (λ (case : Case). IsWhole (by c.args.pid.0 (call (case ∷ []) false 0)) (brief.Send c.args.pid c.in-Send.port c.in-Some.number)) (sym c.in-Send.is)
    (λ first. record {
      again = ap (λ v. by c.args.pid.0 (call (Send c.in-Send.port v ∷ []) false 0)) again;
      count = refl;
      begins = tt;
    })
