-- Refusals of an opening.
use Rattle.std.proofs.Common.{◌≡◌, Result, Ok, Err, IfErr, sym, subst}
use Rattle.std.specs.Result.{IsErrAnd}
use Rattle.hub_base.specs.Head.{IsHead}
use Rattle.hub_core.specs.declared.terms.Terms.{Terms}
use Rattle.hub_core.specs.HubView.{IsLimit, RefusesOpening}
use Rattle.hub_core.specs.declared.opening.OpenFault.{OpenFault}
use Rattle.hub_core.specs.declared.opening.OpenFault.TheVariants.{NoMemory}

-- a refusal that is handed on
pub refused_so : {A : Type 0} (r : Result A OpenFault) (terms : Terms) (e : OpenFault) → IsErrAnd r (λ f. f ≡ e) → RefusesOpening terms e
    → IfErr r (λ f. RefusesOpening terms f)
refused_so (Ok x) terms e is why = tt
refused_so (Err f) terms e is why = subst (λ f. RefusesOpening terms f) (sym is) why

-- memory that is refused, once the numbers are known to be in range
pub memory_refused : {A : Type 0} (r : Result A OpenFault) (terms : Terms) → IsErrAnd r (λ f. f ≡ NoMemory)
    → IsHead terms.head × IsLimit terms.limit → IfErr r (λ f. RefusesOpening terms f)
memory_refused r terms is bounds = refused_so r terms NoMemory is bounds
