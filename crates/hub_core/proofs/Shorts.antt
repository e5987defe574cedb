-- No entry that is kept short.
use Rattle.std.proofs.Common.{◌≡◌, [], List, ap}
use Rattle.hub_base.specs.declared.case.Case.{Case}
use Rattle.hub_core.specs.declared.brief.Brief.{Brief}
use Rattle.hub_core.specs.LogView.{written}

pub nothing_written : (bs : List Brief) (cs : List Case) → bs ≡ [] → written bs cs ≡ []
unfolding written
nothing_written bs cs none = ap (λ (xs : List Brief). written xs cs) none
