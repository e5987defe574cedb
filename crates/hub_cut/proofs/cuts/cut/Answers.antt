use Rattle.std.proofs.Common.{◌∙◌, ap, sym, subst}
use Rattle.hub_core.specs.HubView.{ShortInMemory}
use Rattle.hub_cut.specs.Cut.{IsCut}
use Rattle.hub_cut.proofs.Parts.{cut_law}
use Rattle.hub_cut.proofs.cuts.cut.Goals as goal

pub returns-clause-goes_on : goal.returns-clause-goes_on
returns-clause-goes_on c =
    let hub = c.args.hub.now.memory.hub in
    let same = ap (λ (x : ShortInMemory). x.memory.hub) c.replace.ensures.after ∙ c.in_ok-next.ensures.hub in
    subst (IsCut hub) (sym same) (cut_law hub)
