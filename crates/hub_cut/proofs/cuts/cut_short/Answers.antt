use Rattle.std.proofs.Common.{◌∙◌, ap, sym, subst}
use Rattle.hub_core.specs.HubView.{HubView, state_of}
use Rattle.hub_cut.specs.ChapterText.{FitLines}
use Rattle.hub_cut.specs.Cut.{IsCut}
use Rattle.hub_cut.specs.declared.renewals.Chapter.{Chapter}
use Rattle.hub_cut.proofs.ChapterTexts.{checkpoint_lines_fit}
use Rattle.hub_cut.proofs.Parts.{cut_law}
use Rattle.hub_cut.proofs.cuts.cut_short.Goals as goal

pub returns-clause-goes_on : goal.returns-clause-goes_on
returns-clause-goes_on c =
    let hub = c.args.chapter.now.hub.memory.hub in
    let same = ap (λ (x : Chapter). x.hub.memory.hub) c.replace.ensures.after ∙ c.in_ok-next.ensures.hub in
    subst (IsCut hub) (sym same) (cut_law hub)

pub returns-clause-lines : goal.returns-clause-lines
returns-clause-lines c =
    let hub = c.args.chapter.now.hub.memory.hub in
    let same = ap (λ (x : Chapter). x.hub.memory.hub.journal) c.replace.ensures.after in
    let next = ap (λ (h : HubView). h.journal) c.in_ok-next.ensures.hub in
    subst (λ es. FitLines es 0) (sym (same ∙ next))
    (checkpoint_lines_fit (state_of hub) c.in_ok-next.ensures.lines)
