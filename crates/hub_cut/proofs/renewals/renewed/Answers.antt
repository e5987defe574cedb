use Rattle.std.proofs.Common.{◌∙◌, ap, subst}
use Rattle.std.specs.List.{AllByRecursion}
use Rattle.hub_base.specs.declared.head.Head.{Head}
use Rattle.hub_base.specs.Head.{IsHead}
use Rattle.hub_base.specs.Text.{Fits}
use Rattle.hub_core.specs.HubView.{HubView, state_of}
use Rattle.hub_chapters.specs.Checkpoint.{checkpoint}
use Rattle.hub_cut.proofs.ChapterTexts.{checkpoint_fits}
use Rattle.hub_cut.proofs.renewals.renewed.Goals as goal

pub returns-clause-lines : goal.returns-clause-lines
returns-clause-lines c =
    let hub = c.args.hub.now.memory.hub in
    let head : IsHead hub.terms.head = rw c.terms.ensures.value at c.terms.ensures.head in
    let terms = ap (λ (h : HubView). h.terms.head) c.in_ok-next.ensures ∙ ap (λ t. t.head) c.terms.ensures.value in
    checkpoint_fits hub.terms.head hub.journal head
    (subst (λ (h : Head). AllByRecursion (Fits h.edition) (checkpoint (state_of hub))) terms c.in_ok-checkpoint.ensures.made.fit)
