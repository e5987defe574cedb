use Rattle.std.proofs.Common.{[], ◌∷◌, ◌∙◌, ◌++◌, ap, sym, subst, take, append_assoc}
use Rattle.std.proofs.lemmas.List.{take_more}
use Rattle.hub_story.specs.declared.told.Told.{Told}
use Rattle.hub_story.specs.Outlines.{IsOutline}
use Rattle.hub_story.proofs.outline.Outline.note_all.Goals as goal

pub loop-told-preserved : goal.loop-told-preserved
loop-told-preserved c before was =
    let here = c.told-item in
    let told = c.args.told.now in
    let i = c.loop-told.told-index in
    subst (λ l. IsOutline c.args.entries.now l c.note.new.self)
    (append_assoc before _ _ ∙ ap (λ (t : Told). before ++ (take i told ++ t ∷ [])) here.is
    ∙ ap (λ l. before ++ l) (sym (take_more told i here.result c.loop-told-test.true)))
    (c.in_ok-note.ensures (before ++ take i told) (c.loop-told.invariant before was))
