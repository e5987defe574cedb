use Rattle.std.proofs.Common.{[], ◌∷◌, ◌∙◌, ◌++◌, ap, sym, subst, take, append_assoc}
use Rattle.std.proofs.lemmas.List.{take_more}
use Rattle.hub_story.specs.declared.told.Told.{Told}
use Rattle.hub_page.specs.ParkedCalls.{AreParked}
use Rattle.hub_page.proofs.Waiting.{calls-more}
use Rattle.hub_page.proofs.parked_calls.ParkedCalls.note_all.Goals as goal

pub loop-told-preserved : goal.loop-told-preserved
loop-told-preserved c =
    let here = c.told-item in
    let told = c.args.told.now in
    let i = c.loop-told.told-index in
    record {
      parked = λ until was.
          subst (λ l. AreParked c.args.procs l c.note.new.self)
          (append_assoc until _ _ ∙ ap (λ (t : Told). until ++ (take i told ++ t ∷ [])) here.is
          ∙ ap (λ l. until ++ l) (sym (take_more told i here.result c.loop-told-test.true)))
          (calls-more c.args.procs _ _ c.loop-told.self c.note.new.self (c.loop-told.invariant.parked until was) c.note.ensures.next);
      whole = c.note.ensures.whole;
    }
