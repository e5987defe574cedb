use Rattle.std.proofs.Common.{ℕ, List, [], Option, ap, subst, arith, length}
use Rattle.std.proofs.lemmas.List.{length_push}
use Rattle.hub_base.specs.declared.head.Head.{Head}
use Rattle.hub_base.specs.Journal.{JournalView}
use Rattle.hub_chapters.specs.Chapters.{Chapters}
use Rattle.hub_chapters.specs.Chapters.Chapters.{First, Cut}
use Rattle.hub_cut.specs.Texts.{AreTexts, AreWhole, IsAt}
use Rattle.chanhub_tool.proofs.commands.chain.check_chain.Goals as goal

-- no text is whole alone
some_text : (h : Head) (chapters : Chapters) → AreTexts h chapters [] → ⊥
some_text h (First es) are = omega (arith, ap length are.1)
some_text h (Cut chapters later) are = omega (arith, ap length are.2, length_push are.0 are.1)

pub returns-in-Ok-None-clause-broken : goal.returns-in-Ok-None-clause-broken
returns-in-Ok-None-clause-broken g c = λ status texts all whole.
    let none = subst (λ (o : Option JournalView). IsAt o texts) c.in-Ok-None.field-0-is (c.in-Ok-None.ensures.ok texts all) in
    some_text whole.head whole.chapters (subst (λ (ts : List (List ℕ)). AreTexts whole.head whole.chapters ts) none whole.texts_are)
