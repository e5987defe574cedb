use Rattle.std.proofs.Common.{◌≡◌, ◌∙◌, ℕ, refl, sym, subst, List}
use Rattle.std.specs.List.{AllByRecursion}
use Rattle.std.specs.Global.{Vec}
use Rattle.std.proofs.lemmas.Result.{IfOk-weaker}
use Rattle.hub_base.specs.Entry.{Entry}
use Rattle.hub_base.specs.declared.head.Head.{Head}
use Rattle.hub_base.specs.Head.{AreOf, IsHead}
use Rattle.hub_base.specs.Reading.{text}
use Rattle.hub_base.specs.Text.{Fits, IsText}
use Rattle.hub_core.specs.HubView.{HubView, state_of}
use Rattle.hub_chapters.specs.Checkpoint.{checkpoint}
use Rattle.hub_chapters.proofs.Checkpoints.{checkpoint-law}
use Rattle.hub_cut.proofs.ChapterTexts.{checkpoint_is_text}
use Rattle.hub_cut.proofs.checkpoint_texts.checkpoint_text.Goals as goal

are_of : (hub : HubView) → AreOf hub.terms.head.edition hub.journal → AreOf hub.terms.head.edition (checkpoint (state_of hub))
are_of hub fits = (checkpoint-law hub.terms.head hub.journal).fits fits

written : (hub : HubView) (head : Head) (es : List Entry) → head ≡ hub.terms.head → es ≡ checkpoint (state_of hub) →
    AreOf hub.terms.head.edition hub.journal → AreOf head.edition es
written hub head es is same fits =
    subst (λ (h : Head). AreOf h.edition es) (sym is)
    (subst (λ (xs : List Entry). AreOf hub.terms.head.edition xs) (sym same) (are_of hub fits))

pub all_fit-requires : goal.all_fit-requires
all_fit-requires c =
    written c.args.hub.now.memory.hub c.head-head.result c.deref.result.now c.head-head.ensures.value (c.deref.ensures.value ∙ c.in_ok-entries.ensures)
    c.journal_is_legal.ensures.fits

pub returns : goal.returns
returns c =
    let hub = c.args.hub.now.memory.hub in
    let cp : List Entry = checkpoint (state_of hub) in
    let is : c.head-head.result ≡ hub.terms.head = c.head-head.ensures.value in
    let same : c.deref.result.now ≡ cp = c.deref.ensures.value ∙ c.in_ok-entries.ensures in
    let fits : AllByRecursion (Fits hub.terms.head.edition) cp =
    subst (λ (es : List Entry). AllByRecursion (Fits hub.terms.head.edition) es) same
    (subst (λ (h : Head). AllByRecursion (Fits h.edition) c.deref.result.now) is c.all_fit.ensures) in
    let range : IsHead hub.terms.head = subst (λ (h : Head). IsHead h) is c.head-head.ensures.range in
    let journal = c.of.result in
    let spelled : text journal.head journal.entries ≡ text hub.terms.head cp = rw (c.of.ensures, c.in_ok-entries.ensures, is) refl in
    IfOk-weaker c.text_of-2.result (λ (t : Vec ℕ). t.items ≡ text journal.head journal.entries) (λ (t : Vec ℕ). IsText t.items hub.terms.head cp)
    (λ t h. checkpoint_is_text hub.terms.head hub.journal t.items range fits (h ∙ spelled)) c.text_of-2.ensures
