-- Why a chapter is none, or does not follow.
use Rattle.std.proofs.Common.{◌≡◌, ◌∙◌, ℕ, List, ◌∷◌, ◌++◌, Some, None, refl, ap, sym, subst, suc, take, drop}
use Rattle.std.specs.Prelude.{slice_get, Result, Ok, Err, IfErr}
use Rattle.hub_base.specs.Entry.{Entry}
use Rattle.hub_base.specs.declared.fault.Fault.{Fault}
use Rattle.hub_base.specs.declared.head.Head.{Head}
use Rattle.hub_base.specs.Journal.{JournalView}
use Rattle.hub_base.specs.Runs.{state}
use Rattle.hub_base.specs.Steps.{refusal}
use Rattle.hub_base.specs.Text.{IsText}
use Rattle.hub_base.proofs.OneReading.{one-text, apart}
use Rattle.hub_laws.specs.Journals.{IsLegal}
use Rattle.hub_laws.proofs.Journals.{begins-law}
use Rattle.hub_chapters.specs.Chapters.{Chapters, last_chapter}
use Rattle.hub_chapters.specs.Chapters.Chapters.{First, Cut}
use Rattle.hub_chapters.specs.Checkpoint.{checkpoint}
use Rattle.hub_cut.specs.declared.fault.ChainFault.{ChainFault}
use Rattle.hub_cut.specs.declared.fault.ChainFault.TheVariants as chain
use Rattle.hub_cut.specs.Chains.{IsChapter, Stands}
use Rattle.hub_cut.specs.Faults.{Says, RefusedAt, DifferAt, GoesOn, IsNotLegal, DoesNotFollow}
use Rattle.hub_base.proofs.Lists.{around}
use Rattle.hub_cut.proofs.Places.{still_there}

-- What is refused

some_none : (f : Fault) → Some f ≡ None → ⊥
some_none f h = cc

-- an entry that is refused is in no legal journal
not_legal : (line : ℕ) (why : Fault) (j : JournalView) → RefusedAt line why j → IsLegal j.head j.entries → ⊥
not_legal line why j at legal =
    let whole : IsLegal j.head (take at.place j.entries ++ at.entry ∷ drop (suc at.place) j.entries) =
    subst (λ (es : List Entry). IsLegal j.head es) (around at.place j.entries at.entry at.there) legal in
    let admitted : refusal (state j.head (take at.place j.entries)) at.entry.pid ≡ None =
    (begins-law j.head (take at.place j.entries) (drop (suc at.place) j.entries)).next at.entry whole in
    some_none why (sym at.refused ∙ admitted)

-- the journal of a text is the one that it says
said : (text : List ℕ) (h : Head) (es : List Entry) (Holds : JournalView → Type 0) → IsText text h es → Says text Holds
    → Holds (record { head = h; entries = es })
said text h es Holds is says =
    let one = one-text text says.journal.head h says.journal.entries es says.spelled is in
    subst (λ (k : Head). Holds (record { head = k; entries = es })) one.0
    (subst (λ (fs : List Entry). Holds (record { head = says.journal.head; entries = fs })) one.1 says.holds)

no_journal : (text : List ℕ) (f : ChainFault) → IsNotLegal text f → ¬ (f ≡ chain.NoMemory) → (h : Head) (es : List Entry)
    → IsText text h es → IsLegal h es → ⊥
no_journal text (chain.Text t) why not h es is legal = apart text h t.line es t.kind is why
no_journal text chain.OtherEdition why not h es is legal = why
no_journal text chain.OtherProcs why not h es is legal = why
no_journal text (chain.OtherCheckpoint line) why not h es is legal = why
no_journal text (chain.NotAdmitted line f) why not h es is legal =
    not_legal line f (record { head = h; entries = es }) (said text h es (RefusedAt line f) is why) legal
no_journal text chain.NoMemory why not h es is legal = not refl

no_next : (last : JournalView) (text : List ℕ) (f : ChainFault) → DoesNotFollow last text f → ¬ (f ≡ chain.NoMemory)
    → (h : Head) (chapters : Chapters) (later : List Entry) → Stands last h chapters
    → IsText text h (last_chapter h (Cut chapters later)) → IsLegal h (last_chapter h (Cut chapters later)) → ⊥
no_next last text (chain.Text t) why not h chapters later stands is legal =
    no_journal text (chain.Text t) why not h (last_chapter h (Cut chapters later)) is legal
no_next last text chain.OtherEdition why not h chapters later stands is legal =
    said text h (last_chapter h (Cut chapters later)) (λ j. ¬ (j.head.edition ≡ last.head.edition)) is why
    (ap (λ (k : Head). k.edition) (sym stands.head))
no_next last text chain.OtherProcs why not h chapters later stands is legal =
    (said text h (last_chapter h (Cut chapters later)) (λ j. (j.head.edition ≡ last.head.edition) × (¬ (j.head.procs ≡ last.head.procs))) is why).1
    (ap (λ (k : Head). k.procs) (sym stands.head))
no_next last text (chain.OtherCheckpoint line) why not h chapters later stands is legal =
    let at = (said text h (last_chapter h (Cut chapters later)) (λ j. (j.head ≡ last.head) × DifferAt line j.entries last.entries) is why).1 in
    let there : slice_get (checkpoint (state h (last_chapter h chapters))) at.place ≡ Some at.entry =
    ap (λ (es : List Entry). slice_get es at.place) (sym stands.checkpoint) ∙ at.missing in
    at.differs (still_there at.place (checkpoint (state h (last_chapter h chapters))) later at.entry there)
no_next last text (chain.NotAdmitted line f) why not h chapters later stands is legal =
    not_legal line f (record { head = h; entries = last_chapter h (Cut chapters later) })
    (said text h (last_chapter h (Cut chapters later)) (λ j. GoesOn last j × RefusedAt line f j) is why).1 legal
no_next last text chain.NoMemory why not h chapters later stands is legal = not refl

-- After a refusal that is not one of memory

pub only_first : {A : Type 0} (text : List ℕ) (r : Result A ChainFault) → IfErr r (IsNotLegal text)
    → IfErr r (λ f. ¬ (f ≡ chain.NoMemory) → (h : Head) (es : List Entry) → ¬ IsChapter text h (First es))
only_first text (Ok x) why = tt
only_first text (Err f) why = λ not h es is. no_journal text f why not h es is.spelled is.legal

pub only_next : {A : Type 0} (last : JournalView) (text : List ℕ) (r : Result A ChainFault) → IfErr r (DoesNotFollow last text)
    → IfErr r (λ f. ¬ (f ≡ chain.NoMemory) → (h : Head) (chapters : Chapters) (later : List Entry) → Stands last h chapters
    → ¬ IsChapter text h (Cut chapters later))
only_next last text (Ok x) why = tt
only_next last text (Err f) why = λ not h chapters later stands is. no_next last text f why not h chapters later stands is.spelled is.legal
