-- Texts are those of one list of chapters at most, so a chain tells whether they are whole.
use Rattle.std.proofs.Common.{◌≡◌, ◌∙◌, ℕ, ◌<◌, List, [], ◌∷◌, ◌++◌, append_assoc, Option, None, Some, refl, ap, sym, subst}
use Rattle.std.proofs.Common.{arith, length, take, ◌≤◌, ◌⊎◌, inl, inr}
use Rattle.std.specs.Prelude.{Result, Ok, Err, IfErr}
use Rattle.std.proofs.lemmas.Bool.{cases_lt}
use Rattle.std.proofs.lemmas.List.{append_cancel_left, length_push, length-append, take-append-le}
use Rattle.std.proofs.Math.Seq.{take-length}
use Rattle.hub_base.specs.Entry.{Entry}
use Rattle.hub_base.specs.declared.head.Head.{Head}
use Rattle.hub_base.specs.Journal.{JournalView}
use Rattle.hub_base.specs.Runs.{state}
use Rattle.hub_base.specs.Text.{IsText}
use Rattle.hub_base.proofs.OneReading.{one-text}
use Rattle.hub_chapters.specs.Chapters.{Chapters, last_chapter, AreLegal}
use Rattle.hub_chapters.specs.Chapters.Chapters.{First, Cut}
use Rattle.hub_chapters.specs.Checkpoint.{checkpoint}
use Rattle.hub_chapters.proofs.Chapters.{chapters-law}
use Rattle.hub_cut.specs.declared.fault.ChainFault.{ChainFault}
use Rattle.hub_cut.specs.declared.fault.ChainFault.TheVariants as chain
use Rattle.hub_cut.specs.Chains.{IsChapter, Stands, IsWhole}
use Rattle.hub_cut.specs.Texts.{AreTexts, AreWhole, StandsAt, IsAt}

-- the last elements are the same, and what stands before them
snoc_same : {A : Type 0} (xs ys : List A) (x y : A) → xs ++ x ∷ [] ≡ ys ++ y ∷ [] → (xs ≡ ys) × (x ≡ y)
snoc_same [] [] x y e = (refl, cc)
snoc_same [] (b ∷ zs) x y e = absurd (omega (arith, ap length e, length_push zs y))
snoc_same (a ∷ ys) [] x y e = absurd (omega (arith, ap length e, length_push ys x))
snoc_same (a ∷ ys) (b ∷ zs) x y e =
    let rest : (ys ≡ zs) × (x ≡ y) = snoc_same ys zs x y cc in
    let first : a ≡ b = cc in
    (ap (λ c. c ∷ ys) first ∙ ap (λ cs. b ∷ cs) rest.0, rest.1)

some_text : (h : Head) (c : Chapters) (texts : List (List ℕ)) → AreTexts h c texts → 0 < length texts
some_text h (First es) texts is = omega (arith, ap length is.1)
some_text h (Cut c later) texts is = omega (arith, ap length is.2, length_push is.0 is.1)

-- one text is not that of chapters that were cut
not_one : (h : Head) (c : Chapters) (before : List (List ℕ)) (text other : List ℕ) → AreTexts h c before → before ++ text ∷ [] ≡ other ∷ [] → ⊥
not_one h c before text other is e = omega (arith, ap length e, length_push before text, some_text h c before is)

abbrev Same : Head → Head → Chapters → Chapters → Type 0
Same h k c d = (h ≡ k) × (c ≡ d)

-- the entries behind one checkpoint
later_same : (h k : Head) (c d : Chapters) (later other : List Entry) → Same h k c d → last_chapter h (Cut c later) ≡ last_chapter k (Cut d other)
    → Same h k (Cut c later) (Cut d other)
later_same h k c d later other same e =
    let moved : last_chapter k (Cut d other) ≡ last_chapter h (Cut c other) =
    ap (λ (g : Head). checkpoint (state g (last_chapter g d)) ++ other) (sym same.0)
    ∙ ap (λ (b : Chapters). checkpoint (state h (last_chapter h b)) ++ other) (sym same.1) in (
      same.0,
      ap (λ (b : Chapters). Cut b later) same.1 ∙ ap (λ (es : List Entry). Cut d es)
          (append_cancel_left (checkpoint (state h (last_chapter h c))) later other (e ∙ moved)),
    )

pub one_list : (h k : Head) (c d : Chapters) (texts : List (List ℕ)) → AreTexts h c texts → AreTexts k d texts → Same h k c d
one_list h k (First es) (First fs) texts a b =
    let text : a.0 ≡ b.0 = (snoc_same [] [] a.0 b.0 (sym a.1 ∙ b.1)).1 in
    let one = one-text b.0 h k es fs (subst (λ (bytes : List ℕ). IsText bytes h es) text a.2) b.2 in
    (one.0, ap First one.1)
one_list h k (First es) (Cut d other) texts a b = absurd (not_one k d b.0 b.1 a.0 b.3 (sym b.2 ∙ a.1))
one_list h k (Cut c later) (First fs) texts a b = absurd (not_one h c a.0 a.1 b.0 a.3 (sym a.2 ∙ b.1))
one_list h k (Cut c later) (Cut d other) texts a b =
    let both = snoc_same a.0 b.0 a.1 b.1 (sym a.2 ∙ b.2) in
    let before = one_list h k c d b.0 (subst (λ (ts : List (List ℕ)). AreTexts h c ts) both.0 a.3) b.3 in
    let last = one-text b.1 h k (last_chapter h (Cut c later)) (last_chapter k (Cut d other))
    (subst (λ (bytes : List ℕ). IsText bytes h (last_chapter h (Cut c later))) both.1 a.4) b.4 in
    later_same h k c d later other before last.1

-- Texts that are whole

chapters_whole : (h : Head) (c : Chapters) (texts : List (List ℕ)) → AreTexts h c texts → AreLegal h c → AreWhole texts
chapters_whole h c texts is legal =
    let law = chapters-law h c in
    record {
      head = h;
      chapters = c;
      texts_are = is;
      whole = record { chapters_legal = legal; history_legal = law.legal legal; told = law.told };
    }

pub whole_at : (last : JournalView) (texts : List (List ℕ)) → StandsAt last texts → AreWhole texts
whole_at last texts at = chapters_whole at.head at.chapters texts at.texts_are at.stands.legal

-- a beginning of texts that are whole is whole
begins_whole : (h : Head) (c : Chapters) (texts : List (List ℕ)) (n : ℕ) → AreTexts h c texts → AreLegal h c → 0 < n → n ≤ length texts
    → AreWhole (take n texts)
begins_whole h (First es) texts n is legal some few =
    let whole : take n texts ≡ texts = ap (λ k. take k texts) (let one : n ≡ length texts = omega (arith, ap length is.1) in one) ∙ take-length texts in
    subst AreWhole (sym whole) (chapters_whole h (First es) texts is legal)
begins_whole h (Cut c later) texts n is legal some few =
    by (cases_lt n (length texts)) (λ few. begins_whole h c is.0 n is.3 legal.0 some few)
  where
    shorter : n < length texts → AreWhole (take n is.0) → AreWhole (take n texts)
    shorter fewer before =
        let within : n ≤ length is.0 = omega (arith, ap length is.2, length_push is.0 is.1) in
        subst AreWhole (sym (ap (λ (ts : List (List ℕ)). take n ts) is.2 ∙ take-append-le n is.0 (is.1 ∷ []) within)) before

    inside : n < length texts → n ≤ length is.0
    inside fewer = omega (arith, ap length is.2, length_push is.0 is.1)

    by : (n < length texts) ⊎ (length texts ≤ n) → (n ≤ length is.0 → AreWhole (take n is.0)) → AreWhole (take n texts)
    by (inl fewer) recur = shorter fewer (recur (inside fewer))
    by (inr most) recur =
        let same : n ≡ length texts = omega arith in
        subst AreWhole (sym (ap (λ k. take k texts) same ∙ take-length texts)) (chapters_whole h (Cut c later) texts is legal)

-- as one is up to some text
whole_to : (texts : List (List ℕ)) (text : List ℕ) (later : List (List ℕ)) → AreWhole (texts ++ text ∷ later) → AreWhole (texts ++ text ∷ [])
whole_to texts text later given =
    let first : List (List ℕ) = texts ++ text ∷ [] in
    let whole : AreWhole (first ++ later) = subst AreWhole (sym (append_assoc texts (text ∷ []) later)) given in
    subst AreWhole (take-append-le (length first) first later (omega arith) ∙ take-length first)
    (begins_whole whole.head whole.chapters (first ++ later) (length first) whole.texts_are whole.whole.chapters_legal
    (omega (arith, length_push texts text)) (omega (arith, length-append first later)))

-- A text that is not the next

pub not_first : (text : List ℕ) → ((h : Head) (es : List Entry) → ¬ IsChapter text h (First es)) → (texts : List (List ℕ)) → texts ≡ []
    → ¬ AreWhole (texts ++ text ∷ [])
not_first text not texts none whole = by whole.chapters whole.texts_are whole.whole
  where
    one : texts ++ text ∷ [] ≡ text ∷ []
    one = ap (λ (ts : List (List ℕ)). ts ++ text ∷ []) none

    by : (c : Chapters) → AreTexts whole.head c (texts ++ text ∷ []) → IsWhole whole.head c → ⊥
    by (First es) are is =
        let same : are.0 ≡ text = (snoc_same [] [] are.0 text (sym are.1 ∙ one)).1 in
        not whole.head es (record { spelled = subst (λ (bytes : List ℕ). IsText bytes whole.head es) same are.2; legal = is.chapters_legal })
    by (Cut c later) are is = not_one whole.head c are.0 are.1 text are.3 (sym are.2 ∙ one)

pub not_next : (text : List ℕ) (old : JournalView)
    → ((h : Head) (c : Chapters) (later : List Entry) → Stands old h c → ¬ IsChapter text h (Cut c later)) → (texts : List (List ℕ)) → StandsAt old texts
    → ¬ AreWhole (texts ++ text ∷ [])
not_next text old not texts at whole = by whole.head whole.chapters whole.texts_are whole.whole
  where
    by : (k : Head) (d : Chapters) → AreTexts k d (texts ++ text ∷ []) → IsWhole k d → ⊥
    by k (First es) are is = not_one at.head at.chapters texts text are.0 at.texts_are are.1
    by k (Cut d later) are is =
        let both = snoc_same are.0 texts are.1 text (sym are.2) in
        let before : AreTexts k d texts = subst (λ (ts : List (List ℕ)). AreTexts k d ts) both.0 are.3 in
        let same = one_list at.head k at.chapters d texts at.texts_are before in
        let stands : Stands old k d =
        subst (λ (b : Chapters). Stands old k b) same.1 (subst (λ (g : Head). Stands old g at.chapters) same.0 at.stands) in
        not k d later stands (record {
          spelled = subst (λ (bytes : List ℕ). IsText bytes k (last_chapter k (Cut d later))) both.1 are.4;
          legal = is.chapters_legal.1;
        })

-- After a refusal that is not one of memory

pub only_one : {A : Type 0} (text : List ℕ) (given : Option JournalView) (r : Result A ChainFault) → given ≡ None
    → IfErr r (λ f. ¬ (f ≡ chain.NoMemory) → (h : Head) (es : List Entry) → ¬ IsChapter text h (First es))
    → IfErr r (λ f. ¬ (f ≡ chain.NoMemory) → (texts later : List (List ℕ)) → IsAt given texts → ¬ AreWhole (texts ++ text ∷ later))
only_one text given (Ok x) none not = tt
only_one text given (Err f) none not =
    λ why texts later at whole. not_first text (not why) texts (subst (λ (o : Option JournalView). IsAt o texts) none at) (whole_to texts text later whole)

pub only_more : {A : Type 0} (text : List ℕ) (given : Option JournalView) (old : JournalView) (r : Result A ChainFault) → given ≡ Some old
    → IfErr r (λ f. ¬ (f ≡ chain.NoMemory) → (h : Head) (c : Chapters) (later : List Entry) → Stands old h c → ¬ IsChapter text h (Cut c later))
    → IfErr r (λ f. ¬ (f ≡ chain.NoMemory) → (texts later : List (List ℕ)) → IsAt given texts → ¬ AreWhole (texts ++ text ∷ later))
only_more text given old (Ok x) some not = tt
only_more text given old (Err f) some not =
    λ why texts later at whole. not_next text old (not why) texts (subst (λ (o : Option JournalView). IsAt o texts) some at) (whole_to texts text later whole)
