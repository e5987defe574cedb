-- A look and a publish keep the rule.
use Rattle.std.proofs.Common.{◌≡◌, ◌≢◌, ℕ, zero, suc, ◌+◌, ◌<◌, ◌≤◌, ◌==◌, List, [], ◌∷◌, ◌++◌, length, set, Bool}
use Rattle.std.proofs.Common.{true, false, refl, sym, ap, ◌∙◌, subst, ⊎_elim, arith, Some, None, add-one}
use Rattle.std.specs.Prelude.{slice_index, MatchBool, Option, IsSome}
use Rattle.std.proofs.lemmas.List.{length-set, set-get_or, get_or-set_same, get_or-set_other}
use Rattle.std.proofs.lemmas.Bool.Decides.{nat_tests}
use Rattle.atomic_table.specs.Table.{keeps}
use Rattle.atomic_table.proofs.Lists.{at_set}
use Rattle.hub_live.specs.Moves.{Looked}
use Rattle.hub_live.specs.Prelude.{some, none, IsPrefix, get_elem?, Me, step, Allows, Head, Entry, MOST_PORTS, Terms, View, mark, MarksOne, next_word}
use Rattle.hub_live.specs.Prelude.{IsHistory, Knows, Holds, Fits, Kept, Published, grown}
use Rattle.hub_base.proofs.Lists.{prefix_self, prefix_trans}
use Rattle.hub_live.proofs.Histories.{own_other}

-- after one view was set, each view fits if the others and the new one do
pub fits_set : (t : Terms) (journal : List Entry) (at : ℕ → ℕ) (next : ℕ) (views : List View) (id : ℕ) (w : View)
    → ((j : ℕ) (u : View) → j ≢ id → get_elem? views j ≡ some u → Fits t journal at next j u) → Fits t journal at next id w
    → (j : ℕ) (u : View) → get_elem? (set views id w) j ≡ some u → Fits t journal at next j u
fits_set t journal at next views id w others mine j u e =
    ⊎_elim
    (λ (x : (j ≡ id) × (w ≡ u)). subst (λ (y : ℕ × View). Fits t journal at next y.0 y.1) (λ i. (sym x.0 i, x.1 i)) mine)
    (λ (x : (j ≢ id) × (get_elem? views j ≡ some u)). others j u x.0 x.1)
    (at_set views id j w u e)

-- a load leaves each word
word_same : (ws : List ℕ) (i j : ℕ) → slice_index (set ws i (slice_index ws i)) j ≡ slice_index ws j
word_same ws i j = ap (λ (l : List ℕ). slice_index l j) (set-get_or ws i 0)

knows_all : (journal : List Entry) (n : ℕ) → Knows journal journal n
knows_all journal zero = refl
knows_all journal (suc p) = refl

-- ---- a look

-- the view, once it has seen the journal
abbrev pub seeing : View → List Entry → View
seeing v journal = record v { seen = journal; joined_seen = journal }

-- the seat holds its number still, where it has seen this journal so far
holds_on : {t : Terms} {journal after : List Entry} {at : ℕ → ℕ} {next id n : ℕ} {v w : View} {seen now : List Entry} → w.terms ≡ v.terms
    → IsPrefix now after → Knows after now n → Holds t journal at next id v seen n → Holds t after at next id w now n
holds_on same begins knows k = record { terms = same ∙ k.terms; here = k.here; drawn = k.drawn; begins = begins; knows = knows }

seeing_fits : (t : Terms) (journal : List Entry) (at : ℕ → ℕ) (next id : ℕ) (v : View) → Fits t journal at next id v
    → Fits t journal at next id (seeing v journal)
seeing_fits t journal at next id v f = record {
  own = λ n has. holds_on refl (prefix_self journal) (knows_all journal n) (f.own n has);
  joined = λ n has. holds_on refl (prefix_self journal) (knows_all journal n) (f.joined n has);
  apart = f.apart;
}

looks : (t : Terms) (slots id i k : ℕ) (v : View) → v.number ≡ Some k → Allows (Kept t) slots id (v, []) i (λ n. n) (Looked (step slots i 0 0 none) (v, []))
looks t slots id i k v first s kept homes at bound =
    let f = kept.fits id v at in
    let w = seeing v kept.journal in
    let terms : v.terms ≡ t = (f.own k first).terms in (
      w,
      keeps,
      tt,
      record {
        journal = kept.journal;
        at = kept.at;
        count = length-set s.words i (slice_index s.words i) ∙ kept.count;
        history = kept.history;
        marks = λ n lo hi. word_same s.words i n ∙ kept.marks n lo hi;
        drawn = λ p le. kept.drawn p (subst (λ (k : ℕ). k ≤ p + 1) (word_same s.words i next_word) le);
        fits = subst (λ (k : ℕ). (j : ℕ) (u : View) → get_elem? (set s.views id w) j ≡ some u → Fits t kept.journal kept.at k j u)
            (sym (word_same s.words i next_word))
            (fits_set t kept.journal kept.at (slice_index s.words next_word) s.views id w (λ j u _ e. kept.fits j u e)
            (seeing_fits t kept.journal kept.at (slice_index s.words next_word) id v f));
      },
      (
        refl,
        record {
          sees = record {
            terms = refl;
            number = refl;
            joined = refl;
            history = subst (λ (x : Terms). IsHistory x kept.journal) (sym terms) kept.history;
            own = λ n has. let k = f.own n has in record { begins = k.begins; knows = k.knows };
          };
          both = refl;
          others = λ n has. let k = f.joined n has in record { begins = k.begins; knows = k.knows };
        },
        λ lo hi. kept.marks i lo hi ∙ ap (λ (x : Terms). mark x.head kept.journal i) (sym terms),
      ),
    )

-- ---- a publish

grown_fits : (t : Terms) (journal : List Entry) (at : ℕ → ℕ) (next id : ℕ) (v : View) (e : Entry) → v.seen ≡ journal → Fits t journal at next id v
    → Fits t (journal ++ e ∷ []) at next id (grown v e)
grown_fits t journal at next id v e same f =
    let after = journal ++ e ∷ [] in
    let begins : IsPrefix (v.seen ++ e ∷ []) after = subst (λ (l : List Entry). IsPrefix (l ++ e ∷ []) after) (sym same) (prefix_self after) in
    let knows : (n : ℕ) → Knows after (v.seen ++ e ∷ []) n = λ n. subst (λ (l : List Entry). Knows after (l ++ e ∷ []) n) (sym same) (knows_all after n) in
    record {
      own = λ n has. holds_on refl begins (knows n) (f.own n has);
      joined = λ n has. holds_on refl begins (knows n) (f.joined n has);
      apart = f.apart;
    }

-- another's view fits the journal that is longer by an entry of a process that it does not have
other_fits : (t : Terms) (journal : List Entry) (at : ℕ → ℕ) (next id j : ℕ) (u : View) (e : Entry) → j ≢ id → at 0 ≡ id
    → at (suc e.pid.0) ≡ id → Fits t journal at next j u → Fits t (journal ++ e ∷ []) at next j u
other_fits t journal at next id j u e apart hub mine f = record {
  own = λ n has. grow n u.seen (f.own n has);
  joined = λ n has. grow n u.joined_seen (f.joined n has);
  apart = f.apart;
}
  where
    knows : (n : ℕ) (seen : List Entry) → at n ≡ j → Knows journal seen n → Knows (journal ++ e ∷ []) seen n
    knows zero seen here k = absurd (apart (sym here ∙ hub))
    knows (suc p) seen here k = own_other p journal e (λ (is : e.pid.0 ≡ p). apart (sym here ∙ (ap (λ (q : ℕ). at (suc q)) (sym is) ∙ mine))) ∙ k

    grow : (n : ℕ) (seen : List Entry) → Holds t journal at next j u seen n → Holds t (journal ++ e ∷ []) at next j u seen n
    grow n seen k = holds_on refl (prefix_trans seen journal (journal ++ e ∷ []) k.begins (e ∷ [], refl)) (knows n seen k.here k.knows) k

mark_after : (head : Head) (journal : List Entry) (e : Entry) (ws : List ℕ) (i new n : ℕ) (b : Bool) → (n == i) ≡ b → i < length ws
    → slice_index ws n ≡ mark head journal n → MatchBool b (mark head (journal ++ e ∷ []) n ≡ new) (mark head (journal ++ e ∷ []) n ≡ mark head journal n)
    → slice_index (set ws i new) n ≡ mark head (journal ++ e ∷ []) n
mark_after head journal e ws i new n true is lt was m =
    let same : n ≡ i = grind (arith, nat_tests) in
    ap (λ (k : ℕ). slice_index (set ws i new) k) same ∙ (get_or-set_same ws i new 0 lt ∙ sym m)
mark_after head journal e ws i new n false is lt was m =
    let apart : n ≢ i = grind (arith, nat_tests) in
    get_or-set_other ws i n new 0 apart ∙ (was ∙ sym m)

publishes : (t : Terms) (slots id i new : ℕ) (v : View) (e : Entry) → v.number ≡ Some 0
    → v.joined ≡ Some (suc e.pid.0) → IsHistory t (v.seen ++ e ∷ []) → i ≤ MOST_PORTS → MarksOne t.head v.seen e i new
    → Allows (Kept t) slots id (v, []) i (λ _. new) (λ _. Published e (step slots i new 0 none) (v, []) new)
publishes t slots id i new v e first second history small marks s kept homes at bound =
    let f = kept.fits id v at in
    let hub = f.own 0 first in
    let mine = f.joined (suc e.pid.0) second in
    let same : v.seen ≡ kept.journal = hub.knows in
    let w = grown v e in
    let last : slice_index (set s.words i new) next_word ≡ slice_index s.words next_word =
    get_or-set_other s.words i next_word new 0 (λ (is : next_word ≡ i). omega arith) in (
      w,
      keeps,
      tt,
      record {
        journal = kept.journal ++ e ∷ [];
        at = kept.at;
        count = length-set s.words i new ∙ kept.count;
        history = subst (λ (l : List Entry). IsHistory t (l ++ e ∷ [])) same history;
        marks = λ n lo hi. mark_after t.head kept.journal e s.words i new n (n == i) refl (omega (arith, kept.count)) (kept.marks n lo hi)
            (subst (λ (l : List Entry). MatchBool (n == i) (mark t.head (l ++ e ∷ []) n ≡ new) (mark t.head (l ++ e ∷ []) n ≡ mark t.head l n)) same
            (marks n lo hi));
        drawn = λ p le.
            let le' : slice_index s.words next_word ≤ p + 1 = subst (λ (k : ℕ). k ≤ p + 1) last le in
            own_other p kept.journal e (λ (is : e.pid.0 ≡ p). let lt : suc e.pid.0 < slice_index s.words next_word = mine.drawn in omega arith)
            ∙ kept.drawn p le';
        fits = subst (λ (k : ℕ). (j : ℕ) (u : View) → get_elem? (set s.views id w) j ≡ some u → Fits t (kept.journal ++ e ∷ []) kept.at k j u) (sym last)
            (fits_set t (kept.journal ++ e ∷ []) kept.at (slice_index s.words next_word) s.views id w
            (λ j u apart there. other_fits t kept.journal kept.at (slice_index s.words next_word) id j u e apart hub.here mine.here (kept.fits j u there))
            (grown_fits t kept.journal kept.at (slice_index s.words next_word) id v e same f));
      },
      (refl, refl),
    )

-- ---- the same of a seat that holds no slot

pub some_of : {A : Type 0} (o : Option A) → IsSome o → (x : A) × (o ≡ Some x)
some_of None h = absurd (cc)
some_of (Some x) h = (x, refl)

pub looks_as : (t : Terms) (slots id i : ℕ) (me : Me (Unit {0}) View) → me.1 ≡ [] → IsSome me.0.number
    → Allows (Kept t) slots id me i (λ n. n) (Looked (step slots i 0 0 none) me)
looks_as t slots id i me empty has =
    let k = some_of me.0.number has in
    subst (λ (l : List (ℕ × Unit {0})). Allows (Kept t) slots id (me.0, l) i (λ n. n) (Looked (step slots i 0 0 none) (me.0, l)))
    (sym empty) (looks t slots id i k.0 me.0 k.1)

pub publishes_as : (t : Terms) (slots id i new : ℕ) (me : Me (Unit {0}) View) (e : Entry) → me.1 ≡ [] → me.0.number ≡ Some 0
    → me.0.joined ≡ Some (e.pid.0 + 1) → IsHistory t (me.0.seen ++ e ∷ []) → i ≤ MOST_PORTS → MarksOne t.head me.0.seen e i new
    → Allows (Kept t) slots id me i (λ _. new) (λ _. Published e (step slots i new 0 none) me new)
publishes_as t slots id i new me e empty first second history small marks =
    subst (λ (l : List (ℕ × Unit {0})). Allows (Kept t) slots id (me.0, l) i (λ _. new) (λ _. Published e (step slots i new 0 none) (me.0, l) new)) (sym empty)
    (publishes t slots id i new me.0 e first (second ∙ ap Some (add-one e.pid.0)) history small marks)
