-- Seats that enter, draw their numbers, take in others and give them back keep the rule.
use Rattle.std.proofs.Common.{◌≡◌, ◌≢◌, ◌⊎◌, ℕ, zero, suc, ◌+◌, ◌-◌, ◌<◌, ◌≤◌, ◌==◌, eqb, List, [], ◌∷◌, ◌++◌, length, set, Bool}
use Rattle.std.proofs.Common.{true, false, cond, refl, sym, ap, ◌∙◌, subst, ⊎_elim, arith, inl, inr, Some, None, eq-eqb, ne_eqb}
use Rattle.std.specs.Prelude.{slice_index, slice_get, MatchBool, IsSome, replicate}
use Rattle.std.specs.Option.{option_map, option_map_or}
use Rattle.std.proofs.lemmas.List.{length-set, set-get_or, get_or-set_same, get_or-set_other, get_or-replicate}
use mathlib.Core.Option.{some-injective, some-ne-none}
use prog.Atomic.{either}
use Rattle.atomic_table.specs.Table.{State, keeps, opening, Enters, Joins, Splits}
use Rattle.atomic_table.proofs.Lists.{at_set, set_again, exchanged}
use Rattle.hub_live.specs.Rule.{word_count, spent}
use Rattle.hub_live.specs.Moves.{Entered, Drew, numbered}
use Rattle.hub_live.specs.Prelude.{some, none, IsPrefix, get_elem?, Me, step, Allows, Entry, Channel, own, counts_of, Terms, View, mark_of, next_word, blank}
use Rattle.hub_live.specs.Prelude.{Knows, Holds, Fits, Kept, with_joined, parted, given_back}
use Rattle.hub_live.proofs.Histories.{own_none}
use Rattle.hub_live.proofs.Steps.{fits_set, some_of}

-- one more at the end
at_end : {A : Type 0} (l : List A) (a b : A) (j : ℕ) → get_elem? (l ++ a ∷ []) j ≡ some b → (get_elem? l j ≡ some b) ⊎ ((j ≡ length l) × (a ≡ b))
at_end [] a b zero e = inr (refl, some-injective a b e)
at_end [] a b (suc j) e = absurd (some-ne-none b (sym e))
at_end (x ∷ xs) a b zero e = inl e
at_end (x ∷ xs) a b (suc j) e = ⊎_elim (λ x. inl x) (λ x. inr (ap suc x.0, x.1)) (at_end xs a b j e)

none_some : (n : ℕ) → None ≡ Some n → ⊥
none_some n e = cc

-- a view with no number fits
idle_fits : (t : Terms) (journal : List Entry) (at : ℕ → ℕ) (next id : ℕ) (v : View) → v.number ≡ None → v.joined ≡ None → Fits t journal at next id v
idle_fits t journal at next id v first second = record {
  own = λ n h. absurd (none_some n (sym first ∙ h));
  joined = λ n h. absurd (none_some n (sym second ∙ h));
  apart = λ n h _. none_some n (sym first ∙ h);
}

-- the seats, once a number is at another
abbrev pub moved : (ℕ → ℕ) → ℕ → ℕ → ℕ → ℕ
moved at m id n = cond (eqb n m) id (at n)

moved_here : (at : ℕ → ℕ) (m id n : ℕ) → n ≡ m → moved at m id n ≡ id
moved_here at m id n e = ap (λ (b : Bool). cond b id (at n)) (eq-eqb n m e)

moved_else : (at : ℕ → ℕ) (m id n : ℕ) → n ≢ m → moved at m id n ≡ at n
moved_else at m id n e = ap (λ (b : Bool). cond b id (at n)) (ne_eqb n m e)

-- what is held stays, where another number moves
held : (t : Terms) (journal : List Entry) (at : ℕ → ℕ) (next next' id m to : ℕ) (v w : View) (seen : List Entry) (n : ℕ) → w.terms ≡ v.terms
    → next ≤ next' → n ≢ m → Holds t journal at next id v seen n → Holds t journal (moved at m to) next' id w seen n
held t journal at next next' id m to v w seen n same more not k =
    let lt : n < next = k.drawn in
    record { terms = same ∙ k.terms; here = moved_else at m to n not ∙ k.here; drawn = omega arith; begins = k.begins; knows = k.knows }

-- a view without the number that moves still fits
stays : (t : Terms) (journal : List Entry) (at : ℕ → ℕ) (next next' id m to : ℕ) (v : View) → next ≤ next'
    → ((seen : List Entry) → Holds t journal at next id v seen m → ⊥) → Fits t journal at next id v → Fits t journal (moved at m to) next' id v
stays t journal at next next' id m to v more without f = record {
  own = λ n h. held t journal at next next' id m to v v v.seen n refl more
      (λ (e : n ≡ m). without v.seen (subst (λ (x : ℕ). Holds t journal at next id v v.seen x) e (f.own n h))) (f.own n h);
  joined = λ n h. held t journal at next next' id m to v v v.joined_seen n refl more
      (λ (e : n ≡ m). without v.joined_seen (subst (λ (x : ℕ). Holds t journal at next id v v.joined_seen x) e (f.joined n h))) (f.joined n h);
  apart = f.apart;
}

no_mark : (b : Bool) (i : ℕ) → option_map_or mark_of (option_map counts_of (cond b None (slice_get {X = Channel} [] i))) 0 ≡ 0
no_mark true i = refl
no_mark false i = refl

pub begins : (t : Terms) → Kept t (opening (replicate word_count 0) [] (blank t))
begins t = record {
  journal = [];
  at = λ _. 0;
  count = refl;
  history = record { legal = refl; few = omega arith };
  marks = λ n lo hi. get_or-replicate word_count n 0 0 (omega arith) ∙ sym (no_mark (n == 0) (n - 1));
  drawn = λ _ _. refl;
  fits = λ id v e. one id v e;
}
  where
    one : (id : ℕ) (v : View) → get_elem? (blank t ∷ []) id ≡ some v → Fits t [] (λ _. 0) (slice_index (replicate word_count 0) next_word) id v
    one zero v e = subst (Fits t [] (λ _. 0) (slice_index (replicate word_count 0) next_word) 0) (some-injective _ _ e)
        (idle_fits t [] (λ _. 0) (slice_index (replicate word_count 0) next_word) 0 (blank t) refl refl)
    one (suc id) v e = absurd (some-ne-none v (sym e))

-- the same words, where each of these views fits
reseated : {t : Terms} {s : State (Unit {0}) View} (kept : Kept t s) (at : ℕ → ℕ) (views : List View)
    → ((id : ℕ) (v : View) → get_elem? views id ≡ some v → Fits t kept.journal at (slice_index s.words next_word) id v)
    → Kept t record { words = s.words; homes = s.homes; views = views }
reseated kept at views fits =
    record { journal = kept.journal; at = at; count = kept.count; history = kept.history; marks = kept.marks; drawn = kept.drawn; fits = fits }

pub enters : (t : Terms) (slots i : ℕ) → Enters (Kept t) slots i (λ n w. Entered (step slots i 0 0 none) (blank t, []) n (w, []))
enters t slots i s kept homes bound = (
  blank t,
  reseated kept kept.at (s.views ++ blank t ∷ []) (λ j u e. ⊎_elim
      (λ (was : get_elem? s.views j ≡ some u). kept.fits j u was)
      (λ (x : (j ≡ length s.views) × (blank t ≡ u)). subst (Fits t kept.journal kept.at (slice_index s.words next_word) j) x.1
      (idle_fits t kept.journal kept.at (slice_index s.words next_word) j (blank t) refl refl))
      (at_end s.views (blank t) u j e)),
  refl,
)

-- a new number knows all that it has to
knows_new : (journal : List Entry) (next k : ℕ) → next ≡ k → ((p : ℕ) → next ≤ p + 1 → own p journal ≡ []) → Knows journal [] k
knows_new journal next zero e drawn = sym (own_none journal (λ p. drawn p (omega arith)))
knows_new journal next (suc p) e drawn = drawn p (omega arith)

numbered_fits : (t : Terms) (journal : List Entry) (at : ℕ → ℕ) (k id : ℕ) (v : View) → v.terms ≡ t → v.joined ≡ None → v.seen ≡ []
    → Knows journal [] k → Fits t journal (moved at k id) (k + 1) id (numbered v k)
numbered_fits t journal at k id v same second empty knows = record {
  own = λ n h.
      let is : k ≡ n = cc in
      record {
        terms = same;
        here = moved_here at k id n (sym is);
        drawn = omega arith;
        begins = subst (λ (l : List Entry). IsPrefix l journal) (sym empty) (journal, refl);
        knows = subst (λ (x : ℕ). Knows journal v.seen x) is (subst (λ (l : List Entry). Knows journal l k) (sym empty) knows);
      };
  joined = λ n h. absurd (none_some n (sym second ∙ h));
  apart = λ n _ h. none_some n (sym second ∙ h);
}

-- what a draw leaves, where the word has become y
abbrev pub Drawn : (t : Terms) (id k : ℕ) (v : View) (s : State (Unit {0}) View) → ℕ → Type 0
Drawn t id k v s y = (w : View) × Kept t record { words = set s.words next_word y; homes = s.homes; views = set s.views id w }
    × MatchBool (slice_index s.words next_word == k) (w ≡ numbered v k) (w ≡ v)

draws_hit : (t : Terms) (id k : ℕ) (v : View) (s : State (Unit {0}) View) → Kept t s → get_elem? s.views id ≡ some v → v.terms ≡ t
    → v.number ≡ None → v.joined ≡ None → v.seen ≡ [] → slice_index s.words next_word ≡ k → Drawn t id k v s (k + 1)
draws_hit t id k v s kept at same first second empty is =
    let w = numbered v k in
    let next = slice_index s.words next_word in
    let words' = set s.words next_word (k + 1) in
    let next' : slice_index words' next_word ≡ k + 1 = get_or-set_same s.words next_word (k + 1) 0 (omega (arith, kept.count)) in (
      w,
      record {
        journal = kept.journal;
        at = moved kept.at k id;
        count = length-set s.words next_word (k + 1) ∙ kept.count;
        history = kept.history;
        marks = λ n lo hi. get_or-set_other s.words next_word n (k + 1) 0 (λ (e : n ≡ next_word). omega arith) ∙ kept.marks n lo hi;
        drawn = λ p le. kept.drawn p (let le' : k + 1 ≤ p + 1 = subst (λ (x : ℕ). x ≤ p + 1) next' le in omega arith);
        fits = subst (λ (x : ℕ). (j : ℕ) (u : View) → get_elem? (set s.views id w) j ≡ some u → Fits t kept.journal (moved kept.at k id) x j u) (sym next')
            (fits_set t kept.journal (moved kept.at k id) (k + 1) s.views id w
            (λ j u apart e.
            let f = kept.fits j u e in
            stays t kept.journal kept.at next (k + 1) j k id u (omega arith) (λ seen has. let lt : k < next = has.drawn in omega arith) f)
            (numbered_fits t kept.journal kept.at k id v same second empty (knows_new kept.journal next k is kept.drawn)));
      },
      subst (λ (b : Bool). MatchBool b (w ≡ numbered v k) (w ≡ v)) (sym (eq-eqb next k is)) refl,
    )

draws_miss : (t : Terms) (id k : ℕ) (v : View) (s : State (Unit {0}) View) → Kept t s → get_elem? s.views id ≡ some v
    → slice_index s.words next_word ≢ k → Drawn t id k v s (slice_index s.words next_word)
draws_miss t id k v s kept at not = (
  v,
  subst (λ (x : List ℕ × List View). Kept t record { words = x.0; homes = s.homes; views = x.1 })
      (λ i. (sym (set-get_or s.words next_word 0) i, sym (set_again s.views id v at) i)) kept,
  subst (λ (b : Bool). MatchBool b (v ≡ numbered v k) (v ≡ v)) (sym (ne_eqb (slice_index s.words next_word) k not)) refl,
)

pub draws : (t : Terms) (slots id k : ℕ) (v : View) → v.terms ≡ t → v.number ≡ None → v.joined ≡ None → v.seen ≡ []
    → Allows (Kept t) slots id (v, []) next_word (λ n. either (n == k) (k + 1) n) (Drew (step slots next_word k (k + 1) none) (v, []))
draws t slots id k v same first second empty s kept homes at bound =
    let r = exchanged (slice_index s.words next_word) k (k + 1) (Drawn t id k v s)
    (draws_hit t id k v s kept at same first second empty)
    (draws_miss t id k v s kept at) in
    (r.0, keeps, tt, r.1, (refl, r.2))

joined_fits : (t : Terms) (journal : List Entry) (at : ℕ → ℕ) (next id other m : ℕ) (v w : View) → v.terms ≡ w.terms → w.number ≡ Some m → other ≢ id
    → Fits t journal at next id v → Fits t journal at next other w → Fits t journal (moved at m id) next id (with_joined v w)
joined_fits t journal at next id other m v w terms_same first apart f g =
    let theirs = g.own m first in
    let here : (n : ℕ) → v.number ≡ Some n → n ≢ m = λ n h e. apart (sym theirs.here ∙ (ap at (sym e) ∙ (f.own n h).here)) in
    record {
      own = λ n h. held t journal at next next id m id v (with_joined v w) v.seen n refl (omega arith) (here n h) (f.own n h);
      joined = λ n h.
          let is : n ≡ m = cc in
          let k = g.own n h in
          record { terms = terms_same ∙ k.terms; here = moved_here at m id n is; drawn = k.drawn; begins = k.begins; knows = k.knows };
      apart = λ n h h'. here n h cc;
    }

pub joins : (t : Terms) (id other m : ℕ) (v w : View) → v.terms ≡ w.terms → w.number ≡ Some m → w.joined ≡ None
    → Joins (Kept t) id v other w (with_joined v w) spent
joins t id other m v w terms_same first alone s kept at apart there =
    let next = slice_index s.words next_word in
    let both = with_joined v w in
    let at' = moved kept.at m id in
    let f = kept.fits id v at in
    let g : Fits t kept.journal kept.at next other w = ⊎_elim (λ (x : (other ≡ id) × (both ≡ w)). absurd (apart x.0))
    (λ (x : (other ≢ id) × (get_elem? s.views other ≡ some w)). kept.fits other w x.1) (at_set s.views id other both w there) in
    let theirs = g.own m first in
    reseated kept at' (set (set s.views id both) other spent) (fits_set t kept.journal at' next (set s.views id both) other spent
    (λ j u far e. ⊎_elim
    (λ (x : (j ≡ id) × (both ≡ u)). subst (λ (y : ℕ × View). Fits t kept.journal at' next y.0 y.1) (λ i. (sym x.0 i, x.1 i))
    (joined_fits t kept.journal kept.at next id other m v w terms_same first apart f g))
    (λ (x : (j ≢ id) × (get_elem? s.views j ≡ some u)).
    stays t kept.journal kept.at next next j m id u (omega arith) (λ seen has. far (sym has.here ∙ theirs.here)) (kept.fits j u x.1))
    (at_set s.views id j both u e))
    (idle_fits t kept.journal at' next other spent refl refl))

pub parts : (t : Terms) (id m : ℕ) (v : View) → v.joined ≡ Some m → Splits (Kept t) id v (parted v) (given_back v)
parts t id m v second s kept at =
    let next = slice_index s.words next_word in
    let left = parted v in
    let right = given_back v in
    let new = length (set s.views id left) in
    let at' = moved kept.at m new in
    let f = kept.fits id v at in
    let mine = f.joined m second in
    let left_fits : Fits t kept.journal at' next id left = record {
      own = λ n h. held t kept.journal kept.at next next id m new v left v.seen n refl (omega arith)
          (λ (e : n ≡ m). f.apart n h (second ∙ ap Some (sym e))) (f.own n h);
      joined = λ n h. absurd (none_some n h);
      apart = λ n _ h. none_some n h;
    } in
    let right_fits : Fits t kept.journal at' next new right = record {
      own = λ n h.
          let k = f.joined n h in
          let is : n ≡ m = cc in
          record { terms = k.terms; here = moved_here kept.at m new n is; drawn = k.drawn; begins = k.begins; knows = k.knows };
      joined = λ n h. absurd (none_some n h);
      apart = λ n _ h. none_some n h;
    } in
    reseated kept at' (set s.views id left ++ right ∷ []) (λ j u e. ⊎_elim
    (λ (was : get_elem? (set s.views id left) j ≡ some u). fits_set t kept.journal at' next s.views id left
    (λ i y not there. stays t kept.journal kept.at next next i m new y (omega arith) (λ seen has. not (sym has.here ∙ mine.here)) (kept.fits i y there))
    left_fits j u was)
    (λ (x : (j ≡ new) × (right ≡ u)). subst (λ (y : ℕ × View). Fits t kept.journal at' next y.0 y.1) (λ i. (sym x.0 i, x.1 i)) right_fits)
    (at_end (set s.views id left) right u j e))

pub draws_as : (t : Terms) (slots id k : ℕ) (me : Me (Unit {0}) View) → me ≡ (blank t, [])
    → Allows (Kept t) slots id me next_word (λ n. either (n == k) (k + 1) n) (Drew (step slots next_word k (k + 1) none) me)
draws_as t slots id k me is =
    subst (λ (m : Me (Unit {0}) View). Allows (Kept t) slots id m next_word (λ n. either (n == k) (k + 1) n) (Drew (step slots next_word k (k + 1) none) m))
    (sym is)
    (draws t slots id k (blank t) refl refl refl refl)

pub joins_some : (t : Terms) (id other : ℕ) (v w : View) → v.terms ≡ w.terms → IsSome w.number → w.joined ≡ None
    → Joins (Kept t) id v other w (with_joined v w) spent
joins_some t id other v w same has alone = let m = some_of w.number has in joins t id other m.0 v w same m.1 alone

pub parts_some : (t : Terms) (id : ℕ) (v : View) → IsSome v.joined → Splits (Kept t) id v (parted v) (given_back v)
parts_some t id v has = let m = some_of v.joined has in parts t id m.0 v m.1
