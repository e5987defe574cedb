-- Waits that stand longest first, one by one.
use Rattle.std.proofs.Common.{◌≡◌, ◌≤◌, ◌<◌, ◌+◌, ℕ, zero, suc, Bool, true, false, List, [], ◌∷◌, ◌++◌, length, take, drop}
use Rattle.std.proofs.Common.{refl, ap, ◌∙◌, sym, arith, inl, inr, append_assoc, length-append, append-nil, add-one, get_or}
use Rattle.std.specs.Prelude.{Option, None, Some, ◌⊎◌, cond, count_by, nat_lt, insert, slice_get}
use Rattle.std.specs.Int.{from_bool}
use Rattle.std.specs.List.{cons_option, fold}
use Rattle.std.specs.Option.{option_map_or}
use Rattle.std.proofs.Math.Seq.{drop-cons}
use Rattle.std.proofs.lemmas.Bool.{lt-ltb}
use Rattle.std.proofs.lemmas.List.{drop_all, take_more}
use Rattle.std.proofs.lemmas.List.Sums.{count_by_more_no, count_by_more_yes, fold-append}
use Rattle.std.proofs.lemmas.Option.{get_or_from_slice_get, slice_get_cases}
use Rattle.hub_base.specs.declared.value.Pid.{Pid}
use Rattle.hub_base.specs.Entry.{Entry}
use Rattle.hub_story.specs.declared.told.Told.{Told}
use Rattle.hub_story_text.specs.declared.waits.TheConstants.{MOST_LONGEST}
use Rattle.hub_story_text.specs.declared.waits.Wait.{Wait}
use Rattle.hub_story_text.specs.declared.waits.Waits.{Waits}
use Rattle.hub_story_text.specs.Waits.{AreWaits, longest, told_wait, waits_below, with_wait}
use Rattle.hub_story_text.proofs.Levels.{not-below}

-- ---- where a wait comes
pub rank-next : (xs : List Wait) (i : ℕ) (d w : Wait) → i < length xs → w.steps ≤ (get_or xs i d).steps →
    with_wait w xs ≡ take i xs ++ with_wait w (drop i xs) → with_wait w xs ≡ take (i + 1) xs ++ with_wait w (drop (i + 1) xs)
rank-next xs i d w below behind so =
    let x = get_or xs i d in
    so ∙ ap (λ l. take i xs ++ with_wait w l) (drop-cons xs i d below)
    ∙ ap (λ b. take i xs ++ cond b (w ∷ x ∷ drop (suc i) xs) (x ∷ with_wait w (drop (suc i) xs))) (not-below x.steps w.steps behind)
    ∙ sym (append_assoc (take i xs) (x ∷ []) (with_wait w (drop (suc i) xs)))
    ∙ ap (λ l. l ++ with_wait w (drop (suc i) xs)) (sym (take_more xs i d below))
    ∙ ap (λ k. take (i + 1) xs ++ with_wait w (drop k xs)) (sym (add-one i))

pub rank-here : (xs : List Wait) (i : ℕ) (d w : Wait) → i < length xs → (get_or xs i d).steps < w.steps →
    with_wait w xs ≡ take i xs ++ with_wait w (drop i xs) → with_wait w xs ≡ insert xs i w
rank-here xs i d w below before so =
    let x = get_or xs i d in
    let first = drop-cons xs i d below in
    so ∙ ap (λ l. take i xs ++ with_wait w l) first
    ∙ ap (λ b. take i xs ++ cond b (w ∷ x ∷ drop (suc i) xs) (x ∷ with_wait w (drop (suc i) xs))) (lt-ltb x.steps w.steps before)
    ∙ ap (λ l. take i xs ++ w ∷ l) (sym first)

pub rank-last : (xs : List Wait) (i : ℕ) (w : Wait) → i ≡ length xs →
    with_wait w xs ≡ take i xs ++ with_wait w (drop i xs) → with_wait w xs ≡ insert xs (length xs) w
rank-last xs i w at so =
    let none = drop_all i xs (omega (arith, at)) in
    so ∙ ap (λ l. take i xs ++ with_wait w l) none ∙ ap (λ l. take i xs ++ w ∷ l) (sym none) ∙ ap (λ k. insert xs k w) at

-- ---- the first few are ranked by the first few
take-less : {A : Type 0} (k : ℕ) (xs : List A) → take k (take (suc k) xs) ≡ take k xs
take-less zero xs = refl
take-less (suc k) [] = refl
take-less (suc k) (x ∷ xs) = ap (λ l. x ∷ l) (take-less k xs)

cut-first : {A : Type 0} (k : ℕ) (x : A) (xs : List A) → take k (x ∷ take k xs) ≡ take k (x ∷ xs)
cut-first zero x xs = refl
cut-first (suc k) x xs = ap (λ l. x ∷ l) (take-less k xs)

few-enough : (k : ℕ) (w : Wait) (xs : List Wait) → take k (with_wait w (take k xs)) ≡ take k (with_wait w xs)
few-enough zero w xs = refl
few-enough (suc k) w [] = refl
few-enough (suc k) w (x ∷ xs) = by (nat_lt x.steps w.steps) (few-enough k w xs)
  where
    by : (b : Bool) → take k (with_wait w (take k xs)) ≡ take k (with_wait w xs) →
        take (suc k) (cond b (w ∷ x ∷ take k xs) (x ∷ with_wait w (take k xs))) ≡ take (suc k) (cond b (w ∷ x ∷ xs) (x ∷ with_wait w xs))
    by true rest = ap (λ l. w ∷ l) (cut-first k x xs)
    by false rest = ap (λ l. x ∷ l) rest

pub longest-more : (ws : List Wait) (w : Wait) → take MOST_LONGEST (with_wait w (longest ws)) ≡ longest (ws ++ w ∷ [])
longest-more ws w =
    few-enough MOST_LONGEST w (fold (λ ranked w. with_wait w ranked) [] ws)
    ∙ ap (take MOST_LONGEST) (sym (fold-append (λ ranked w. with_wait w ranked) [] ws (w ∷ [])))

pub wait-more : (ws : List Wait) (w : Wait) (old new : Waits) → AreWaits ws old → new.count ≡ old.count + 1 →
    new.longest.items ≡ take MOST_LONGEST (with_wait w old.longest.items) → AreWaits (ws ++ w ∷ []) new
wait-more ws w old new so count ranked = record {
  count = omega (arith, count, so.count, length-append ws (w ∷ []));
  longest = ranked ∙ ap (λ l. take MOST_LONGEST (with_wait w l)) so.longest ∙ longest-more ws w;
}

pub no-wait-more : (ws : List Wait) (new : Waits) → AreWaits ws new → AreWaits (ws ++ []) new
no-wait-more ws new so = rw (append-nil ws) so

pub waits-next : (clock : Option Pid) (es : List Entry) (n : ℕ) (all : List Told) →
    waits_below clock es all (n + 1) ≡ waits_below clock es all n ++ cons_option (told_wait clock es all n) []
waits-next clock es n all = ap (waits_below clock es all) (add-one n)

-- ---- how many entries are such
count-next : {A : Type 0} (p : A → Bool) (xs : List A) (i : ℕ) (x : A) (b : Bool) (count : ℕ) → i < length xs → slice_get xs i ≡ Some x → b ≡ p x →
    count ≡ count_by p (take i xs) → count + from_bool b ≡ count_by p (take (i + 1) xs)
count-next p xs i x true count below at is so =
    let here : p (get_or xs i x) ≡ true = ap p (get_or_from_slice_get xs i x x at) ∙ sym is in
    omega (arith, so, count_by_more_yes p xs i x below here)
count-next p xs i x false count below at is so =
    let here : p (get_or xs i x) ≡ false = ap p (get_or_from_slice_get xs i x x at) ∙ sym is in
    omega (arith, so, count_by_more_no p xs i x below here)

-- so where no such entry is at hand
pub count-next-at : {A : Type 0} (p : A → Bool) (xs : List A) (i : ℕ) (b : Bool) (count : ℕ) → i < length xs →
    b ≡ option_map_or p (slice_get xs i) false → count ≡ count_by p (take i xs) → count + from_bool b ≡ count_by p (take (i + 1) xs)
count-next-at {A} p xs i b count below is so = at (slice_get_cases xs i).1
  where
    at : ((x : A) × (i < length xs) × (slice_get xs i ≡ Some x) × (get_or xs i x ≡ x)) ⊎ ((length xs ≤ i) × (slice_get xs i ≡ None)) →
        count + from_bool b ≡ count_by p (take (i + 1) xs)
    at (inl found) =
        count-next p xs i found.0 b count below found.2 (is ∙ ap (λ (o : Option A). option_map_or p o false) found.2) so
    at (inr past) = absurd (omega (arith, below, past.0))

pub one-at-most : (b : Bool) → from_bool b ≤ 1
one-at-most true = omega arith
one-at-most false = omega arith
