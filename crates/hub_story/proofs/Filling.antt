-- How full a port is, step by step: what the first entries tell is what they would tell alone.
use Rattle.std.proofs.Common.{◌≡◌, ◌≤◌, ◌<◌, ◌+◌, ℕ, suc, Bool, true, false, List, [], ◌∷◌, ◌++◌, length, filter, take, drop, take-append-drop}
use Rattle.std.proofs.Common.{refl, ap, ◌∙◌, sym, arith, append_assoc, append-nil, length-append}
use Rattle.std.specs.Prelude.{nat_lt}
use Rattle.std.specs.List.{AllByRecursion, filter_map}
use Rattle.std.proofs.lemmas.List.{length-take-le, take_all}
use Rattle.std.proofs.lemmas.List.Elements.{filter-append}
use Rattle.hub_base.specs.declared.head.Head.{Head}
use Rattle.hub_base.specs.Entry.{Entry}
use Rattle.hub_base.specs.State.{State, opening}
use Rattle.hub_base.specs.Runs.{state_after, moves}
use Rattle.hub_base.specs.Values.{Turned, turns_after, sent_on, got_on}
use Rattle.hub_base.proofs.Lists.{all_append, all_more}
use Rattle.hub_laws.proofs.Rules.{state-sound}
use Rattle.hub_laws.proofs.Values.{sent-law, received-law}
use Rattle.hub_story.specs.declared.told.Told.{Told}
use Rattle.hub_story.specs.Told.{tells_it, told_from, told}
use Rattle.hub_story.specs.Passing.{sends, receives}
use Rattle.hub_story.specs.Levels.{told_by}
use Rattle.hub_story.specs.Laws.{LevelsLaw}
use Rattle.hub_story.proofs.InTime.{turn-by, counted}
use Rattle.hub_story.proofs.Tellings.{length-turns}

told_from-append : (before ts us : List Turned) → told_from before (ts ++ us) ≡ told_from before ts ++ told_from (before ++ ts) us
told_from-append before [] us = ap (λ b. told_from b us) (sym (append-nil before))
told_from-append before (t ∷ ts) us =
    ap (λ l. filter_map (tells_it before t) t.events ++ l) (told_from-append (before ++ t ∷ []) ts us)
    ∙ sym (append_assoc (filter_map (tells_it before t) t.events) (told_from (before ++ t ∷ []) ts) (told_from ((before ++ t ∷ []) ++ ts) us))
    ∙ ap (λ b. (filter_map (tells_it before t) t.events ++ told_from (before ++ t ∷ []) ts) ++ told_from b us) (append_assoc before (t ∷ []) ts)

-- what these turns tell came by them
told-within : (before ts : List Turned) → AllByRecursion (λ x. (length before ≤ x.by) × (x.by < length before + length ts)) (told_from before ts)
told-within before [] = tt
told-within before (t ∷ ts) =
    let new : List Told = filter_map (tells_it before t) t.events in
    let more : List Turned = before ++ t ∷ [] in
    all_append (λ x. (length before ≤ x.by) × (x.by < length before + suc (length ts))) new (told_from more ts)
    (all_more (λ x. x.by ≡ length before) (λ x. (length before ≤ x.by) × (x.by < length before + suc (length ts))) new
    (λ x b. (omega (arith, b), omega (arith, b))) (turn-by before t))
    (all_more (λ x. (length more ≤ x.by) × (x.by < length more + length ts)) (λ x. (length before ≤ x.by) × (x.by < length before + suc (length ts)))
    (told_from more ts) (λ x b. let n = length-append before (t ∷ []) in (omega (arith, b.0, n), omega (arith, b.1, n))) (told-within more ts))

filter-all : {A : Type 0} (p : A → Bool) (xs : List A) → AllByRecursion (λ x. p x ≡ true) xs → filter p xs ≡ xs
filter-all p [] all = refl
filter-all p (x ∷ xs) all = rw all.0 (ap (λ l. x ∷ l) (filter-all p xs all.1))

filter-out : {A : Type 0} (p : A → Bool) (xs : List A) → AllByRecursion (λ x. p x ≡ false) xs → filter p xs ≡ []
filter-out p [] all = refl
filter-out p (x ∷ xs) all = rw all.0 (filter-out p xs all.1)

turns-append : (s : State) (es fs : List Entry) → turns_after s (es ++ fs) ≡ turns_after s es ++ turns_after (state_after s es) fs
turns-append s [] fs = refl
turns-append s (e ∷ es) fs = ap (λ ts. record { entry = e; events = (moves s e).events } ∷ ts) (turns-append (moves s e).state es fs)

is-below : (a b : ℕ) → a < b → nat_lt a b ≡ true
is-below a b h = grind arith

is-not-below : (a b : ℕ) → b ≤ a → nat_lt a b ≡ false
is-not-below a b h = grind arith

-- entries that go on tell nothing by the first
told_by-append : (h : Head) (es fs : List Entry) → told_by (length es) (told h (es ++ fs)) ≡ told h es
told_by-append h es fs =
    let ts : List Turned = turns_after (opening h) es in
    let us : List Turned = turns_after (state_after (opening h) es) fs in
    let many = length-turns (opening h) es in
    ap (λ l. told_by (length es) (told_from [] l)) (turns-append (opening h) es fs) ∙ ap (told_by (length es)) (told_from-append [] ts us)
    ∙ filter-append (λ t. nat_lt t.by (length es)) (told_from [] ts) (told_from ts us)
    ∙ ap (λ l. l ++ filter (λ t. nat_lt t.by (length es)) (told_from ts us)) (filter-all (λ t. nat_lt t.by (length es)) (told_from [] ts)
    (all_more (λ x. (0 ≤ x.by) × (x.by < 0 + length ts)) (λ x. nat_lt x.by (length es) ≡ true) (told_from [] ts)
    (λ x b. is-below x.by (length es) (omega (arith, b.1, many))) (told-within [] ts)))
    ∙ ap (λ l. told_from [] ts ++ l) (filter-out (λ t. nat_lt t.by (length es)) (told_from ts us)
    (all_more (λ x. (length ts ≤ x.by) × (x.by < length ts + length us)) (λ x. nat_lt x.by (length es) ≡ false) (told_from ts us)
    (λ x b. is-not-below x.by (length es) (omega (arith, b.0, many))) (told-within ts us)))
    ∙ append-nil (told_from [] ts)

-- all that is told came by the entries
pub told_by-all : (h : Head) (es : List Entry) (k : ℕ) → length es ≤ k → told_by k (told h es) ≡ told h es
told_by-all h es k few =
    let ts : List Turned = turns_after (opening h) es in
    filter-all (λ t. nat_lt t.by k) (told_from [] ts)
    (all_more (λ x. (0 ≤ x.by) × (x.by < 0 + length ts)) (λ x. nat_lt x.by k ≡ true) (told_from [] ts)
    (λ x b. is-below x.by k (omega (arith, b.1, length-turns (opening h) es, few))) (told-within [] ts))

pub told_by-take : (h : Head) (es : List Entry) (k : ℕ) → told_by k (told h es) ≡ told h (take k es)
told_by-take h es k = by (nat_lt k (length es)) refl
  where
    by : (b : Bool) → b ≡ nat_lt k (length es) → told_by k (told h es) ≡ told h (take k es)
    by true is =
        let below : k < length es = grind arith in
        let many : length (take k es) ≡ k = length-take-le k es (omega (arith, below)) in
        ap (λ l. told_by k (told h l)) (sym (take-append-drop k es)) ∙ ap (λ n. told_by n (told h (take k es ++ drop k es))) (sym many)
        ∙ told_by-append h (take k es) (drop k es)
    by false is =
        let few : length es ≤ k = grind arith in
        told_by-all h es k few ∙ ap (told h) (sym (take_all k es few))

pub levels-law : (h : Head) (es : List Entry) → LevelsLaw h es
levels-law h es =
    record {
      sent = λ k p c is.
          ap (λ l. length (sends es l p)) (told_by-take h es k) ∙ ap (λ l. length (sends l (told h (take k es)) p)) (sym (take-append-drop k es))
          ∙ counted h (take k es) (drop k es) (sent_on p) (λ o. refl) ∙ ap length (sent-law h (take k es) p c is);
      received = λ k p c is.
          ap (λ l. length (receives es l p)) (told_by-take h es k) ∙ ap (λ l. length (receives l (told h (take k es)) p)) (sym (take-append-drop k es))
          ∙ counted h (take k es) (drop k es) (got_on p) (λ o. refl) ∙ ap length (received-law h (take k es) p c is)
          ∙ length-take-le c.received c.sent ((state-sound h (take k es)).ports p c is).received;
    }
