-- What is written of a step: its own line, and what it did to others.
use Rattle.std.proofs.Common.{◌≡◌, ◌<◌, ◌+◌, ℕ, Bool, true, false, cond, List, [], ◌∷◌, ◌++◌}
use Rattle.std.proofs.Common.{length, take, filter, refl, ap, ◌∙◌, sym, append-nil, get_or}
use Rattle.std.proofs.Common.{◌≢◌, ◌-◌, drop, length-append, arith}
use Rattle.std.specs.List.{flat_map}
use Rattle.std.proofs.Math.Seq.{take-append_seam}
use Rattle.std.proofs.lemmas.Grind.{flat_map-append}
use Rattle.std.proofs.lemmas.List.Elements.{filter_more}
use Rattle.hub_base.specs.declared.event.What.{What}
use Rattle.hub_base.specs.declared.event.What.TheVariants.{Made, Fired, Default, Done, Parked, Stalled, Fault, Cancelled}
use Rattle.hub_base.specs.declared.value.Port.{Port}
use Rattle.hub_base.specs.Entry.{Entry}
use Rattle.hub_base.proofs.Growing.{flat-next}
use Rattle.hub_story.specs.declared.told.Told.{Told}
use Rattle.hub_story.specs.Partners.{is_made}
use Rattle.hub_story_text.specs.declared.ends.Ending.{Ending}
use Rattle.hub_story_text.specs.declared.ends.Ending.TheVariants.{Frees, Cancels, TimesOut, Wakes, Stalls}
use Rattle.hub_story.specs.declared.last_moves.AtPort.{AtPort}
use Rattle.hub_story_text.specs.EndsText.{ending_word, ends_words, step_number, with_ended}
use Rattle.hub_story_text.specs.PortText.{made_line, port_line}
use Rattle.hub_story_text.specs.WaiterText.{left_words, waiter_words, waiters_words}

-- one more that was ended
step-more : (word : List ℕ) (ts : List Told) (t : Told) → word ++ (flat_map step_number ts ++ step_number t) ≡ word ++ flat_map step_number (ts ++ t ∷ [])
step-more word ts t =
    ap (λ bs. word ++ bs)
    (ap (λ bs. flat_map step_number ts ++ bs) (sym (append-nil (step_number t))) ∙ sym (flat_map-append step_number ts (t ∷ [])))

ended-more : (ending : Ending) (ts : List Told) (t : Told) → with_ended ending (ends_words ending ts) t ≡ ends_words ending (ts ++ t ∷ [])
ended-more ending [] t = ap (λ bs. ending_word ending ++ bs) (sym (append-nil (step_number t)))
ended-more Frees (x ∷ xs) t = step-more (ending_word Frees) (x ∷ xs) t
ended-more Cancels (x ∷ xs) t = step-more (ending_word Cancels) (x ∷ xs) t
ended-more TimesOut (x ∷ xs) t = step-more (ending_word TimesOut) (x ∷ xs) t
ended-more Wakes (x ∷ xs) t = step-more (ending_word Wakes) (x ∷ xs) t
ended-more Stalls (x ∷ xs) t = step-more (ending_word Stalls) (x ∷ xs) t

pub ends-one : (ending : Ending) (p : Told → Bool) (xs : List Told) (i : ℕ) (d : Told) (was now : List ℕ) → i < length xs → p (get_or xs i d) ≡ true →
    was ≡ ends_words ending (filter p (take i xs)) → now ≡ with_ended ending was (get_or xs i d) → now ≡ ends_words ending (filter p (take (i + 1) xs))
ends-one ending p xs i d was now below hit so is =
    is ∙ ap (λ bs. with_ended ending bs (get_or xs i d)) so ∙ ended-more ending (filter p (take i xs)) (get_or xs i d)
    ∙ ap (λ ts. ends_words ending (filter p (take i xs) ++ ts)) (sym (one p (get_or xs i d) hit)) ∙ ap (ends_words ending) (sym (filter_more p xs i d below))
  where
    one : (p : Told → Bool) (t : Told) → p t ≡ true → filter p (t ∷ []) ≡ t ∷ []
    one p t h = rw h refl

pub ends-none : (ending : Ending) (p : Told → Bool) (xs : List Told) (i : ℕ) (d : Told) (was : List ℕ) → i < length xs → p (get_or xs i d) ≡ false →
    was ≡ ends_words ending (filter p (take i xs)) → was ≡ ends_words ending (filter p (take (i + 1) xs))
ends-none ending p xs i d was below miss so =
    so ∙ ap (ends_words ending) (sym (append-nil (filter p (take i xs))) ∙ ap (λ ts. filter p (take i xs) ++ ts) (sym (none p (get_or xs i d) miss))
    ∙ sym (filter_more p xs i d below))
  where
    none : (p : Told → Bool) (t : Told) → p t ≡ false → filter p (t ∷ []) ≡ []
    none p t h = rw h refl

-- ---- a line without its newline
pub without-newline : (whole words : List ℕ) (n : ℕ) → n ≡ length whole → whole ≡ words ++ 10 ∷ [] → take (n - 1) whole ≡ words
without-newline whole words n len is =
    let less : n - 1 ≡ length words = omega (arith, len ∙ ap length is ∙ length-append words (10 ∷ [])) in
    ap (λ k. take k whole) less ∙ ap (take (length words)) is ∙ take-append_seam words (10 ∷ [])

-- there is somebody who waits
pub not-empty : (nobody heading : List ℕ) (es : List Entry) (known : Port → AtPort) (left ts : List Told) → ts ≢ [] →
    waiters_words nobody heading es known left ts ≡ heading ++ left_words left ++ flat_map (waiter_words es known) ts
not-empty nobody heading es known left [] other = absurd (other refl)
not-empty nobody heading es known left (t ∷ ts) other = refl

-- no port is told to be made
made-none : (es : List Entry) (all : List Told) (t : Told) (w : What) → ((p : Port) → w ≢ Made p) → made_line es all t w ≡ []
made-none es all t (Made p) other = absurd (other p refl)
made-none es all t (Fired i o) other = refl
made-none es all t Default other = refl
made-none es all t Done other = refl
made-none es all t Parked other = refl
made-none es all t Stalled other = refl
made-none es all t (Fault f) other = refl
made-none es all t Cancelled other = refl

-- the ports of these events so far, and the next
pub ports-made : (es : List Entry) (all xs : List Told) (i : ℕ) (d : Told) (p : Port) (was now text : List ℕ) → i < length xs →
    was ++ flat_map (λ t. made_line es all t t.event.what) (drop i xs) ≡ text → (get_or xs i d).event.what ≡ Made p →
    now ≡ was ++ port_line es all (get_or xs i d) p → now ++ flat_map (λ t. made_line es all t t.event.what) (drop (i + 1) xs) ≡ text
ports-made es all xs i d p was now text below so made is =
    flat-next (λ t. made_line es all t t.event.what) xs i d was now text below so
    (is ∙ ap (λ w. was ++ made_line es all (get_or xs i d) w) (sym made))

pub ports-not-made : (es : List Entry) (all xs : List Told) (i : ℕ) (d : Told) (was text : List ℕ) → i < length xs →
    was ++ flat_map (λ t. made_line es all t t.event.what) (drop i xs) ≡ text → ((p : Port) → (get_or xs i d).event.what ≢ Made p) →
    was ++ flat_map (λ t. made_line es all t t.event.what) (drop (i + 1) xs) ≡ text
ports-not-made es all xs i d was text below so other =
    flat-next (λ t. made_line es all t t.event.what) xs i d was was text below so
    (sym (append-nil was) ∙ ap (λ l. was ++ l) (sym (made-none es all (get_or xs i d) (get_or xs i d).event.what other)))

-- the other events have no line
not-made : (w : What) → is_made w ≡ false → (p : Port) → w ≢ Made p
not-made w none p is = absurd (let h : true ≡ false = ap is_made (sym is) ∙ none in cc)

pub ports-all : (es : List Entry) (all xs : List Told) →
    flat_map (λ t. made_line es all t t.event.what) (filter (λ t. is_made t.event.what) xs) ≡ flat_map (λ t. made_line es all t t.event.what) xs
ports-all es all [] = refl
ports-all es all (t ∷ ts) = by (is_made t.event.what) refl (ports-all es all ts)
  where
    line : Told → List ℕ
    line t = made_line es all t t.event.what

    by : (b : Bool) → is_made t.event.what ≡ b → flat_map line (filter (λ t. is_made t.event.what) ts) ≡ flat_map line ts →
        flat_map line (cond b (t ∷ filter (λ t. is_made t.event.what) ts) (filter (λ t. is_made t.event.what) ts)) ≡ line t ++ flat_map line ts
    by true is rest = ap (λ l. line t ++ l) rest
    by false is rest = rest ∙ ap (λ l. l ++ flat_map line ts) (sym (made-none es all t t.event.what (not-made t.event.what is)))
