-- How entries ended, one event after the other; and that an event is told of no later entry than the one by whose step it
-- came.
use Rattle.std.proofs.Common.{◌≡◌, ◌<◌, ◌+◌, ◌==◌, ◌&&◌, ◌||◌, ℕ, suc, Bool, true, false, cond, not, List, [], ◌∷◌, ◌++◌, length, filter}
use Rattle.std.proofs.Common.{zero, ◌≤◌, replicate, refl, ap, ◌∙◌, sym, Option, Some, None, arith, get_or, take, add-one, is_some, length-append}
use Rattle.std.specs.Prelude.{slice_get, slice_index_or, slice_set}
use Rattle.std.specs.List.{AllByRecursion, filter_map, find}
use Rattle.std.specs.Option.{option_map, option_or}
use Rattle.std.proofs.Math.ListN.{length-set}
use Rattle.std.proofs.Math.Seq.{take-suc}
use Rattle.std.proofs.lemmas.Bool.{eqb-true, eqb-false}
use Rattle.std.proofs.lemmas.List.{get_or-set_same, get_or-set_other, length-replicate, take_all}
use Rattle.std.proofs.lemmas.List.Folds.{find-append}
use Rattle.std.proofs.lemmas.Option.{none-some, slice_get-get_or, same_Some}
use Rattle.hub_base.specs.declared.head.Head.{Head}
use Rattle.hub_base.specs.declared.value.Pid.{Pid}
use Rattle.hub_base.specs.Entry.{Entry, Step}
use Rattle.hub_base.specs.declared.entry.Step.TheVariants.{Make, Call, Close, Exit, Cancel, Start, Reopen}
use Rattle.hub_base.specs.declared.event.Event.{Event}
use Rattle.hub_base.specs.State.{opening}
use Rattle.hub_base.specs.Values.{Turned, turns_after, refused}
use Rattle.hub_base.proofs.Lists.{all_append, all_more}
use Rattle.hub_base.proofs.Growing.{filter-agrees}
use Rattle.hub_laws.specs.Replies.{is_parked}
use Rattle.hub_story.specs.declared.told.Told.{Told}
use Rattle.hub_story.specs.Told.{may_end, call_or, latest_asked, last_asked, tells_it, told_from, told, ends_it, end_of}
use Rattle.hub_story.specs.Waiting.{still_waiting}
use Rattle.hub_story.specs.Ends.{AreEnds, told_at, waits_by_place, with_end}
use Rattle.hub_story.proofs.InTime.{all-given, all-any}
use Rattle.hub_story.proofs.Tellings.{length-turns}

-- ---- ends
or-none : {A : Type 0} (o : Option A) → o ≡ option_or o None
or-none None = refl
or-none (Some x) = refl

-- those that are told by the first events
pub record PlacesSoFar (all : List Told) (i count : ℕ) (ends : List (Option ℕ)) : Type 0 where
  pub length : length ends ≡ count
  pub each : (place : ℕ) → place < count → told_at all (slice_index_or ends place None) ≡ end_of (take i all) place
  pub below : (place k : ℕ) → slice_index_or ends place None ≡ Some k → k < i

place-with : (all : List Told) (i : ℕ) (t : Told) (ends : List (Option ℕ)) (place : ℕ) → i < length all → slice_get all i ≡ Some t →
    ((k : ℕ) → slice_index_or ends place None ≡ Some k → k < i) → place < length ends →
    told_at all (slice_index_or (with_end ends i t) place None)
    ≡ option_or (told_at all (slice_index_or ends place None)) (find (ends_it place) (t ∷ []))
place-with all i t ends place low at old below =
    by (t.asked == place) (is_parked t.event.what) (slice_index_or ends t.asked None) refl refl
  where
    by : (own parked : Bool) (o : Option ℕ) → own ≡ (t.asked == place) → o ≡ slice_index_or ends t.asked None →
        told_at all (slice_index_or (cond (parked || is_some o) ends (slice_set ends t.asked (Some i))) place None)
        ≡ option_or (told_at all (slice_index_or ends place None)) (cond (own && not parked) (Some t) None)
    by false true o own is = or-none (told_at all (slice_index_or ends place None))
    by false false (Some k) own is = or-none (told_at all (slice_index_or ends place None))
    by false false None own is =
        ap (told_at all) (get_or-set_other ends t.asked place (Some i) None (λ e. eqb-false t.asked place (sym own) (sym e)))
        ∙ or-none (told_at all (slice_index_or ends place None))
    by true true o own is = or-none (told_at all (slice_index_or ends place None))
    by true false (Some k) own is =
        let same : t.asked ≡ place = eqb-true t.asked place (sym own) in
        let here : slice_index_or ends place None ≡ Some k = ap (λ p. slice_index_or ends p None) (sym same) ∙ sym is in
        let few : k < length all = let b = old k here in omega arith in
        let told : slice_get all k ≡ Some (get_or all k t) = slice_get-get_or all k t few in
        ap (told_at all) here ∙ told ∙ ap (λ o. option_or o (Some t)) (sym told) ∙ ap (λ o. option_or (told_at all o) (Some t)) (sym here)
    by true false None own is =
        let same : t.asked ≡ place = eqb-true t.asked place (sym own) in
        let here : slice_index_or ends place None ≡ None = ap (λ p. slice_index_or ends p None) (sym same) ∙ sym is in
        ap (told_at all)
        (ap (λ p. slice_index_or (slice_set ends p (Some i)) place None) same ∙ get_or-set_same ends place (Some i) None below)
        ∙ at ∙ ap (λ o. option_or (told_at all o) (Some t)) (sym here)

set-below : (i : ℕ) (ends : List (Option ℕ)) (a : ℕ) → ((place k : ℕ) → slice_index_or ends place None ≡ Some k → k < i + 1) →
    (place k : ℕ) → slice_index_or (slice_set ends a (Some i)) place None ≡ Some k → k < i + 1
set-below i [] a old place k is = old place k is
set-below i (x ∷ ends) zero old zero k is = let same : i ≡ k = same_Some _ _ is in omega arith
set-below i (x ∷ ends) zero old (suc place) k is = old (suc place) k is
set-below i (x ∷ ends) (suc a) old zero k is = old zero k is
set-below i (x ∷ ends) (suc a) old (suc place) k is = set-below i ends a (λ p j h. old (suc p) j h) place k is

below-with : (i : ℕ) (ends : List (Option ℕ)) (t : Told) → ((place k : ℕ) → slice_index_or ends place None ≡ Some k → k < i) →
    (place k : ℕ) → slice_index_or (with_end ends i t) place None ≡ Some k → k < i + 1
below-with i ends t old = by (is_parked t.event.what || is_some (slice_index_or ends t.asked None))
  where
    more : (place k : ℕ) → slice_index_or ends place None ≡ Some k → k < i + 1
    more place k h = let b = old place k h in omega arith

    by : (b : Bool) (place k : ℕ) → slice_index_or (cond b ends (slice_set ends t.asked (Some i))) place None ≡ Some k → k < i + 1
    by true place k h = more place k h
    by false place k h = set-below i ends t.asked more place k h

length-with_place : (i : ℕ) (ends : List (Option ℕ)) (t : Told) → length (with_end ends i t) ≡ length ends
length-with_place i ends t = by (is_parked t.event.what || is_some (slice_index_or ends t.asked None))
  where
    by : (b : Bool) → length (cond b ends (slice_set ends t.asked (Some i))) ≡ length ends
    by true = refl
    by false = length-set ends t.asked (Some i)

none-ended : (n place : ℕ) → slice_index_or {A = Option ℕ} (replicate n None) place None ≡ None
none-ended zero place = refl
none-ended (suc n) zero = refl
none-ended (suc n) (suc place) = none-ended n place

pub places-none : (all : List Told) (count : ℕ) (ends : List (Option ℕ)) → ends ≡ replicate count None → PlacesSoFar all 0 count ends
places-none all count ends is = rw is (record {
  length = length-replicate count None;
  each = λ place few. ap (told_at all) (none-ended count place);
  below = λ place k h. absurd (none-some k (sym (none-ended count place) ∙ h));
})

pub places-next : (all : List Told) (i : ℕ) (d : Told) (count : ℕ) (ends new : List (Option ℕ)) → i < length all → PlacesSoFar all i count ends →
    new ≡ with_end ends i (get_or all i d) → PlacesSoFar all (i + 1) count new
places-next all i d count ends new low so made =
    let t : Told = get_or all i d in
    let grown : take (i + 1) all ≡ take i all ++ t ∷ [] = rw add-one (take-suc all i d low) in
    rw made (record {
      length = length-with_place i ends t ∙ so.length;
      each = λ place few.
          place-with all i t ends place low (slice_get-get_or all i d low) (so.below place) (omega (arith, so.length))
          ∙ ap (λ o. option_or o (find (ends_it place) (t ∷ []))) (so.each place few)
          ∙ sym (find-append (ends_it place) (take i all) (t ∷ [])) ∙ ap (λ ts. end_of ts place) (sym grown);
      below = below-with i ends t so.below;
    })

pub all-places : (all : List Told) (i count : ℕ) (ends : List (Option ℕ)) → length all ≤ i → i ≤ length all → PlacesSoFar all i count ends →
    AreEnds all count ends
all-places all i count ends done past so =
    record {
      length = so.length;
      each = λ place few. so.each place few ∙ ap (λ ts. end_of ts place) (take_all i all done);
      within = λ place k h. let b = so.below place k h in omega arith;
    }

-- ---- places
step-below : (step : Step) (place k : ℕ) (before : Option ℕ) → ((a : ℕ) → before ≡ Some a → a < k) → place < k →
    (a : ℕ) → call_or step (Some place) before ≡ Some a → a < k
step-below (Call cases default word) place k before old here a is = let same : place ≡ a = same_Some _ _ is in omega arith
step-below (Make cap) place k before old here a is = old a is
step-below (Close p) place k before old here a is = old a is
step-below Exit place k before old here a is = old a is
step-below (Cancel q) place k before old here a is = old a is
step-below (Start q) place k before old here a is = old a is
step-below (Reopen p cap) place k before old here a is = old a is

latest-below : (pid : Pid) (place : ℕ) (before : Option ℕ) (t : Turned) → ((a : ℕ) → before ≡ Some a → a < place + 1) →
    (a : ℕ) → latest_asked pid place before t ≡ Some a → a < place + 1
latest-below pid place before t old = by (t.entry.pid.0 == pid.0) (refused t.events)
  where
    by : (own bad : Bool) (a : ℕ) → cond own (cond bad before (call_or t.entry.step (Some place) before)) before ≡ Some a → a < place + 1
    by false bad a is = old a is
    by true true a is = old a is
    by true false a is = step-below t.entry.step place (place + 1) before old (omega arith) a is

last-below : (pid : Pid) (place : ℕ) (before : Option ℕ) (ts : List Turned) → ((a : ℕ) → before ≡ Some a → a < place) →
    (a : ℕ) → last_asked pid place before ts ≡ Some a → a < place + length ts
last-below pid place before [] old a is = let b = old a is in omega (arith, b)
last-below pid place before (t ∷ ts) old a is =
    let later = last-below pid (place + 1) (latest_asked pid place before t) ts
    (latest-below pid place before t (λ b h. let c = old b h in omega (arith, c))) a is in
    omega (arith, later)

-- an event is told of no later entry than the one by whose step it came
pub tells-below : (before : List Turned) (t : Turned) (e : Event) (x : Told) → tells_it before t e ≡ Some x → x.asked < length before + 1
tells-below before t e x = by (may_end e.what)
  where
    tell : ℕ → Told
    tell a = record { asked = a; by = length before; event = e }

    inside : (o : Option ℕ) → ((a : ℕ) → o ≡ Some a → a < length before + 1) → option_map tell o ≡ Some x → x.asked < length before + 1
    inside None below h = absurd cc
    inside (Some a) below h =
        let same : a ≡ x.asked = ap (λ (y : Told). y.asked) (same_Some _ _ h) in
        let b = below a refl in
        omega (arith, same, b)

    by : (b : Bool) → option_map tell (cond b (last_asked e.pid 0 None (before ++ t ∷ [])) (Some (length before))) ≡ Some x → x.asked < length before + 1
    by true h = inside (last_asked e.pid 0 None (before ++ t ∷ [])) (λ a is.
        let b = last-below e.pid 0 None (before ++ t ∷ []) (λ a h. absurd cc) a is in
        omega (arith, b, length-append before (t ∷ []))) h
    by false h = inside (Some (length before)) (λ a is. let same : length before ≡ a = same_Some _ _ is in omega (arith, same)) h

asked-below : (before ts : List Turned) → AllByRecursion (λ x. x.asked < length before + length ts) (told_from before ts)
asked-below before [] = tt
asked-below before (t ∷ ts) =
    let new : List Told = filter_map (tells_it before t) t.events in
    let more : List Turned = before ++ t ∷ [] in
    all_append (λ x. x.asked < length before + suc (length ts)) new (told_from more ts)
    (all-given (λ e. ℕ) (λ x. x.asked < length before + suc (length ts)) (tells_it before t)
    (λ e x h any. let b = tells-below before t e x h in omega (arith, b)) t.events (all-any (λ e. ℕ) (λ e. 0) t.events))
    (all_more (λ x. x.asked < length more + length ts) (λ x. x.asked < length before + suc (length ts)) (told_from more ts)
    (λ x b. omega (arith, b, length-append before (t ∷ []))) (asked-below more ts))

pub places-below : (h : Head) (es : List Entry) → AllByRecursion (λ x. x.asked < length es) (told h es)
places-below h es =
    all_more (λ x. x.asked < 0 + length (turns_after (opening h) es)) (λ x. x.asked < length es) (told h es)
    (λ x b. omega (arith, b, length-turns (opening h) es)) (asked-below [] (turns_after (opening h) es))

-- ---- who waits
told-there : (all : List Told) (o : Option ℕ) → ((k : ℕ) → o ≡ Some k → k < length all) → is_some o ≡ is_some (told_at all o)
told-there all None within = refl
told-there all (Some k) within = by all k (within k refl)
  where
    by : (ts : List Told) (k : ℕ) → k < length ts → true ≡ is_some (slice_get ts k)
    by [] k few = absurd (omega arith)
    by (t ∷ ts) zero few = refl
    by (t ∷ ts) (suc k) few = by ts k (omega arith)

pub waits-still : (all : List Told) (count : ℕ) (ends : List (Option ℕ)) → AreEnds all count ends → AllByRecursion (λ t. t.asked < count) all →
    filter (waits_by_place ends) all ≡ still_waiting all
waits-still all count ends are below =
    filter-agrees (λ t. t.asked < count) (waits_by_place ends) (λ t. is_parked t.event.what && not (is_some (end_of all t.asked)))
    (λ t few. ap (λ b. is_parked t.event.what && not b)
    (told-there all (slice_index_or ends t.asked None) (are.within t.asked) ∙ ap is_some (are.each t.asked few))) all below
