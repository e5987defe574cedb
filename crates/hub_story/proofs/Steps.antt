-- What one step tells of the calls that wait: which of them it ends, and which it opens.
use Rattle.std.proofs.Common.{◌≡◌, ◌<◌, ◌+◌, ◌==◌, ◌&&◌, ◌||◌, ℕ, Bool, true, false, cond, not, List, [], ◌∷◌, ◌++◌, length, map, filter}
use Rattle.std.proofs.Common.{refl, ap, ◌∙◌, sym, subst, Option, Some, None, arith, is_some, inl, inr, ◌⊎◌}
use Rattle.std.specs.Prelude.{slice_get}
use Rattle.std.specs.List.{AllByRecursion, filter_map, cons_option, find, list_any}
use Rattle.std.specs.Option.{option_map, option_map_or, option_or}
use Rattle.std.proofs.lemmas.Bool.{eqb-true, eqb-false}
use Rattle.std.proofs.lemmas.List.Folds.{find-append}
use Rattle.std.proofs.lemmas.Option.{same_Some}
use Rattle.hub_base.specs.declared.value.Pid.{Pid}
use Rattle.hub_base.specs.Entry.{Entry, Step}
use Rattle.hub_base.specs.declared.entry.Step.TheVariants.{Make, Call, Close, Exit, Cancel, Start, Reopen}
use Rattle.hub_base.specs.declared.event.What.{What}
use Rattle.hub_base.specs.declared.event.What.TheVariants as what
use Rattle.hub_base.specs.declared.event.Event.{Event}
use Rattle.hub_base.specs.State.{State}
use Rattle.hub_base.specs.Steps.{Change, tells, turn, refusal}
use Rattle.hub_base.specs.Runs.{admits, moves}
use Rattle.hub_base.specs.Values.{Turned, refused, is_fault}
use Rattle.hub_base.proofs.Lists.{all_more}
use Rattle.hub_laws.specs.Answers.{ends_waiting, is_answer_to}
use Rattle.hub_laws.specs.Replies.{is_parked, is_told}
use Rattle.hub_laws.specs.Sound.{Apart, is_among, IsSound}
use Rattle.hub_laws.proofs.Account.{with_caller, call_of}
use Rattle.hub_laws.proofs.Calls.{apart_snoc}
use Rattle.hub_laws.proofs.Entries.{turn-account}
use Rattle.hub_laws.proofs.Leaving.{Ended, events_of, EndsWell, Leave, nobody}
use Rattle.hub_laws.proofs.Ready.{admitted, by-refusal}
use Rattle.hub_story.specs.declared.told.Told.{Told}
use Rattle.hub_story.specs.Told.{asked_by, may_end, call_or, latest_asked, last_asked, tells_it, ends_it, end_of}
use Rattle.hub_story.specs.Waiting.{still_waiting}
use Rattle.hub_story.proofs.InTime.{all-given}
use Rattle.hub_story.proofs.Stories.{Stand}
use Rattle.hub_story.proofs.Leavers.{filter-both}

-- ---- whose a call is
-- the entry at this place is of this process
abbrev pub IsOf : List Entry → Pid → ℕ → Type 0
IsOf es pid a = (e : Entry) × (slice_get es a ≡ Some e) × (e.pid.0 ≡ pid.0)

step-of : (es : List Entry) (pid : Pid) (place : ℕ) (step : Step) (before : Option ℕ) → IsOf es pid place → ((a : ℕ) → before ≡ Some a → IsOf es pid a) →
    (a : ℕ) → call_or step (Some place) before ≡ Some a → IsOf es pid a
step-of es pid place (Call cases default word) before own old a is = subst (IsOf es pid) (same_Some _ _ is) own
step-of es pid place (Make cap) before own old a is = old a is
step-of es pid place (Close p) before own old a is = old a is
step-of es pid place Exit before own old a is = old a is
step-of es pid place (Cancel q) before own old a is = old a is
step-of es pid place (Start q) before own old a is = old a is
step-of es pid place (Reopen p cap) before own old a is = old a is

latest-of : (es : List Entry) (pid : Pid) (place : ℕ) (before : Option ℕ) (t : Turned) → slice_get es place ≡ Some t.entry →
    ((a : ℕ) → before ≡ Some a → IsOf es pid a) → (a : ℕ) → latest_asked pid place before t ≡ Some a → IsOf es pid a
latest-of es pid place before t here old = by (t.entry.pid.0 == pid.0) (refused t.events) refl
  where
    by : (own bad : Bool) → own ≡ (t.entry.pid.0 == pid.0) → (a : ℕ) →
        cond own (cond bad before (call_or t.entry.step (Some place) before)) before ≡ Some a → IsOf es pid a
    by false bad own a is = old a is
    by true true own a is = old a is
    by true false own a is = step-of es pid place t.entry.step before (t.entry, here, eqb-true t.entry.pid.0 pid.0 (sym own)) old a is

last-of : (es : List Entry) (pid : Pid) (place : ℕ) (before : Option ℕ) (ts : List Turned) → Stand es place ts →
    ((a : ℕ) → before ≡ Some a → IsOf es pid a) → (a : ℕ) → last_asked pid place before ts ≡ Some a → IsOf es pid a
last-of es pid place before [] stand old a is = old a is
last-of es pid place before (t ∷ ts) stand old a is =
    last-of es pid (place + 1) (latest_asked pid place before t) ts stand.1 (latest-of es pid place before t stand.0 old) a is

-- two processes have no last call in common
pub last-apart : (es : List Entry) (p q : Pid) (ts : List Turned) (a : ℕ) → Stand es 0 ts → last_asked p 0 None ts ≡ Some a →
    last_asked q 0 None ts ≡ Some a → p.0 ≡ q.0
last-apart es p q ts a stand mine theirs =
    let m = last-of es p 0 None ts stand (λ a h. absurd cc) a mine in
    let t = last-of es q 0 None ts stand (λ a h. absurd cc) a theirs in
    let same : m.0 ≡ t.0 = same_Some _ _ (sym m.1 ∙ t.1) in
    sym m.2 ∙ ap (λ (e : Entry). e.pid.0) same ∙ t.2

-- ---- which events end a call
-- whether one of these events is told of the entry at this place, and ends it
any-found : {X Y : Type 0} (p : Y → Bool) (f : X → Option Y) (xs : List X) →
    is_some (find p (filter_map f xs)) ≡ list_any (λ x. option_map_or p (f x) false) xs
any-found p f [] = refl
any-found {Y = Y} p f (x ∷ xs) = by (f x) (any-found p f xs)
  where
    by : (o : Option Y) → is_some (find p (filter_map f xs)) ≡ list_any (λ x. option_map_or p (f x) false) xs →
        is_some (find p (cons_option o (filter_map f xs))) ≡ (option_map_or p o false || list_any (λ x. option_map_or p (f x) false) xs)
    by None rest = rest
    by (Some y) rest = here (p y)
      where
        here : (b : Bool) → is_some (cond b (Some y) (find p (filter_map f xs))) ≡ (b || list_any (λ x. option_map_or p (f x) false) xs)
        here true = refl
        here false = rest

-- an answer with what it ends, whatever the step
pub record Stepped (s : State) (e : Entry) (c : Change) : Type 0 where
  pub answer : What
  pub ended : List Ended
  pub told : c.events ≡ tells e.pid answer ∷ events_of ended
  pub ends : AllByRecursion EndsWell ended
  pub apart : Apart (with_caller s.parked e.pid e.step answer)
  pub leaves : Leave ended (with_caller s.parked e.pid e.step answer) c.state.parked
  -- a call waits, or a case of it fires
  pub called : is_parked answer ≡ true ⊎ may_end answer ≡ true → (is_fault answer ≡ false) × ((now before : Option ℕ) → call_or e.step now before ≡ now)
  -- the entry was refused, or is of a process that does not wait
  pub other : is_fault answer ≡ true ⊎ is_among e.pid.0 s.parked ≡ false

calls-only : (step : Step) (w : What) → is_answer_to step w ≡ true → is_parked w ≡ true ⊎ may_end w ≡ true →
    (is_fault w ≡ false) × ((now before : Option ℕ) → call_or step now before ≡ now)
calls-only (Call cases default word) (what.Fault f) fits (inl h) = absurd cc
calls-only (Call cases default word) (what.Fault f) fits (inr h) = absurd cc
calls-only (Call cases default word) (what.Fired i o) fits h = (refl, λ now before. refl)
calls-only (Call cases default word) what.Default fits h = (refl, λ now before. refl)
calls-only (Call cases default word) what.Parked fits h = (refl, λ now before. refl)
calls-only step (what.Fault f) fits (inl h) = absurd cc
calls-only step (what.Fault f) fits (inr h) = absurd cc
calls-only step (what.Made p) fits (inl h) = absurd cc
calls-only step (what.Made p) fits (inr h) = absurd cc
calls-only step what.Default fits (inl h) = absurd cc
calls-only step what.Default fits (inr h) = absurd cc
calls-only step what.Done fits (inl h) = absurd cc
calls-only step what.Done fits (inr h) = absurd cc
calls-only step (what.Fired i o) fits h = absurd cc
calls-only step what.Parked fits h = absurd cc
calls-only step what.Stalled fits h = absurd cc
calls-only step what.Cancelled fits h = absurd cc

stepped-turn : (s : State) (e : Entry) → IsSound s → refusal s e.pid ≡ None → Stepped s e (turn s e)
stepped-turn s e sound is =
    let a = turn-account s e in
    let free = (admitted s e.pid is).free in
    record {
      answer = a.answer;
      ended = a.ended;
      told = a.told;
      ends = a.ends;
      apart = callers (is_parked a.answer) free;
      leaves = a.leaves sound.apart;
      called = calls-only e.step a.answer a.fits;
      other = inr free;
    }
  where
    callers : (b : Bool) → is_among e.pid.0 s.parked ≡ false → Apart (cond b (s.parked ++ call_of e.pid e.step ∷ []) s.parked)
    callers true free = apart_snoc s.parked (call_of e.pid e.step) sound.apart free
    callers false free = sound.apart

pub stepped : (s : State) (e : Entry) → IsSound s → Stepped s e (moves s e)
stepped s e sound =
    by-refusal (λ o. Stepped s e (admits s e o)) s e.pid (stepped-turn s e sound) (λ f is. record {
      answer = what.Fault f;
      ended = [];
      told = refl;
      ends = tt;
      apart = sound.apart;
      leaves = nobody s.parked;
      called = λ h. absurd (elim h [ inl a ↦ cc | inr b ↦ cc ]);
      other = inl refl;
    })

-- ---- lists
pub filter-same : {A : Type 0} (p q : A → Bool) → ((x : A) → p x ≡ q x) → (xs : List A) → filter p xs ≡ filter q xs
filter-same p q same [] = refl
filter-same p q same (x ∷ xs) =
    ap (λ b. cond b (x ∷ filter p xs) (filter p xs)) (same x) ∙ ap (λ l. cond (q x) (x ∷ l) l) (filter-same p q same xs)

pub filter-none : {A : Type 0} (p : A → Bool) (xs : List A) → AllByRecursion (λ x. p x ≡ false) xs → filter p xs ≡ []
filter-none p [] all = refl
filter-none p (x ∷ xs) all = rw all.0 (filter-none p xs all.1)

pub map-filter : {A B : Type 0} (f : A → B) (q : B → Bool) (xs : List A) → map f (filter (λ x. q (f x)) xs) ≡ filter q (map f xs)
map-filter f q [] = refl
map-filter {A = A} f q (x ∷ xs) = by (q (f x)) (map-filter f q xs)
  where
    by : (b : Bool) → map f (filter (λ x. q (f x)) xs) ≡ filter q (map f xs) →
        map f (cond b (x ∷ filter (λ x. q (f x)) xs) (filter (λ x. q (f x)) xs)) ≡ cond b (f x ∷ filter q (map f xs)) (filter q (map f xs))
    by true rest = ap (λ l. f x ∷ l) rest
    by false rest = rest

pub find-none : {A : Type 0} (p : A → Bool) (xs : List A) → AllByRecursion (λ x. p x ≡ false) xs → find p xs ≡ None
find-none p [] all = refl
find-none p (x ∷ xs) all = rw all.0 (find-none p xs all.1)

-- ---- what a step tells
-- it ends the call that is told of
abbrev pub ended_by : List Told → Told → Bool
ended_by new w = is_some (end_of new w.asked)

-- the caller's call, where it waits
abbrev pub opens : ℕ → Entry → What → List Told
opens place e answer = cond (is_parked answer) (record { asked = place; by = place; event = tells e.pid answer } ∷ []) []

pub ends-may : (w : What) → ends_waiting w ≡ true → (may_end w ≡ true) × (is_parked w ≡ false)
ends-may w h = grind arith

pub events-end : (xs : List Ended) → AllByRecursion EndsWell xs → AllByRecursion (λ x. ends_waiting x.what ≡ true) (events_of xs)
events-end [] all = tt
events-end (x ∷ xs) all = (all.0.0, events-end xs all.1)

tells-event : (ts : List Turned) (t : Turned) (x : Event) (y : Told) → tells_it ts t x ≡ Some y → y.event ≡ x
tells-event ts t x y = by (asked_by ts t x)
  where
    by : (o : Option ℕ) → option_map (λ a. record { asked = a; by = length ts; event = x }) o ≡ Some y → y.event ≡ x
    by None h = absurd cc
    by (Some a) h = ap (λ (y : Told). y.event) (sym (same_Some _ _ h))

-- where an entry is found for each event, each is told
pub told-whole : (ts : List Turned) (t : Turned) (xs : List Event) → AllByRecursion (λ x. (a : ℕ) × (asked_by ts t x ≡ Some a)) xs →
    map (λ (y : Told). y.event) (filter_map (tells_it ts t) xs) ≡ xs
told-whole ts t [] all = refl
told-whole ts t (x ∷ xs) all =
    ap (λ o. map (λ (y : Told). y.event)
    (cons_option (option_map (λ a. record { asked = a; by = length ts; event = x }) o) (filter_map (tells_it ts t) xs))) all.0.1
    ∙ ap (λ l. x ∷ l) (told-whole ts t xs all.1)

-- what is told of events that do not park is not of a parked call
quiet : (ts : List Turned) (t : Turned) (xs : List Event) → AllByRecursion (λ x. is_parked x.what ≡ false) xs →
    AllByRecursion (λ y. is_parked y.event.what ≡ false) (filter_map (tells_it ts t) xs)
quiet ts t xs all =
    all-given (λ x. is_parked x.what ≡ false) (λ y. is_parked y.event.what ≡ false) (tells_it ts t)
    (λ x y h p. ap (λ (z : Event). is_parked z.what) (tells-event ts t x y h) ∙ p) xs all

parked-what : (w : What) → is_parked w ≡ true → w ≡ what.Parked
parked-what what.Parked h = refl
parked-what w h = absurd cc

or-some : {A : Type 0} (x y : Option A) → is_some (option_or x y) ≡ (is_some x || is_some y)
or-some None y = refl
or-some (Some a) y = refl

-- those that waited and are not ended still wait
pub old-waits : (all new : List Told) →
    filter (λ t. is_parked t.event.what && not (is_some (end_of (all ++ new) t.asked))) all ≡ filter (λ t. not (ended_by new t)) (still_waiting all)
old-waits all new =
    filter-same (λ t. is_parked t.event.what && not (is_some (end_of (all ++ new) t.asked)))
    (λ t. (is_parked t.event.what && not (is_some (end_of all t.asked))) && not (ended_by new t))
    (λ t. ap (λ o. is_parked t.event.what && not (is_some o)) (find-append (ends_it t.asked) all new)
    ∙ ap (λ b. is_parked t.event.what && not b) (or-some (end_of all t.asked) (end_of new t.asked))
    ∙ both (is_parked t.event.what) (is_some (end_of all t.asked)) (is_some (end_of new t.asked))) all
    ∙ sym (filter-both (λ t. not (ended_by new t)) (λ t. is_parked t.event.what && not (is_some (end_of all t.asked))) all)
  where
    both : (a b c : Bool) → (a && not (b || c)) ≡ ((a && not b) && not c)
    both true true c = refl
    both true false c = refl
    both false b c = refl

-- and a call that was parked just now, unless it is ended with the same step
pub new-waits : (all : List Told) (ts : List Turned) (e : Entry) (answer : What) (ended : List Ended) →
    AllByRecursion (λ t. t.asked < length ts) all → AllByRecursion EndsWell ended →
    let events : List Event = tells e.pid answer ∷ events_of ended in
    let new : List Told = filter_map (tells_it ts (record { entry = e; events = events })) events in
    filter (λ t. is_parked t.event.what && not (is_some (end_of (all ++ new) t.asked))) new ≡ filter (λ t. not (ended_by new t)) (opens (length ts) e answer)
new-waits all ts e answer ended below ends = by (is_parked answer) refl
  where
    events : List Event
    events = tells e.pid answer ∷ events_of ended

    t : Turned
    t = record { entry = e; events = events }

    rest : List Told
    rest = filter_map (tells_it ts t) (events_of ended)

    silent : AllByRecursion (λ x. is_parked x.what ≡ false) (events_of ended)
    silent =
        all_more (λ x. ends_waiting x.what ≡ true) (λ x. is_parked x.what ≡ false) (events_of ended)
        (λ x h. (ends-may x.what h).1) (events-end ended ends)

    none : (new ys : List Told) → AllByRecursion (λ y. is_parked y.event.what ≡ false) ys →
        filter (λ t. is_parked t.event.what && not (is_some (end_of (all ++ new) t.asked))) ys ≡ []
    none new ys all' =
        filter-none (λ t. is_parked t.event.what && not (is_some (end_of (all ++ new) t.asked))) ys
        (all_more (λ y. is_parked y.event.what ≡ false) (λ y. (is_parked y.event.what && not (is_some (end_of (all ++ new) y.asked))) ≡ false) ys
        (λ y h. rw h refl) all')

    unended : (new : List Told) → end_of (all ++ new) (length ts) ≡ end_of new (length ts)
    unended new =
        find-append (ends_it (length ts)) all new
        ∙ ap (λ o. option_or o (end_of new (length ts))) (find-none (ends_it (length ts)) all
        (all_more (λ t. t.asked < length ts) (λ t. ends_it (length ts) t ≡ false) all
        (λ t h. apart t.asked (length ts) (not (is_parked t.event.what)) h) below))
      where
        apart : (a b : ℕ) (c : Bool) → a < b → ((a == b) && c) ≡ false
        apart a b c h = grind arith

    parks : (w : What) → w ≡ what.Parked → let now : List Event = tells e.pid w ∷ events_of ended in
        let new : List Told = cons_option (tells_it ts t (tells e.pid w)) rest in
        filter (λ t. is_parked t.event.what && not (is_some (end_of (all ++ new) t.asked))) new
        ≡ filter (λ t. not (ended_by new t)) (record { asked = length ts; by = length ts; event = tells e.pid w } ∷ [])
    parks w is =
        rw is (
        let a : Told = record { asked = length ts; by = length ts; event = tells e.pid what.Parked } in
        let new : List Told = a ∷ rest in
        let kept : List Told = filter (λ t. is_parked t.event.what && not (is_some (end_of (all ++ new) t.asked))) rest in
        ap (λ o. cond (not (is_some o)) (a ∷ kept) kept) (unended new)
        ∙ ap (λ l. cond (not (is_some (end_of new (length ts)))) (a ∷ l) l) (none new rest (quiet ts t (events_of ended) silent))
        )

    by : (b : Bool) → b ≡ is_parked answer → let new : List Told = filter_map (tells_it ts t) events in
        filter (λ t. is_parked t.event.what && not (is_some (end_of (all ++ new) t.asked))) new
        ≡ filter (λ t. not (ended_by new t)) (cond b (record { asked = length ts; by = length ts; event = tells e.pid answer } ∷ []) [])
    by true is = parks answer (parked-what answer (sym is))
    by false is = none (filter_map (tells_it ts t) events) (filter_map (tells_it ts t) events) (quiet ts t events (sym is, silent))

-- ---- one step
module _ (all : List Entry) (ts : List Turned) (e : Entry) (answer : What) (ended : List Ended) where
  abbrev pub step_events : List Event
  step_events = tells e.pid answer ∷ events_of ended

  abbrev pub now : Turned
  now = record { entry = e; events = step_events }

  -- what is known of a call that waited, or was just parked
  pub record Waiting (w : Told) : Type 0 where
    pub last : last_asked w.event.pid 0 None (ts ++ now ∷ []) ≡ Some w.asked
    pub place : w.asked < length ts ⊎ is_parked answer ≡ true

  abbrev pub hit : Told → Event → Bool
  hit w x = option_map_or (ends_it w.asked) (tells_it ts now x) false

  -- an event that ends a call ends that of its process
  hit-ended : (w : Told) (x : Event) → Stand all 0 (ts ++ now ∷ []) → Waiting w → ends_waiting x.what ≡ true → hit w x ≡ (x.pid.0 == w.event.pid.0)
  hit-ended w x stand waits ends =
      let m = ends-may x.what ends in
      ap (λ b. option_map_or (ends_it w.asked) (option_map tell (cond b last (Some (length ts)))) false) m.0
      ∙ by last (x.pid.0 == w.event.pid.0) refl refl m.1
    where
      tell : ℕ → Told
      tell a = record { asked = a; by = length ts; event = x }

      last : Option ℕ
      last = last_asked x.pid 0 None (ts ++ now ∷ [])

      same : (a b : ℕ) → a ≡ b → ((a == b) && true) ≡ true
      same a b is = grind arith

      differs : (a b : ℕ) → (a ≡ b → ⊥) → ((a == b) && true) ≡ false
      differs a b apart = by' (a == b) refl
        where
          by' : (c : Bool) → c ≡ (a == b) → (c && true) ≡ false
          by' false is = refl
          by' true is = absurd (apart (eqb-true a b (sym is)))

      by : (o : Option ℕ) (b : Bool) → o ≡ last → b ≡ (x.pid.0 == w.event.pid.0) → is_parked x.what ≡ false →
          option_map_or (ends_it w.asked) (option_map tell o) false ≡ b
      by o true is own silent =
          let number : x.pid.0 ≡ w.event.pid.0 = eqb-true x.pid.0 w.event.pid.0 (sym own) in
          let mine : o ≡ Some w.asked =
          is ∙ ap (λ (k : ℕ). last_asked (record { 0 = k }) 0 None (ts ++ now ∷ [])) number ∙ waits.last in
          rw (mine, silent) (same w.asked w.asked refl)
      by None false is own silent = refl
      by (Some a) false is own silent =
          rw silent (differs a w.asked (λ here.
          eqb-false x.pid.0 w.event.pid.0 (sym own)
          (last-apart all x.pid w.event.pid (ts ++ now ∷ []) w.asked stand (sym is ∙ ap Some here) waits.last)))

  -- the answer ends no call that waited
  hit-answer : (w : Told) → (may_end answer ≡ true → last_asked e.pid 0 None (ts ++ now ∷ []) ≡ Some (length ts)) → Waiting w →
      hit w (tells e.pid answer) ≡ false
  hit-answer w called waits =
      by (may_end answer) refl (elim waits.place as (λ p. (a : ℕ) → a ≡ length ts → ((a == w.asked) && not (is_parked answer)) ≡ false) [
        | inl below ↦ λ a is. old a w.asked (not (is_parked answer)) (omega (arith, is, below))
        | inr parked ↦ λ a is. parks (a == w.asked) (is_parked answer) parked
      ])
    where
      tell : ℕ → Told
      tell a = record { asked = a; by = length ts; event = tells e.pid answer }

      old : (a b : ℕ) (c : Bool) → b < a → ((a == b) && c) ≡ false
      old a b c h = grind arith

      parks : (a b : Bool) → b ≡ true → (a && not b) ≡ false
      parks a b h = grind arith

      by : (b : Bool) → b ≡ may_end answer → ((a : ℕ) → a ≡ length ts → ((a == w.asked) && not (is_parked answer)) ≡ false) →
          option_map_or (ends_it w.asked) (option_map tell (cond b (last_asked e.pid 0 None (ts ++ now ∷ [])) (Some (length ts)))) false ≡ false
      by true is none = ap (λ o. option_map_or (ends_it w.asked) (option_map tell o) false) (called (sym is)) ∙ none (length ts) refl
      by false is none = none (length ts) refl

  -- so the calls that end with a step are those of the processes that it tells
  pub ended-told : (w : Told) → Stand all 0 (ts ++ now ∷ []) → (may_end answer ≡ true → last_asked e.pid 0 None (ts ++ now ∷ []) ≡ Some (length ts)) →
      AllByRecursion EndsWell ended → Waiting w →
      ended_by (filter_map (tells_it ts now) step_events) w ≡ is_told w.event.pid.0 (events_of ended)
  ended-told w stand called ends waits =
      any-found (ends_it w.asked) (tells_it ts now) step_events
      ∙ ap (λ b. b || list_any (hit w) (events_of ended)) (hit-answer w called waits) ∙ each (events_of ended) (events-end ended ends)
    where
      each : (xs : List Event) → AllByRecursion (λ x. ends_waiting x.what ≡ true) xs → list_any (hit w) xs ≡ is_told w.event.pid.0 xs
      each [] all' = refl
      each (x ∷ xs) all' =
          ap (λ b. b || list_any (hit w) xs) (hit-ended w x stand waits all'.0)
          ∙ ap (λ b. (x.pid.0 == w.event.pid.0) || b) (each xs all'.1)
