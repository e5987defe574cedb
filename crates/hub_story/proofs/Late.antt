-- An entry ended by its own step or by a later one, and one that did not end waits.
use Rattle.std.proofs.Common.{◌≡◌, ◌≤◌, ◌<◌, ◌+◌, ◌==◌, ◌&&◌, not, nat_lt, ℕ, Bool, true, false, cond, List, [], ◌∷◌, ◌++◌, length, filter}
use Rattle.std.proofs.Common.{drop, get_or, refl, ap, ◌∙◌, sym, arith, Option, Some, None}
use Rattle.std.specs.List.{AllByRecursion, filter_map, find}
use Rattle.std.specs.Option.{option_map, option_or}
use Rattle.std.proofs.lemmas.List.{at_drop_more, drop_all}
use Rattle.std.proofs.lemmas.Bool.{eqb-false, eqb-true, ltb-true}
use Rattle.std.proofs.lemmas.Option.{same_Some}
use Rattle.hub_base.specs.declared.head.Head.{Head}
use Rattle.hub_base.specs.Entry.{Entry}
use Rattle.hub_base.specs.declared.event.Event.{Event}
use Rattle.hub_base.specs.declared.event.What.{What}
use Rattle.hub_base.specs.declared.event.What.TheVariants as what
use Rattle.hub_base.specs.State.{opening}
use Rattle.hub_base.specs.Values.{Turned, turns_after}
use Rattle.hub_base.proofs.Lists.{all_append}
use Rattle.hub_laws.specs.Replies.{is_parked}
use Rattle.hub_story.specs.declared.told.Told.{Told}
use Rattle.hub_story.specs.Told.{end_of, ends_it, last_asked, may_end, tells_it, told, told_from}
use Rattle.hub_story.specs.Levels.{came_by, told_by}
use Rattle.hub_story.specs.Outlines.{ends_late}
use Rattle.hub_story.specs.Stories.{IsFrom}
use Rattle.hub_story.specs.Tellings.{IsTelling}
use Rattle.hub_story.proofs.Ending.{tells-below}
use Rattle.hub_story.proofs.InTime.{all-any, all-given, tells-by}
use Rattle.hub_story.proofs.Ordered.{in-order}
use Rattle.hub_story.proofs.Filling.{told_by-all, told_by-take}
use Rattle.hub_story.proofs.Walks.{came-more}

-- ---- an event is told of no later entry than the one by whose step it came
asked-first : (before ts : List Turned) → AllByRecursion (λ x. x.asked ≤ x.by) (told_from before ts)
asked-first before [] = tt
asked-first before (t ∷ ts) =
    all_append (λ x. x.asked ≤ x.by) (filter_map (tells_it before t) t.events) (told_from (before ++ t ∷ []) ts)
    (all-given (λ e. ℕ) (λ x. x.asked ≤ x.by) (tells_it before t)
    (λ e x h any. omega (arith, tells-below before t e x h, tells-by before t e x h)) t.events (all-any (λ e. ℕ) (λ e. 0) t.events))
    (asked-first (before ++ t ∷ []) ts)

-- a call is parked by its own step
parks-own : (before : List Turned) (t : Turned) (e : Event) (x : Told) → tells_it before t e ≡ Some x → is_parked x.event.what ≡ true → x.asked ≡ x.by
parks-own before t e x is parks = by (may_end e.what) refl is
  where
    tell : ℕ → Told
    tell a = record { asked = a; by = length before; event = e }

    told-so : (o : Option ℕ) → option_map tell o ≡ Some x → e ≡ x.event
    told-so None h = absurd cc
    told-so (Some a) h = ap (λ (y : Told). y.event) (same_Some _ _ h)

    ends-none : (w : What) → may_end w ≡ true → is_parked w ≡ true → ⊥
    ends-none (what.Fired i o) a b = absurd cc
    ends-none what.Stalled a b = absurd cc
    ends-none what.Cancelled a b = absurd cc
    ends-none (what.Made p) a b = absurd cc
    ends-none what.Default a b = absurd cc
    ends-none what.Done a b = absurd cc
    ends-none what.Parked a b = absurd cc
    ends-none (what.Fault f) a b = absurd cc

    by : (b : Bool) → may_end e.what ≡ b → option_map tell (cond b (last_asked e.pid 0 None (before ++ t ∷ [])) (Some (length before))) ≡ Some x →
        x.asked ≡ x.by
    by true ends h =
        absurd (ends-none e.what ends (ap (λ (y : Event). is_parked y.what) (told-so (last_asked e.pid 0 None (before ++ t ∷ [])) h) ∙ parks))
    by false ends h = let same : tell (length before) ≡ x = same_Some _ _ h in sym (ap (λ (y : Told). y.asked) same) ∙ ap (λ (y : Told). y.by) same

all-parked : (before ts : List Turned) → AllByRecursion (λ x. is_parked x.event.what ≡ true → x.asked ≡ x.by) (told_from before ts)
all-parked before [] = tt
all-parked before (t ∷ ts) =
    all_append (λ x. is_parked x.event.what ≡ true → x.asked ≡ x.by) (filter_map (tells_it before t) t.events) (told_from (before ++ t ∷ []) ts)
    (all-given (λ e. ℕ) (λ x. is_parked x.event.what ≡ true → x.asked ≡ x.by) (tells_it before t)
    (λ e x h any. parks-own before t e x h) t.events (all-any (λ e. ℕ) (λ e. 0) t.events))
    (all-parked (before ++ t ∷ []) ts)

parked-own : (h : Head) (es : List Entry) → AllByRecursion (λ x. is_parked x.event.what ≡ true → x.asked ≡ x.by) (told h es)
parked-own h es = all-parked [] (turns_after (opening h) es)

-- ---- those of later steps came by no earlier one
pub later : (place step : ℕ) (ts : List Told) → place < step → IsFrom step ts → came_by place ts ≡ []
later place step [] below so = refl
later place step (t ∷ ts) below so = by (t.by == place) refl (later place t.by ts (omega (arith, below, so.0)) so.1)
  where
    by : (b : Bool) → (t.by == place) ≡ b → came_by place ts ≡ [] → came_by place (t ∷ ts) ≡ []
    by true e rest = absurd (omega (arith, eqb-true t.by place e, below, so.0))
    by false e rest = rw e rest

not-less : (a b : ℕ) → nat_lt a b ≡ false → b ≤ a
not-less a b h = grind arith

-- the event ends the entry, by its step or later
own-or-late : (place step : ℕ) (all : List Told) → IsFrom step all → AllByRecursion (λ t. t.asked ≤ t.by) all →
    end_of all place ≡ option_or (end_of (came_by place all) place) (end_of (filter ends_late all) place)
own-or-late place step [] order first = refl
own-or-late place step (t ∷ ts) order first =
    by (t.asked == place) refl (is_parked t.event.what) refl (t.by == place) refl (nat_lt t.asked t.by) refl
    (own-or-late place t.by ts order.1 first.1) (λ below. later place t.by ts below order.1)
  where
    by : (asked : Bool) → (t.asked == place) ≡ asked → (parked : Bool) → is_parked t.event.what ≡ parked → (own : Bool) → (t.by == place) ≡ own →
        (late : Bool) → nat_lt t.asked t.by ≡ late → end_of ts place ≡ option_or (end_of (came_by place ts) place) (end_of (filter ends_late ts) place) →
        (place < t.by → came_by place ts ≡ []) →
        cond (asked && not parked) (Some t) (end_of ts place)
        ≡ option_or (end_of (cond own (t ∷ came_by place ts) (came_by place ts)) place)
        (end_of (cond (not parked && late) (t ∷ filter ends_late ts) (filter ends_late ts)) place)
    by true a false p true o l b rest none = rw (a, p) refl
    by true a false p false o true b rest none =
        let below : place < t.by = omega (arith, eqb-true t.asked place a, ltb-true t.asked t.by b) in
        rw (none below) (rw (a, p) refl)
    by true a false p false o false b rest none =
        absurd (eqb-false t.by place o (omega (arith, eqb-true t.asked place a, not-less t.asked t.by b, first.0)))
    by true a true p true o l b rest none = rw (a, p) rest
    by true a true p false o l b rest none = rest
    by false a false p true o true b rest none = rw a rest
    by false a false p true o false b rest none = rw a rest
    by false a false p false o true b rest none = rw a rest
    by false a false p false o false b rest none = rest
    by false a true p true o l b rest none = rw a rest
    by false a true p false o l b rest none = rest

pub end-is : (h : Head) (es : List Entry) (place : ℕ) →
    end_of (told h es) place ≡ option_or (end_of (came_by place (told h es)) place) (end_of (filter ends_late (told h es)) place)
end-is h es place = own-or-late place 0 (told h es) (in-order h es) (asked-first [] (turns_after (opening h) es))

-- how an entry ended, by what came by its step and what ended late
pub end-by : (h : Head) (es : List Entry) (place : ℕ) (came : List Told) (own late : Option Told) → came ≡ came_by place (told h es) →
    own ≡ end_of came place → late ≡ end_of (filter ends_late (told h es)) place → option_or own late ≡ end_of (told h es) place
end-by h es place came own late is owns lates =
    ap (λ o. option_or o late) (owns ∙ ap (λ l. end_of l place) is) ∙ ap (option_or (end_of (came_by place (told h es)) place)) lates
    ∙ sym (end-is h es place)

-- what is found among these is one of them
found-passes : {X : Type 0} (p q : X → Bool) (xs : List X) (x : X) → find p (filter q xs) ≡ Some x → q x ≡ true
found-passes p q [] x h = absurd cc
found-passes {X} p q (y ∷ ys) x h = by (q y) refl (p y) refl h (found-passes p q ys x)
  where
    by : (b : Bool) → q y ≡ b → (c : Bool) → p y ≡ c → find p (cond b (y ∷ filter q ys) (filter q ys)) ≡ Some x →
        (find p (filter q ys) ≡ Some x → q x ≡ true) → q x ≡ true
    by true qs true ps found rest =
        let same : y ≡ x = same_Some _ _ (ap (λ b. cond b (Some y) (find p (filter q ys))) (sym ps) ∙ found) in
        ap q (sym same) ∙ qs
    by true qs false ps found rest = rest (ap (λ b. cond b (Some y) (find p (filter q ys))) (sym ps) ∙ found)
    by false qs c ps found rest = rest found

-- an entry that ended by a later step, or waits, has no end of its own step
late-is : (h : Head) (es : List Entry) (place : ℕ) → ((t : Told) → end_of (told h es) place ≡ Some t → place < t.by) →
    end_of (filter ends_late (told h es)) place ≡ end_of (told h es) place
late-is h es place waits = by (end_of (came_by place (told h es)) place) refl
  where
    by : (o : Option Told) → end_of (came_by place (told h es)) place ≡ o → end_of (filter ends_late (told h es)) place ≡ end_of (told h es) place
    by None own = sym (end-is h es place ∙ ap (λ o. option_or o (end_of (filter ends_late (told h es)) place)) own)
    by (Some t) own =
        let later = waits t (end-is h es place ∙ ap (λ o. option_or o (end_of (filter ends_late (told h es)) place)) own) in
        let same = eqb-true t.by place (found-passes (ends_it place) (λ (t : Told). t.by == place) (told h es) t own) in
        absurd (omega (arith, later, same))

-- ---- what all that a journal tells is like
grown : (h : Head) (es : List Entry) (place : ℕ) → place < length es →
    told_by (place + 1) (told h es) ≡ told_by place (told h es) ++ came_by place (told h es)
grown h [] place below = absurd (omega (arith, below))
grown h (e ∷ es) place below = came-more h (e ∷ es) place e below

pub telling : (h : Head) (es : List Entry) → IsTelling (length es) (told h es)
telling h es = record {
  in_order = in-order h es;
  none = told_by-take h es 0;
  grown = grown h es;
  within = told_by-all h es (length es) (omega arith);
  parked = parked-own h es;
  late = late-is h es;
}

-- ---- the first that passes a test
pub found-here : {X : Type 0} (p : X → Bool) (xs : List X) (i : ℕ) (d : X) → i < length xs → d ≡ get_or xs i d → p d ≡ true →
    find p (drop i xs) ≡ find p xs → Some d ≡ find p xs
found-here p xs i d below at hit was =
    let one : find p (d ∷ drop (i + 1) xs) ≡ Some d = rw hit refl in
    sym one ∙ ap (λ x. find p (x ∷ drop (i + 1) xs)) at ∙ sym (at_drop_more (find p) xs i d below) ∙ was

pub not-here : {X : Type 0} (p : X → Bool) (xs : List X) (i : ℕ) (d : X) → i < length xs → d ≡ get_or xs i d → p d ≡ false →
    find p (drop i xs) ≡ find p xs → find p (drop (i + 1) xs) ≡ find p xs
not-here p xs i d below at miss was =
    let none : find p (d ∷ drop (i + 1) xs) ≡ find p (drop (i + 1) xs) = rw miss refl in
    sym none ∙ ap (λ x. find p (x ∷ drop (i + 1) xs)) at ∙ sym (at_drop_more (find p) xs i d below) ∙ was

pub nowhere : {X : Type 0} (p : X → Bool) (xs : List X) (i : ℕ) → length xs ≤ i → find p (drop i xs) ≡ find p xs → None ≡ find p xs
nowhere p xs i past was = ap (find p) (sym (drop_all i xs past)) ∙ was
