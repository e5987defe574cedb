-- No entry ends twice: the calls that end in one step are of different processes.
use Rattle.std.proofs.Common.{◌≡◌, ◌≤◌, ◌==◌, ◌||◌, ℕ, Bool, true, false, cond, not, List, [], ◌∷◌, length, map, filter, refl, ap, ◌∙◌, sym}
use Rattle.std.proofs.Common.{Option, Some, None, arith, ◌⊎◌, inl, inr}
use Rattle.std.specs.List.{AllByRecursion, filter_map, cons_option, find}
use Rattle.std.specs.Option.{option_map_or}
use Rattle.std.proofs.lemmas.Bool.{eqb-true}
use Rattle.hub_base.specs.declared.value.Pid.{Pid}
use Rattle.hub_base.specs.declared.event.Event.{Event}
use Rattle.hub_base.specs.State.{OpenCall}
use Rattle.hub_base.specs.Ready.{without}
use Rattle.hub_base.proofs.Lists.{all_more}
use Rattle.hub_laws.specs.Sound.{Apart, is_among}
use Rattle.hub_laws.proofs.Calls.{fewer-filter, same_number}
use Rattle.hub_laws.proofs.Leaving.{Ended, event_of, events_of, Leave, nobody, next, leave-all}
use Rattle.hub_story.proofs.Leavers.{takes-without}
use Rattle.hub_story.proofs.Steps.{filter-none}

-- ---- different processes
-- of different processes
abbrev pub Distinct : List Ended → Type 0
Distinct [] = Unit {0}
Distinct (x ∷ xs) = AllByRecursion (λ y. (y.call.pid.0 == x.call.pid.0) ≡ false) xs × Distinct xs

among-without : (q : ℕ) (p : Pid) (cs : List OpenCall) → is_among q (without p cs) ≡ true → (q == p.0) ≡ false
among-without q p [] h = absurd cc
among-without q p (c ∷ cs) h = by (c.pid.0 == p.0) refl (among-without q p cs) h
  where
    here : (a : Bool) → a ≡ (c.pid.0 == q) → (c.pid.0 == p.0) ≡ false → (is_among q (without p cs) ≡ true → (q == p.0) ≡ false) →
        (a || is_among q (without p cs)) ≡ true → (q == p.0) ≡ false
    here true is other rest h = ap (λ k. k == p.0) (sym (eqb-true c.pid.0 q (sym is))) ∙ other
    here false is other rest h = rest h

    by : (b : Bool) → b ≡ (c.pid.0 == p.0) → (is_among q (without p cs) ≡ true → (q == p.0) ≡ false) →
        is_among q (cond (not b) (c ∷ without p cs) (without p cs)) ≡ true → (q == p.0) ≡ false
    by true is rest h = rest h
    by false is rest h = here (c.pid.0 == q) refl (sym is) rest h

or-last : (a b : Bool) → b ≡ true → (a || b) ≡ true
or-last true b h = refl
or-last false b h = h

all-among : (cs : List OpenCall) → AllByRecursion (λ c. is_among c.pid.0 cs ≡ true) cs
all-among [] = tt
all-among (c ∷ cs) = (
  ap (λ b. b || is_among c.pid.0 cs) (same_number c.pid.0),
  all_more (λ d. is_among d.pid.0 cs ≡ true) (λ d. is_among d.pid.0 (c ∷ cs) ≡ true) cs
      (λ d h. or-last (c.pid.0 == d.pid.0) (is_among d.pid.0 cs) h) (all-among cs),
)

pub leave-distinct : (xs : List Ended) (calls kept : List OpenCall) → Leave xs calls kept → Apart calls → Distinct xs
leave-distinct xs calls kept (nobody cs) apart = tt
leave-distinct xs calls kept (next y ys cs rest ks t l) apart =
    let out : rest ≡ without y.call.pid cs = takes-without y.call cs rest t apart in
    let among = (leave-all (λ call. is_among call.pid.0 rest ≡ true) ys rest ks l (all-among rest)).0 in
    let fewer = fewer-filter (λ call. not (call.pid.0 == y.call.pid.0)) cs in (
      all_more (λ x. is_among x.call.pid.0 rest ≡ true) (λ x. (x.call.pid.0 == y.call.pid.0) ≡ false) ys
          (λ x h. among-without x.call.pid.0 y.call.pid cs (ap (is_among x.call.pid.0) (sym out) ∙ h)) among,
      leave-distinct ys rest ks l (rw out (fewer.apart apart)),
    )

-- ---- counting
-- one of them at most, where two would be of the same process
pub most-one : (hit : Event → Bool) (Q : Event → Type 0) → ((x y : Event) → Q x → Q y → hit x ≡ true → hit y ≡ true → x.pid.0 ≡ y.pid.0) →
    (xs : List Ended) → Distinct xs → AllByRecursion Q (events_of xs) → length (filter hit (events_of xs)) ≤ 1
most-one hit Q one [] apart all = omega arith
most-one hit Q one (x ∷ xs) apart all = by (hit (event_of x)) refl (most-one hit Q one xs apart.1 all.1)
  where
    differs : (y : Ended) (b : Bool) → b ≡ hit (event_of y) → hit (event_of x) ≡ true → Q (event_of y) → (y.call.pid.0 == x.call.pid.0) ≡ false → b ≡ false
    differs y false is hx q other = refl
    differs y true is hx q other =
        let same : y.call.pid.0 ≡ x.call.pid.0 = one (event_of y) (event_of x) q all.0 (sym is) hx in
        let own : (y.call.pid.0 == x.call.pid.0) ≡ true = ap (λ k. k == x.call.pid.0) same ∙ same_number x.call.pid.0 in
        absurd (let g : true ≡ false = sym own ∙ other in cc)

    none : (ys : List Ended) → hit (event_of x) ≡ true → AllByRecursion (λ y. (y.call.pid.0 == x.call.pid.0) ≡ false) ys → AllByRecursion Q (events_of ys) →
        AllByRecursion (λ e. hit e ≡ false) (events_of ys)
    none [] hx others qs = tt
    none (y ∷ ys) hx others qs = (sym (sym (differs y (hit (event_of y)) refl hx qs.0 others.0)), none ys hx others.1 qs.1)

    by : (b : Bool) → b ≡ hit (event_of x) → length (filter hit (events_of xs)) ≤ 1 →
        length (cond b (event_of x ∷ filter hit (events_of xs)) (filter hit (events_of xs))) ≤ 1
    by false is rest = rest
    by true is rest =
        let empty : filter hit (events_of xs) ≡ [] = filter-none hit (events_of xs) (none xs (sym is) apart.0 all.1) in
        omega (arith, ap length empty)

pub length-found : {X Y : Type 0} (p : Y → Bool) (f : X → Option Y) (xs : List X) →
    length (filter p (filter_map f xs)) ≡ length (filter (λ x. option_map_or p (f x) false) xs)
length-found p f [] = refl
length-found {X = X} {Y = Y} p f (x ∷ xs) = by (f x) (length-found p f xs)
  where
    found : List X
    found = filter (λ x. option_map_or p (f x) false) xs

    by : (o : Option Y) → length (filter p (filter_map f xs)) ≡ length found →
        length (filter p (cons_option o (filter_map f xs))) ≡ length (cond (option_map_or p o false) (x ∷ found) found)
    by None rest = rest
    by (Some y) rest = here (p y)
      where
        here : (b : Bool) → length (cond b (y ∷ filter p (filter_map f xs)) (filter p (filter_map f xs))) ≡ length (cond b (x ∷ found) found)
        here true = omega (arith, rest)
        here false = rest

-- none passes, or one does
pub found-one : {A : Type 0} (p : A → Bool) (P : A → Type 0) (xs : List A) → AllByRecursion P xs →
    (length (filter p xs) ≡ 0) ⊎ ((x : A) × (p x ≡ true) × P x)
found-one p P [] all = inl refl
found-one {A = A} p P (x ∷ xs) all = by (p x) refl (found-one p P xs all.1)
  where
    by : (b : Bool) → b ≡ p x → (length (filter p xs) ≡ 0) ⊎ ((x : A) × (p x ≡ true) × P x) →
        (length (cond b (x ∷ filter p xs) (filter p xs)) ≡ 0) ⊎ ((x : A) × (p x ≡ true) × P x)
    by true is rest = inr (x, sym is, all.0)
    by false is rest = rest

pub find-filter : {A : Type 0} (p : A → Bool) (xs : List A) → find p xs ≡ None → filter p xs ≡ []
find-filter p [] h = refl
find-filter {A = A} p (x ∷ xs) h = by (p x) (find-filter p xs) h
  where
    by : (b : Bool) → (find p xs ≡ None → filter p xs ≡ []) → cond b (Some x) (find p xs) ≡ None → cond b (x ∷ filter p xs) (filter p xs) ≡ []
    by true rest h = absurd cc
    by false rest h = rest h

pub filter-passes : {A : Type 0} (p : A → Bool) (xs : List A) → AllByRecursion (λ x. p x ≡ true) (filter p xs)
filter-passes p [] = tt
filter-passes {A = A} p (x ∷ xs) = by (p x) refl (filter-passes p xs)
  where
    by : (b : Bool) → b ≡ p x → AllByRecursion (λ x. p x ≡ true) (filter p xs) → AllByRecursion (λ x. p x ≡ true) (cond b (x ∷ filter p xs) (filter p xs))
    by true is rest = (sym is, rest)
    by false is rest = rest

pub all-map : {A B : Type 0} (P : B → Type 0) (f : A → B) (xs : List A) → AllByRecursion (λ x. P (f x)) xs → AllByRecursion P (map f xs)
all-map P f [] all = tt
all-map P f (x ∷ xs) all = (all.0, all-map P f xs all.1)
