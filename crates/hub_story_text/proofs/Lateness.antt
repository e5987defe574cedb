-- Of a call that waited, what is known of its end is what it was told by a later step; and which calls wait to the end.
use Rattle.std.proofs.Common.{◌≡◌, ◌<◌, ◌+◌, ◌-◌, ◌==◌, ◌&&◌, not, ℕ, zero, suc, Bool, true, false, cond, List, [], ◌∷◌, ◌++◌}
use Rattle.std.proofs.Common.{length, take, drop, filter, get_or, zero-le}
use Rattle.std.proofs.Common.{nat_lt, refl, ap, ◌∙◌, sym, subst, Option, None, Some, is_some, add-one}
use Rattle.std.specs.List.{AllByRecursion, cons_option, fold}
use Rattle.std.proofs.Math.Seq.{drop-cons}
use Rattle.std.proofs.lemmas.Bool.{eqb-true, ltb-true}
use Rattle.std.proofs.lemmas.List.Elements.{filter-append}
use Rattle.std.proofs.lemmas.Option.{same_Some}
use Rattle.hub_base.specs.declared.value.Pid.{Pid}
use Rattle.hub_base.specs.Entry.{Entry}
use Rattle.hub_base.proofs.Lists.{all_append}
use Rattle.hub_base.proofs.Growing.{filter-agrees}
use Rattle.hub_laws.specs.Replies.{is_parked}
use Rattle.hub_story.specs.declared.told.Told.{Told}
use Rattle.hub_story.specs.Levels.{came_by, told_by}
use Rattle.hub_story.specs.Tellings.{IsTelling}
use Rattle.hub_story.specs.Told.{end_of}
use Rattle.hub_story_text.specs.declared.waits.TheConstants.{MOST_LONGEST}
use Rattle.hub_story_text.specs.declared.waits.Wait.{Wait}
use Rattle.hub_story.specs.ByClock.{is_by_clock}
use Rattle.hub_story_text.specs.Seen.{unended, waits_still}
use Rattle.hub_story_text.proofs.Levels.{not-below}
use Rattle.hub_story_text.specs.Waits.{EndsLate, longest, told_wait, wait_of, waits, waits_below, with_wait}

-- ---- lists of which all are such
pub all-first : {A : Type 0} (P : A → Type 0) (xs : List A) (i : ℕ) (d : A) → i < length xs → AllByRecursion P (drop i xs) →
    P (get_or xs i d) × AllByRecursion P (drop (i + 1) xs)
all-first P xs i d below all =
    let both = subst (AllByRecursion P) (drop-cons xs i d below) all in
    (both.0, subst (λ k. AllByRecursion P (drop k xs)) (sym (add-one i)) both.1)

all-taken : {A : Type 0} (P : A → Type 0) (k : ℕ) (xs : List A) → AllByRecursion P xs → AllByRecursion P (take k xs)
all-taken P zero xs all = tt
all-taken P (suc k) [] all = tt
all-taken P (suc k) (x ∷ xs) all = (all.0, all-taken P k xs all.1)

all-ranked : (P : Wait → Type 0) (w : Wait) (xs : List Wait) → P w → AllByRecursion P xs → AllByRecursion P (with_wait w xs)
all-ranked P w [] one all = (one, tt)
all-ranked P w (x ∷ xs) one all = by (nat_lt x.steps w.steps) (all-ranked P w xs one all.1)
  where
    by : (b : Bool) → AllByRecursion P (with_wait w xs) → AllByRecursion P (cond b (w ∷ x ∷ xs) (x ∷ with_wait w xs))
    by true rest = (one, all)
    by false rest = (all.0, rest)

all-folded : (P : Wait → Type 0) (ranked ws : List Wait) → AllByRecursion P ranked → AllByRecursion P ws →
    AllByRecursion P (fold (λ ranked w. with_wait w ranked) ranked ws)
all-folded P ranked [] so all = so
all-folded P ranked (w ∷ ws) so all = all-folded P (with_wait w ranked) ws (all-ranked P w ranked all.0 so) all.1

-- ---- waits
-- one that is told is of a call that ended by a later step, or did not end
wait-late : (es : List Entry) (all : List Told) → IsTelling (length es) all → (clock : Option Pid) (place : ℕ) →
    AllByRecursion (EndsLate all) (cons_option (told_wait clock es all place) [])
wait-late es all so clock place = by (is_by_clock clock es place) (end_of all place) refl
  where
    by : (b : Bool) (o : Option Told) → end_of all place ≡ o →
        AllByRecursion (EndsLate all) (cons_option (cond b None (wait_of (length es) place o)) [])
    by true o is = tt
    by false None is = (so.late place (λ t h. absurd (let g : None ≡ Some t = sym is ∙ h in cc)), tt)
    by false (Some t) is = later (nat_lt place t.by) refl
      where
        later : (b : Bool) → nat_lt place t.by ≡ b →
            AllByRecursion (EndsLate all) (cons_option (cond b (Some (record { place = place; steps = t.by - place })) None) [])
        later true below =
            (so.late place (λ u h. let same : t ≡ u = same_Some _ _ (sym is ∙ h) in subst (λ (v : Told). place < v.by) same (ltb-true place t.by below)), tt)
        later false below = tt

waits-late : (es : List Entry) (all : List Told) → IsTelling (length es) all → (clock : Option Pid) (n : ℕ) →
    AllByRecursion (EndsLate all) (waits_below clock es all n)
waits-late es all so clock zero = tt
waits-late es all so clock (suc n) =
    all_append (EndsLate all) (waits_below clock es all n) (cons_option (told_wait clock es all n) [])
    (waits-late es all so clock n) (wait-late es all so clock n)

pub longest-late : (es : List Entry) (all : List Told) → IsTelling (length es) all → (clock : Option Pid) →
    AllByRecursion (EndsLate all) (longest (waits clock es all))
longest-late es all so clock =
    all-taken (EndsLate all) MOST_LONGEST (fold (λ ranked w. with_wait w ranked) [] (waits clock es all))
    (all-folded (EndsLate all) [] (waits clock es all) tt (waits-late es all so clock (length es)))

-- ---- who waits to the end
-- what holds of all holds of those that pass
all-filtered : {A : Type 0} (P : A → Type 0) (p : A → Bool) (xs : List A) → AllByRecursion P xs →
    AllByRecursion (λ x. P x × (p x ≡ true)) (filter p xs)
all-filtered P p [] all = tt
all-filtered P p (x ∷ xs) all = by (p x) refl (all-filtered P p xs all.1)
  where
    by : (b : Bool) → p x ≡ b → AllByRecursion (λ x. P x × (p x ≡ true)) (filter p xs) →
        AllByRecursion (λ x. P x × (p x ≡ true)) (cond b (x ∷ filter p xs) (filter p xs))
    by true is rest = ((all.0, is), rest)
    by false is rest = rest

and-true : (b : Bool) → (b && true) ≡ b
and-true true = refl
and-true false = refl

and-false : (b : Bool) → (b && false) ≡ false
and-false true = refl
and-false false = refl

none-pass : {A : Type 0} (xs : List A) → filter (λ x. false) xs ≡ []
none-pass [] = refl
none-pass (x ∷ xs) = none-pass xs

abbrev Parks : ℕ → Told → Type 0
Parks place t = (is_parked t.event.what ≡ true → t.asked ≡ t.by) × ((t.by == place) ≡ true)

-- of what came by a step, those that wait to the end, by how its entry ended
still-came : (all : List Told) (place : ℕ) (came : List Told) → AllByRecursion (Parks place) came →
    filter (waits_still all) came ≡ unended (end_of all place) came
still-came all place came parks = by (end_of all place) refl
  where
    one : (t : Told) (o : Option Told) → Parks place t → end_of all place ≡ o → waits_still all t ≡ (is_parked t.event.what && not (is_some o))
    one t o parks is = parked (is_parked t.event.what) refl
      where
        parked : (b : Bool) → is_parked t.event.what ≡ b → (b && not (is_some (end_of all t.asked))) ≡ (b && not (is_some o))
        parked true so =
            ap (λ e. not (is_some e)) (ap (end_of all) (parks.0 so ∙ eqb-true t.by place parks.1) ∙ is)
        parked false so = refl

    by : (o : Option Told) → end_of all place ≡ o → filter (waits_still all) came ≡ unended o came
    by None is =
        filter-agrees (Parks place) (waits_still all) (λ t. is_parked t.event.what)
        (λ t p. one t None p is ∙ and-true (is_parked t.event.what)) came parks
    by (Some e) is =
        filter-agrees (Parks place) (waits_still all) (λ t. false) (λ t p. one t (Some e) p is ∙ and-false (is_parked t.event.what)) came parks
        ∙ none-pass came

-- ---- no step yet, and one step more
pub none-first : (ts : List Told) → told_by 0 ts ≡ []
none-first [] = refl
none-first (t ∷ ts) = rw (not-below t.by 0 zero-le) (none-first ts)

pub told-more : {count place : ℕ} {all came : List Told} → IsTelling count all → place < count → came ≡ came_by place all →
    told_by place all ++ came ≡ told_by (place + 1) all
told-more {place = place} {all = all} so below is = ap (λ l. told_by place all ++ l) is ∙ sym (so.grown place below)

pub still-more : (count place : ℕ) (all came old new : List Told) (end : Option Told) → IsTelling count all → place < count →
    came ≡ came_by place all → end ≡ end_of all place → old ≡ filter (waits_still all) (told_by place all) →
    new ≡ old ++ unended end came → new ≡ filter (waits_still all) (told_by (place + 1) all)
still-more count place all came old new end so below is ends was made =
    let parks : AllByRecursion (Parks place) came =
    subst (AllByRecursion (Parks place)) (sym is)
    (all-filtered (λ t. is_parked t.event.what ≡ true → t.asked ≡ t.by) (λ t. t.by == place) all so.parked) in
    made ∙ ap (λ l. l ++ unended end came) was
    ∙ ap (λ l. filter (waits_still all) (told_by place all) ++ l) (ap (λ o. unended o came) ends ∙ sym (still-came all place came parks))
    ∙ sym (filter-append (waits_still all) (told_by place all) came) ∙ ap (filter (waits_still all)) (told-more so below is)
