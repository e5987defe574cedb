-- How full a port was at most: of all steps those count by which a value was sent.
use Rattle.std.proofs.Common.{◌≡◌, ◌≤◌, ◌<◌, ◌+◌, ◌-◌, ◌==◌, ℕ, zero, suc, zero-le, Bool, true, false, List, [], ◌∷◌, ◌++◌, length, map}
use Rattle.std.proofs.Common.{refl, ap, ◌∙◌, sym, subst, arith, Option, Some, None, get_or, drop, add-one, length-append}
use Rattle.std.specs.Prelude.{cond, nat_lt}
use Rattle.std.specs.List.{AllByRecursion, filter_map, fold}
use Rattle.std.proofs.Math.Seq.{drop-cons}
use Rattle.std.proofs.lemmas.Bool.{eqb-false, eqb-true, lt-ltb, ltb-true}
use Rattle.std.proofs.lemmas.List.{length-map, map-append}
use Rattle.std.proofs.lemmas.List.Elements.{filter_map-append}
use Rattle.std.proofs.lemmas.List.Sums.{fold-append}
use Rattle.hub_base.specs.declared.value.Port.{Port}
use Rattle.hub_base.specs.declared.value.Value.{Value}
use Rattle.hub_base.specs.declared.case.Case.{Case}
use Rattle.hub_base.specs.Entry.{Entry}
use Rattle.hub_base.specs.declared.event.Outcome.{Outcome}
use Rattle.hub_base.specs.Values.{cases_at, of_what, sent_on, got_on}
use Rattle.hub_story.specs.declared.told.Told.{Told}
use Rattle.hub_story.specs.declared.moved.Moved.{Moved}
use Rattle.hub_story.specs.Levels.{received_by, sent_by, told_by}
use Rattle.hub_story.specs.Passing.{moved_by, receives, sends}
use Rattle.hub_story.specs.Stories.{IsFrom}
use Rattle.hub_story_text.specs.declared.fullest.Fullest.{Fullest}
use Rattle.hub_story_text.specs.Fullest.{IsUp, count_below, fuller, fuller_by, fullest, fullest_of, held_by, never_filled}
use Rattle.hub_story_text.specs.StoryText.{came_by}

pub not-below : (a b : ℕ) → b ≤ a → nat_lt a b ≡ false
not-below a b h = grind arith

past : (a b : ℕ) → nat_lt a b ≡ false → b ≤ a
past a b h = grind arith

-- ---- what is told before the step that all of it is from
lower : (n m : ℕ) (ts : List Told) → n ≤ m → IsFrom m ts → IsFrom n ts
lower n m [] below so = tt
lower n m (t ∷ ts) below so = (omega (arith, below, so.0), so.1)

none-before : (place : ℕ) (ts : List Told) → IsFrom place ts → told_by place ts ≡ []
none-before place [] so = refl
none-before place (t ∷ ts) so = rw (not-below t.by place so.0) (none-before place ts (lower place t.by ts so.0 so.1))

-- ---- numbers that never go back
pub none-below : (from limit : ℕ) (xs : List ℕ) → IsUp from xs → limit ≤ from → count_below limit xs ≡ 0
none-below from limit [] up past = refl
none-below from limit (x ∷ xs) up past =
    rw (not-below x limit (omega (arith, up.0, past))) (none-below x limit xs up.1 (omega (arith, up.0, past)))

pub few-below : (limit : ℕ) (xs : List ℕ) → count_below limit xs ≤ length xs
few-below limit [] = zero-le
few-below limit (x ∷ xs) = by (nat_lt x limit) refl (few-below limit xs)
  where
    by : (b : Bool) → nat_lt x limit ≡ b → count_below limit xs ≤ length xs → count_below limit (x ∷ xs) ≤ length (x ∷ xs)
    by true e rest = rw e (omega (arith, rest))
    by false e rest = rw e (omega (arith, rest))

first-least : (from i d : ℕ) (xs : List ℕ) → IsUp from xs → i < length xs → from ≤ get_or xs i d
first-least from i d [] up below = absurd (omega (arith, below))
first-least from zero d (x ∷ xs) up below = up.0
first-least from (suc i) d (x ∷ xs) up below =
    let rest : x ≤ get_or xs i d = first-least x i d xs up.1 (omega (arith, below)) in
    omega (arith, up.0, rest)

-- one that is below stands among those that are, and one that is not stands behind them
pub one-below : (from limit i d : ℕ) (xs : List ℕ) → IsUp from xs → i < length xs → get_or xs i d < limit → i + 1 ≤ count_below limit xs
one-below from limit i d [] up within below = absurd (omega (arith, within))
one-below from limit zero d (x ∷ xs) up within below = rw (lt-ltb x limit below) (omega arith)
one-below from limit (suc i) d (x ∷ xs) up within below =
    let least : x ≤ get_or xs i d = first-least x i d xs up.1 (omega (arith, within)) in
    let rest : i + 1 ≤ count_below limit xs = one-below x limit i d xs up.1 (omega (arith, within)) below in
    rw (lt-ltb x limit (omega (arith, least, below))) (omega (arith, rest))

pub not-one-below : (from limit i d : ℕ) (xs : List ℕ) → IsUp from xs → i < length xs → limit ≤ get_or xs i d → count_below limit xs ≤ i
not-one-below from limit i d [] up within past = zero-le
not-one-below from limit zero d (x ∷ xs) up within past =
    rw (not-below x limit past, none-below x limit xs up.1 past) zero-le
not-one-below from limit (suc i) d (x ∷ xs) up within past =
    by (nat_lt x limit) refl (not-one-below x limit i d xs up.1 (omega (arith, within)) past)
  where
    by : (b : Bool) → nat_lt x limit ≡ b → count_below limit xs ≤ i → count_below limit (x ∷ xs) ≤ suc i
    by true e rest = rw e (omega (arith, rest))
    by false e rest = rw e (omega (arith, rest))

-- a higher limit has no fewer below it
pub more-below : (low high : ℕ) (xs : List ℕ) → low ≤ high → count_below low xs ≤ count_below high xs
more-below low high [] h = zero-le
more-below low high (x ∷ xs) h = by (nat_lt x low) refl (nat_lt x high) refl (more-below low high xs h)
  where
    by : (b : Bool) → nat_lt x low ≡ b → (c : Bool) → nat_lt x high ≡ c → count_below low xs ≤ count_below high xs →
        count_below low (x ∷ xs) ≤ count_below high (x ∷ xs)
    by true e true f rest = rw (e, f) (omega (arith, rest))
    by true e false f rest = absurd (omega (arith, ltb-true x low e, h, past x high f))
    by false e true f rest = rw (e, f) (omega (arith, rest))
    by false e false f rest = rw (e, f) rest

next-suc : (from i d : ℕ) (xs : List ℕ) → IsUp from xs → suc i < length xs → get_or xs i d ≤ get_or xs (suc i) d
next-suc from i d [] up within = absurd (omega (arith, within))
next-suc from zero d (x ∷ xs) up within = first-least x 0 d xs up.1 (omega (arith, within))
next-suc from (suc i) d (x ∷ xs) up within = next-suc x i d xs up.1 (omega (arith, within))

pub next-up : (from i d : ℕ) (xs : List ℕ) → IsUp from xs → i + 1 < length xs → get_or xs i d ≤ get_or xs (i + 1) d
next-up from i d xs up within =
    subst (λ k. get_or xs i d ≤ get_or xs k d) (sym (add-one i)) (next-suc from i d xs up (omega (arith, within)))

-- one item more of what is folded
pub fold-next : {A B : Type 0} (f : B → A → B) (b : B) (xs : List A) (i : ℕ) (d : A) → i < length xs →
    fold f b (drop i xs) ≡ fold f (f b (get_or xs i d)) (drop (i + 1) xs)
fold-next f b xs i d below =
    ap (fold f b) (drop-cons xs i d below) ∙ ap (λ k. fold f (f b (get_or xs i d)) (drop k xs)) (sym (add-one i))

-- ---- the steps by which values moved
-- those by which these values did
abbrev pub moved_by_steps : List Moved → List ℕ
moved_by_steps ms = map (λ m. m.told.by) ms

lower-up : (low high : ℕ) (xs : List ℕ) → IsUp high xs → low ≤ high → IsUp low xs
lower-up low high [] up h = tt
lower-up low high (x ∷ xs) up h = (omega (arith, up.0, h), up.1)

-- they never go back
pub steps-up : (pick : Option Case → Outcome → Option Value) (es : List Entry) (from : ℕ) (ts : List Told) → IsFrom from ts →
    IsUp from (moved_by_steps (filter_map (moved_by pick es) ts))
steps-up pick es from [] so = tt
steps-up pick es from (t ∷ ts) so = by (of_what pick (cases_at es t.asked) t.event.what) refl (steps-up pick es t.by ts so.1)
  where
    by : (o : Option Value) → of_what pick (cases_at es t.asked) t.event.what ≡ o → IsUp t.by (moved_by_steps (filter_map (moved_by pick es) ts)) →
        IsUp from (moved_by_steps (filter_map (moved_by pick es) (t ∷ ts)))
    by None e rest = rw e (lower-up from t.by (moved_by_steps (filter_map (moved_by pick es) ts)) rest so.0)
    by (Some v) e rest = rw e (so.0, rest)

-- those below a limit are of what is told by then
pub steps-told : (pick : Option Case → Outcome → Option Value) (es : List Entry) (limit : ℕ) (ts : List Told) →
    count_below limit (moved_by_steps (filter_map (moved_by pick es) ts)) ≡ length (filter_map (moved_by pick es) (told_by limit ts))
steps-told pick es limit [] = refl
steps-told pick es limit (t ∷ ts) =
    by (of_what pick (cases_at es t.asked) t.event.what) refl (nat_lt t.by limit) refl (steps-told pick es limit ts)
  where
    by : (o : Option Value) → of_what pick (cases_at es t.asked) t.event.what ≡ o → (b : Bool) → nat_lt t.by limit ≡ b →
        count_below limit (moved_by_steps (filter_map (moved_by pick es) ts)) ≡ length (filter_map (moved_by pick es) (told_by limit ts)) →
        count_below limit (moved_by_steps (filter_map (moved_by pick es) (t ∷ ts)))
        ≡ length (filter_map (moved_by pick es) (told_by limit (t ∷ ts)))
    by None e true h rest = rw (e, h, e) rest
    by None e false h rest = rw (e, h) rest
    by (Some v) e true h rest = rw (e, h, e) (ap suc rest)
    by (Some v) e false h rest = rw (e, h) rest

-- ---- step by step
-- by the next step comes what came by this one
step-parts : (place from : ℕ) (ts : List Told) → IsFrom from ts → told_by (suc place) ts ≡ told_by place ts ++ came_by place ts
step-parts place from [] so = refl
step-parts place from (t ∷ ts) so = by (nat_lt t.by place) refl (t.by == place) refl (step-parts place t.by ts so.1)
  where
    by : (a : Bool) → nat_lt t.by place ≡ a → (b : Bool) → (t.by == place) ≡ b → told_by (suc place) ts ≡ told_by place ts ++ came_by place ts →
        told_by (suc place) (t ∷ ts) ≡ told_by place (t ∷ ts) ++ came_by place (t ∷ ts)
    by true e true f rest = absurd (omega (arith, ltb-true t.by place e, eqb-true t.by place f))
    by true e false f rest = rw (e, f, lt-ltb t.by (suc place) (omega (arith, ltb-true t.by place e))) (ap (λ l. t ∷ l) rest)
    by false e true f rest =
        let none : told_by place ts ≡ [] = none-before place ts (subst (λ k. IsFrom k ts) (eqb-true t.by place f) so.1) in
        rw (e, f, lt-ltb t.by (suc place) (omega (arith, eqb-true t.by place f)), none)
        (ap (λ l. t ∷ l) (rest ∙ ap (λ l. l ++ came_by place ts) none))
    by false e false f rest =
        rw (e, f, not-below t.by (suc place) (omega (arith, past t.by place e, eqb-false t.by place f))) rest

-- each of those values moved by it
came-at : (pick : Option Case → Outcome → Option Value) (es : List Entry) (place : ℕ) (ts : List Told) →
    AllByRecursion (λ s. s ≡ place) (moved_by_steps (filter_map (moved_by pick es) (came_by place ts)))
came-at pick es place [] = tt
came-at pick es place (t ∷ ts) =
    by (t.by == place) refl (of_what pick (cases_at es t.asked) t.event.what) refl (came-at pick es place ts)
  where
    by : (b : Bool) → (t.by == place) ≡ b → (o : Option Value) → of_what pick (cases_at es t.asked) t.event.what ≡ o →
        AllByRecursion (λ s. s ≡ place) (moved_by_steps (filter_map (moved_by pick es) (came_by place ts))) →
        AllByRecursion (λ s. s ≡ place) (moved_by_steps (filter_map (moved_by pick es) (came_by place (t ∷ ts))))
    by true e None f rest = rw (e, f) rest
    by true e (Some v) f rest = rw (e, f) (eqb-true t.by place e, rest)
    by false e o f rest = rw e rest

-- what is held after a step is taken in once
full-again : (before : Fullest) (place held : ℕ) → fuller (fuller before place held) place held ≡ fuller before place held
full-again before place held = by (nat_lt before.most held) refl
  where
    by : (b : Bool) → nat_lt before.most held ≡ b → fuller (fuller before place held) place held ≡ fuller before place held
    by true e = rw (e, not-below held held (omega arith)) refl
    by false e = rw e (rw e refl)

fold-at : (held : ℕ → ℕ) (place : ℕ) (xs : List ℕ) (before : Fullest) → AllByRecursion (λ s. s ≡ place) xs →
    fold (λ f s. fuller f s (held s)) (fuller before place (held place)) xs ≡ fuller before place (held place)
fold-at held place [] before all = refl
fold-at held place (x ∷ xs) before all =
    ap (λ s. fold (λ f s. fuller f s (held s)) (fuller (fuller before place (held place)) s (held s)) xs) all.0
    ∙ ap (λ f. fold (λ f s. fuller f s (held s)) f xs) (full-again before place (held place)) ∙ fold-at held place xs before all.1

one-step : (held : ℕ → ℕ) (place : ℕ) (xs : List ℕ) (before : Fullest) → AllByRecursion (λ s. s ≡ place) xs →
    (xs ≡ [] → held place ≤ before.most) → fuller before place (held place) ≡ fold (λ f s. fuller f s (held s)) before xs
one-step held place [] before all few = rw (not-below before.most (held place) (few refl)) refl
one-step held place (x ∷ xs) before all few =
    sym (ap (λ s. fold (λ f s. fuller f s (held s)) (fuller before s (held s)) xs) all.0 ∙ fold-at held place xs before all.1)

most-so-far : (es : List Entry) (all : List Told) (p : Port) (n : ℕ) → IsFrom 0 all → held_by es all p n ≤ (fullest es all p n).most
most-so-far es all p zero so = rw (none-before 0 all so) zero-le
most-so-far es all p (suc n) so = by (nat_lt (fullest es all p n).most (held_by es all p (suc n))) refl
  where
    by : (b : Bool) → nat_lt (fullest es all p n).most (held_by es all p (suc n)) ≡ b →
        held_by es all p (suc n) ≤ (cond b (record { most = held_by es all p (suc n); place = n }) (fullest es all p n)).most
    by true e = omega arith
    by false e = past (fullest es all p n).most (held_by es all p (suc n)) e

-- a step by which no value was sent leaves no more than there was
more-moved : (pick : Option Case → Outcome → Option Value) (es : List Entry) (all : List Told) (n : ℕ) → IsFrom 0 all →
    filter_map (moved_by pick es) (told_by (suc n) all)
    ≡ filter_map (moved_by pick es) (told_by n all) ++ filter_map (moved_by pick es) (came_by n all)
more-moved pick es all n so =
    ap (filter_map (moved_by pick es)) (step-parts n 0 all so) ∙ filter_map-append (moved_by pick es) (told_by n all) (came_by n all)

no-more : (es : List Entry) (all : List Told) (p : Port) (n : ℕ) → IsFrom 0 all → moved_by_steps (sends es (came_by n all) p) ≡ [] →
    held_by es all p (n + 1) ≤ (fullest es all p n).most
no-more es all p n so none =
    let few : held_by es all p n ≤ (fullest es all p n).most = most-so-far es all p n so in
    let sent : sent_by es all p (suc n) ≡ sent_by es all p n + length (sends es (came_by n all) p) =
    ap length (more-moved (sent_on p) es all n so) ∙ length-append (sends es (told_by n all) p) (sends es (came_by n all) p) in
    let received : received_by es all p (suc n) ≡ received_by es all p n + length (receives es (came_by n all) p) =
    ap length (more-moved (got_on p) es all n so) ∙ length-append (receives es (told_by n all) p) (receives es (came_by n all) p) in
    let no-send : length (sends es (came_by n all) p) ≡ 0 =
    sym (length-map (sends es (came_by n all) p) (λ m. m.told.by)) ∙ ap length none in
    subst (λ k. held_by es all p k ≤ (fullest es all p n).most) (sym (add-one n)) (omega (arith, few, sent, received, no-send))

-- ---- so the steps of the sends tell it
fullest-sends : (es : List Entry) (all : List Told) (p : Port) (n : ℕ) → IsFrom 0 all →
    fullest es all p n ≡ fold (λ f s. fuller f s (held_by es all p (s + 1))) never_filled (moved_by_steps (sends es (told_by n all) p))
fullest-sends es all p zero so =
    sym (ap (λ l. fold (λ f s. fuller f s (held_by es all p (s + 1))) never_filled (moved_by_steps (sends es l p))) (none-before 0 all so))
fullest-sends es all p (suc n) so =
    let took : Fullest → ℕ → Fullest = λ f s. fuller f s (held_by es all p (s + 1)) in
    let earlier = moved_by_steps (sends es (told_by n all) p) in
    let now = moved_by_steps (sends es (came_by n all) p) in
    let parts : moved_by_steps (sends es (told_by (suc n) all) p) ≡ earlier ++ now =
    ap moved_by_steps (more-moved (sent_on p) es all n so) ∙ map-append (λ (m : Moved). m.told.by) (sends es (told_by n all) p) (sends es (came_by n all) p) in
    ap (λ k. fuller (fullest es all p n) n (held_by es all p k)) (sym (add-one n))
    ∙ one-step (λ s. held_by es all p (s + 1)) n now (fullest es all p n) (came-at (sent_on p) es n all) (no-more es all p n so)
    ∙ ap (λ f. fold took f now) (fullest-sends es all p n so) ∙ sym (fold-append took never_filled earlier now)
    ∙ ap (fold took never_filled) (sym parts)

same-fold : {A B : Type 0} (f g : B → A → B) → ((b : B) (x : A) → f b x ≡ g b x) → (b : B) (xs : List A) → fold f b xs ≡ fold g b xs
same-fold f g same b [] = refl
same-fold f g same b (x ∷ xs) = same-fold f g same (f b x) xs ∙ ap (λ c. fold g c xs) (same b x)

pub fullest-is : (es : List Entry) (all : List Told) (p : Port) (n : ℕ) → IsFrom 0 all → told_by n all ≡ all →
    fullest_of (moved_by_steps (sends es all p)) (moved_by_steps (receives es all p)) ≡ fullest es all p n
fullest-is es all p n so whole =
    let sent = moved_by_steps (sends es all p) in
    let received = moved_by_steps (receives es all p) in
    same-fold (fuller_by sent received) (λ f s. fuller f s (held_by es all p (s + 1)))
    (λ f s.
    ap (λ k. fuller f s (k - count_below (s + 1) received)) (steps-told (sent_on p) es (s + 1) all)
    ∙ ap (λ k. fuller f s (sent_by es all p (s + 1) - k)) (steps-told (got_on p) es (s + 1) all))
    never_filled sent
    ∙ sym (fullest-sends es all p n so
    ∙ ap (λ l. fold (λ f s. fuller f s (held_by es all p (s + 1))) never_filled (moved_by_steps (sends es l p))) whole)
