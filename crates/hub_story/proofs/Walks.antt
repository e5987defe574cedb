-- One step more of a walk, and what comes by each step.
use Rattle.std.proofs.Common.{◌≡◌, ◌<◌, ◌+◌, ◌==◌, ℕ, Bool, true, false, List, [], ◌∷◌, ◌++◌, length, take, add-one, nat_lt}
use Rattle.std.proofs.Common.{get_or, refl, ap, ◌∙◌, sym, subst, arith, Option, Some, None}
use Rattle.std.specs.Prelude.{slice_get}
use Rattle.std.specs.List.{AllByRecursion, filter_map}
use Rattle.std.specs.Option.{option_map}
use Rattle.std.proofs.Math.Seq.{take-suc}
use Rattle.std.proofs.lemmas.Bool.{eq-eqb, eqb-true, lt-ltb, ltb-true}
use Rattle.std.proofs.lemmas.List.{length-take-le}
use Rattle.std.proofs.lemmas.List.Elements.{filter-append}
use Rattle.std.proofs.lemmas.Option.{get_or_from_slice_get, same_Some}
use Rattle.hub_base.specs.declared.head.Head.{Head}
use Rattle.hub_base.specs.Entry.{Entry}
use Rattle.hub_base.specs.declared.event.Event.{Event}
use Rattle.hub_base.specs.State.{opening}
use Rattle.hub_base.specs.Runs.{moves, state}
use Rattle.hub_base.specs.Values.{Turned, turns_after}
use Rattle.hub_core.specs.Records.{MachineLists}
use Rattle.hub_core.specs.Follows.{Answers, Follows}
use Rattle.hub_story.specs.declared.told.Told.{Told}
use Rattle.hub_story.specs.Told.{last_asked, latest_asked, tells_it, told}
use Rattle.hub_story.specs.LastCalls.{AreLast, asked_of, call_in, tells_of, with_call}
use Rattle.hub_story.specs.Levels.{came_by, told_by}
use Rattle.hub_story.proofs.Filling.{told_by-take}
use Rattle.hub_story.proofs.InTime.{all-any, all-given, told-entry, turn-by, turns-entry}
use Rattle.hub_story.proofs.Tellings.{all-same, call_in-with, last_asked-entry, length-turns, length-with_call}

-- ---- what comes by one step
-- those of this step only
pub all-came : (place : ℕ) (ts : List Told) → AllByRecursion (λ t. t.by ≡ place) ts → came_by place ts ≡ ts
all-came place [] all = refl
all-came place (t ∷ ts) all = rw (eq-eqb t.by place all.0) (ap (λ l. t ∷ l) (all-came place ts all.1))

-- nothing of it came before
none-earlier : (place : ℕ) (ts : List Told) → came_by place (told_by place ts) ≡ []
none-earlier place [] = refl
none-earlier place (t ∷ ts) = by (nat_lt t.by place) refl (t.by == place) refl (none-earlier place ts)
  where
    by : (b : Bool) → nat_lt t.by place ≡ b → (c : Bool) → (t.by == place) ≡ c → came_by place (told_by place ts) ≡ [] →
        came_by place (told_by place (t ∷ ts)) ≡ []
    by true e true f rest = absurd (omega (arith, ltb-true t.by place e, eqb-true t.by place f))
    by true e false f rest = rw (e, f) rest
    by false e c f rest = rw e rest

-- and all of it by then
all-by-then : (place : ℕ) (ts : List Told) → came_by place (told_by (place + 1) ts) ≡ came_by place ts
all-by-then place [] = refl
all-by-then place (t ∷ ts) = by (nat_lt t.by (place + 1)) refl (t.by == place) refl (all-by-then place ts)
  where
    by : (b : Bool) → nat_lt t.by (place + 1) ≡ b → (c : Bool) → (t.by == place) ≡ c → came_by place (told_by (place + 1) ts) ≡ came_by place ts →
        came_by place (told_by (place + 1) (t ∷ ts)) ≡ came_by place (t ∷ ts)
    by true e true f rest = rw (e, f) (ap (λ l. t ∷ l) rest)
    by true e false f rest = rw (e, f) rest
    by false e true f rest =
        let late : nat_lt t.by (place + 1) ≡ true = lt-ltb t.by (place + 1) (omega (arith, eqb-true t.by place f)) in
        absurd (let h : true ≡ false = sym late ∙ e in cc)
    by false e false f rest = rw (e, f) rest

pub came-is : (h : Head) (es : List Entry) (i : ℕ) (new : List Told) → told h (take (i + 1) es) ≡ told h (take i es) ++ new →
    AllByRecursion (λ t. t.by ≡ i) new → new ≡ came_by i (told h es)
came-is h es i new more all =
    sym (sym (all-by-then i (told h es)) ∙ ap (came_by i) (told_by-take h es (i + 1) ∙ more)
    ∙ filter-append (λ (t : Told). t.by == i) (told h (take i es)) new
    ∙ ap (λ l. came_by i l ++ came_by i new) (sym (told_by-take h es i)) ∙ ap (λ l. l ++ came_by i new) (none-earlier i (told h es))
    ∙ all-came i new all)

-- all that is told by then is what was told before, and that
pub came-more : (h : Head) (es : List Entry) (i : ℕ) (d : Entry) → i < length es →
    told_by (i + 1) (told h es) ≡ told_by i (told h es) ++ came_by i (told h es)
came-more h es i d below =
    let before : List Entry = take i es in
    let e : Entry = get_or es i d in
    let ts : List Turned = turns_after (opening h) before in
    let t : Turned = record { entry = e; events = (moves (state h before) e).events } in
    let new : List Told = filter_map (tells_it ts t) t.events in
    let many : length ts ≡ i = length-turns (opening h) before ∙ length-take-le i es (omega arith) in
    let more : told h (take (i + 1) es) ≡ told h before ++ new = ap (told h) (rw add-one (take-suc es i d below)) ∙ told-entry h before e in
    told_by-take h es (i + 1) ∙ more ∙ ap (λ l. l ++ new) (sym (told_by-take h es i))
    ∙ ap (λ l. told_by i (told h es) ++ l) (came-is h es i new more (subst (λ k. AllByRecursion (λ x. x.by ≡ k) new) many (turn-by ts t)))

-- ---- a walk
-- what it has behind one step more
pub record Next (h : Head) (es : List Entry) (i : ℕ) (now : List (Option ℕ)) (new : List Told) (m : MachineLists) : Type 0 where
  pub follows : Follows h (take (i + 1) es) m
  pub places : length now ≡ 256
  pub calls : AreLast now (turns_after (opening h) (take (i + 1) es))
  pub came : new ≡ came_by i (told h es)

-- all of it came by the step
told-by : (calls : List (Option ℕ)) (place : ℕ) (e : Event) (x : Told) → tells_of calls place e ≡ Some x → x.by ≡ place
told-by calls place e x = by (asked_of calls place e)
  where
    by : (o : Option ℕ) → option_map (λ a. record { asked = a; by = place; event = e }) o ≡ Some x → x.by ≡ place
    by None h = absurd cc
    by (Some a) h = ap (λ (x : Told). x.by) (sym (same_Some _ _ h))

all-by : (calls : List (Option ℕ)) (place : ℕ) (events : List Event) → AllByRecursion (λ x. x.by ≡ place) (filter_map (tells_of calls place) events)
all-by calls place events =
    all-given (λ e. ℕ) (λ x. x.by ≡ place) (tells_of calls place) (λ e x h any. told-by calls place e x h) events (all-any (λ e. ℕ) (λ e. 0) events)

pub one-further : (h : Head) (entries : List Entry) (i : ℕ) (e : Entry) (calls now : List (Option ℕ)) (came : List Told) (events : List Event)
    (m : MachineLists) → i < length entries → slice_get entries i ≡ Some e → length calls ≡ 256 → AreLast calls (turns_after (opening h) (take i entries)) →
    Answers h (take i entries) e m events → e.pid.0 < 256 → now ≡ with_call calls i (record { entry = e; events = events }) →
    came ≡ filter_map (tells_of now i) events → Next h entries i now came m
one-further h entries i e calls now came events m below here places was answers fits noted made =
    let es : List Entry = take i entries in
    let ts : List Turned = turns_after (opening h) es in
    let t : Turned = record { entry = e; events = events } in
    let whole : take (i + 1) entries ≡ es ++ e ∷ [] =
    rw add-one (take-suc entries i e below) ∙ ap (λ x. es ++ x ∷ []) (get_or_from_slice_get entries i e e here) in
    let at : length es ≡ i = length-take-le i entries (omega arith) in
    let many : length ts ≡ i = length-turns (opening h) es ∙ at in
    let grown : turns_after (opening h) (es ++ e ∷ []) ≡ ts ++ t ∷ [] =
    turns-entry (opening h) es e ∙ ap (λ (x : List Event). ts ++ record { entry = e; events = x } ∷ []) (sym answers.events) in
    let last : AreLast now (ts ++ t ∷ []) = λ pid.
    ap (λ l. call_in l pid) noted ∙ call_in-with calls i t pid (omega (arith, places))
    ∙ ap (λ b. latest_asked pid i b t) (was pid)
    ∙ ap (λ k. latest_asked pid k (last_asked pid 0 None ts) t) (omega (arith, many)) ∙ sym (last_asked-entry pid 0 None ts t) in
    let more : told h (es ++ e ∷ []) ≡ told h es ++ came =
    told-entry h es e
    ∙ ap (λ (x : List Event). told h es ++ filter_map (tells_it ts (record { entry = e; events = x })) x) (sym answers.events)
    ∙ ap (λ xs. told h es ++ xs) (sym (all-same now ts t events last))
    ∙ ap (λ k. told h es ++ filter_map (tells_of now k) events) many
    ∙ ap (λ xs. told h es ++ xs) (sym made) in
    record {
      follows = rw whole answers.follows;
      places = ap length noted ∙ length-with_call calls i t ∙ places;
      calls = rw (whole, grown) last;
      came = came-is h entries i came (rw whole more) (subst (AllByRecursion (λ x. x.by ≡ i)) (sym made) (all-by now i events));
    }
