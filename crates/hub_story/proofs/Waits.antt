-- Who waits by what is told, and who waits by the state: entry by entry the same.
use Rattle.std.proofs.Common.{◌≤◌, ◌≡◌, ◌<◌, ◌+◌, ◌==◌, ◌&&◌, ℕ, Bool, true, false, cond, not, List, [], ◌∷◌, ◌++◌, length, map, filter}
use Rattle.std.proofs.Common.{suc, refl, ap, ◌∙◌, sym, subst, Option, Some, None, arith, is_some, append-nil, append_assoc, length-append, inl, inr, ◌⊎◌}
use Rattle.std.specs.Prelude.{slice_get}
use Rattle.std.specs.List.{AllByRecursion, filter_map}
use Rattle.std.specs.Option.{option_map, option_map_or}
use Rattle.std.proofs.lemmas.Bool.{or_parts}
use Rattle.std.proofs.lemmas.List.{map-append}
use Rattle.std.proofs.lemmas.List.Elements.{filter-append}
use Rattle.std.proofs.lemmas.Option.{same_Some}
use Rattle.hub_base.specs.declared.head.Head.{Head}
use Rattle.hub_base.specs.declared.value.Pid.{Pid}
use Rattle.hub_base.specs.declared.case.Case.{Case}
use Rattle.hub_base.specs.Entry.{Entry}
use Rattle.hub_base.specs.declared.event.Event.{Event}
use Rattle.hub_base.specs.State.{State, opening}
use Rattle.hub_base.specs.Steps.{tells}
use Rattle.hub_base.specs.Runs.{state, events, moves}
use Rattle.hub_base.specs.Values.{Turned, turns_after, refused, is_fault}
use Rattle.hub_base.proofs.Lists.{all_append, all_more}
use Rattle.hub_base.proofs.Growing.{filter-agrees}
use Rattle.hub_laws.specs.Answers.{ends_waiting}
use Rattle.hub_laws.specs.Replies.{is_parked, is_told}
use Rattle.hub_laws.specs.Sound.{is_among}
use Rattle.hub_laws.proofs.Account.{with_caller, call_of}
use Rattle.hub_laws.proofs.Calls.{all_kept, same_number, differ-sym}
use Rattle.hub_laws.proofs.Leaving.{events_of, event_of, leave-all}
use Rattle.hub_laws.proofs.Longer.{state-entry, events-entry}
use Rattle.hub_laws.proofs.Rules.{state-sound}
use Rattle.hub_story.specs.declared.told.Told.{Told}
use Rattle.hub_story.specs.Told.{asked_by, may_end, call_or, latest_asked, last_asked, tells_it, told, ends_it, end_of}
use Rattle.hub_story.specs.Waiting.{still_waiting, open_call}
use Rattle.hub_story.specs.Laws.{EndingLaw, EventsLaw, WaitingLaw}
use Rattle.hub_story.proofs.InTime.{turns-entry, told-entry}
use Rattle.hub_story.proofs.Stories.{Stand, at-cases, stand-turns, stand-more}
use Rattle.hub_story.proofs.Ending.{places-below}
use Rattle.hub_story.proofs.Tellings.{last_asked-entry, length-turns}
use Rattle.hub_story.proofs.Leavers.{leave-filter}
use Rattle.hub_story.proofs.Steps.{ended_by, opens, old-waits, new-waits, map-filter, Waiting, ended-told, Stepped, stepped}
use Rattle.hub_story.proofs.Steps.{told-whole, filter-none, find-none, events-end, ends-may, last-apart}
use Rattle.hub_story.proofs.Once.{leave-distinct, most-one, length-found, found-one, find-filter, filter-passes, all-map}

-- each event is told; those that wait by what is told are those that wait by the state, and of each its call is the last of
-- its process; and no entry has ended twice
pub record Waits (all : List Entry) (h : Head) (es : List Entry) : Type 0 where
  pub whole : map (λ t. t.event) (told h es) ≡ events h es
  pub calls : map (open_call all) (still_waiting (told h es)) ≡ (state h es).parked
  pub last : AllByRecursion (λ w. last_asked w.event.pid 0 None (turns_after (opening h) es) ≡ Some w.asked) (still_waiting (told h es))
  pub once : (place : ℕ) → length (filter (ends_it place) (told h es)) ≤ 1

abbrev event : Told → Event
event t = t.event

-- the processes of these calls
others-free : (all : List Entry) (q : ℕ) (ws : List Told) → is_among q (map (open_call all) ws) ≡ false → AllByRecursion (λ w. (q == w.event.pid.0) ≡ false) ws
others-free all q [] h = tt
others-free all q (w ∷ ws) h =
    let f = or_parts (w.event.pid.0 == q) (is_among q (map (open_call all) ws)) h in
    (differ-sym w.event.pid.0 q f.0, others-free all q ws f.1)

both : {A : Type 0} (P Q R : A → Type 0) → ((x : A) → P x → Q x → R x) → (xs : List A) → AllByRecursion P xs → AllByRecursion Q xs → AllByRecursion R xs
both P Q R f [] ps qs = tt
both P Q R f (x ∷ xs) ps qs = (f x ps.0 qs.0, both P Q R f xs ps.1 qs.1)

latest-refused : (pid : Pid) (place : ℕ) (before : Option ℕ) (t : Turned) → refused t.events ≡ true → latest_asked pid place before t ≡ before
latest-refused pid place before t bad = rw bad (by (t.entry.pid.0 == pid.0))
  where
    by : (b : Bool) → cond b before before ≡ before
    by true = refl
    by false = refl

latest-other : (pid : Pid) (place : ℕ) (before : Option ℕ) (t : Turned) → (t.entry.pid.0 == pid.0) ≡ false → latest_asked pid place before t ≡ before
latest-other pid place before t other = rw other refl

latest-mine : (place : ℕ) (before : Option ℕ) (t : Turned) → refused t.events ≡ false →
    ((now before : Option ℕ) → call_or t.entry.step now before ≡ now) → latest_asked t.entry.pid place before t ≡ Some place
latest-mine place before t fine calls = rw (same_number t.entry.pid.0, fine) (calls (Some place) before)

stand-last : (es : List Entry) (place : ℕ) (ts : List Turned) (t : Turned) → Stand es place (ts ++ t ∷ []) → slice_get es (place + length ts) ≡ Some t.entry
stand-last es place [] t h = let e : place + 0 ≡ place = omega arith in ap (slice_get es) e ∙ h.0
stand-last es place (x ∷ ts) t h =
    let e : place + suc (length ts) ≡ place + 1 + length ts = omega arith in
    ap (slice_get es) e ∙ stand-last es (place + 1) ts t h.1

-- one entry more
next-waits : (all : List Entry) (h : Head) (es : List Entry) (e : Entry) → Stand all 0 (turns_after (opening h) (es ++ e ∷ [])) →
    Waits all h es → Waits all h (es ++ e ∷ [])
next-waits all h es e stand waits =
    record {
      whole =
          ap (map event) grown ∙ map-append event (told h es) new ∙ ap (λ l. l ++ map event new) waits.whole
          ∙ ap (λ l. events h es ++ l) (told-whole ts t told_now (answer_asked, enders_asked) ∙ sym st.told) ∙ sym (events-entry h es e);
      calls =
          ap (λ l. map (open_call all) (still_waiting l)) grown ∙ ap (map (open_call all)) (waiting ∙ kept)
          ∙ map-filter (open_call all) (λ call. not (is_told call.pid.0 (events_of st.ended))) (sw ++ pn)
          ∙ ap (filter (λ call. not (is_told call.pid.0 (events_of st.ended)))) given
          ∙ sym (leave-filter st.ended (with_caller s.parked e.pid e.step st.answer) (moves s e).state.parked st.leaves st.apart)
          ∙ sym (ap (λ (x : State). x.parked) (state-entry h es e));
      last =
          subst (λ us. AllByRecursion (λ w. last_asked w.event.pid 0 None us ≡ Some w.asked) (still_waiting (told h (es ++ e ∷ [])))) (sym turned)
          (subst (λ l. AllByRecursion Last (still_waiting l)) (sym grown)
          (subst (AllByRecursion Last) (sym waiting)
          (all_kept Last (λ w. not (ended_by new w)) (sw ++ pn) (all_more Known Last (sw ++ pn) (λ w x. x.last) each))));
      once = λ place. subst (λ l. length (filter (ends_it place) l) ≤ 1) (sym grown) (single place);
    }
  where
    s : State
    s = state h es

    ts : List Turned
    ts = turns_after (opening h) es

    st : Stepped s e (moves s e)
    st = stepped s e (state-sound h es)

    told_now : List Event
    told_now = tells e.pid st.answer ∷ events_of st.ended

    t : Turned
    t = record { entry = e; events = told_now }

    new : List Told
    new = filter_map (tells_it ts t) told_now

    sw : List Told
    sw = still_waiting (told h es)

    pn : List Told
    pn = opens (length ts) e st.answer

    Known : Told → Type 0
    Known = Waiting all ts e st.answer st.ended

    Last : Told → Type 0
    Last w = last_asked w.event.pid 0 None (ts ++ t ∷ []) ≡ Some w.asked

    grown : told h (es ++ e ∷ []) ≡ told h es ++ new
    grown =
        told-entry h es e
        ∙ ap (λ (x : List Event). told h es ++ filter_map (tells_it ts (record { entry = e; events = x })) x) st.told

    turned : turns_after (opening h) (es ++ e ∷ []) ≡ ts ++ t ∷ []
    turned = turns-entry (opening h) es e ∙ ap (λ (x : List Event). ts ++ record { entry = e; events = x } ∷ []) st.told

    stands : Stand all 0 (ts ++ t ∷ [])
    stands = rw turned at stand

    below : AllByRecursion (λ x. x.asked < length ts) (told h es)
    below = rw (sym (length-turns (opening h) es)) at (places-below h es)

    here : slice_get all (length ts) ≡ Some e
    here = let z : length ts ≡ 0 + length ts = omega arith in ap (slice_get all) z ∙ stand-last all 0 ts t stands

    mine : (is_fault st.answer ≡ false) × ((now before : Option ℕ) → call_or e.step now before ≡ now) →
        last_asked e.pid 0 None (ts ++ t ∷ []) ≡ Some (length ts)
    mine calls =
        let z : 0 + length ts ≡ length ts = omega arith in
        last_asked-entry e.pid 0 None ts t ∙ latest-mine (0 + length ts) (last_asked e.pid 0 None ts) t calls.0 calls.1 ∙ ap Some z

    -- a call that waited is still the last of its process
    same_last : AllByRecursion (λ w. latest_asked w.event.pid (0 + length ts) (last_asked w.event.pid 0 None ts) t ≡ last_asked w.event.pid 0 None ts) sw
    same_last =
        elim st.other [
          | inl bad ↦ all_more (λ w. last_asked w.event.pid 0 None ts ≡ Some w.asked) _ sw
              (λ w k. latest-refused w.event.pid (0 + length ts) (last_asked w.event.pid 0 None ts) t bad) waits.last
          | inr free ↦ all_more (λ w. (e.pid.0 == w.event.pid.0) ≡ false) _ sw
              (λ w k. latest-other w.event.pid (0 + length ts) (last_asked w.event.pid 0 None ts) t k)
              (others-free all e.pid.0 sw (ap (is_among e.pid.0) waits.calls ∙ free))
        ]

    olds : AllByRecursion Known sw
    olds =
        both (λ w. last_asked w.event.pid 0 None (ts ++ t ∷ []) ≡ Some w.asked) (λ w. w.asked < length ts) Known
        (λ w k b. record { last = k; place = inl b }) sw
        (both (λ w. latest_asked w.event.pid (0 + length ts) (last_asked w.event.pid 0 None ts) t ≡ last_asked w.event.pid 0 None ts)
        (λ w. last_asked w.event.pid 0 None ts ≡ Some w.asked) Last
        (λ w a b. last_asked-entry w.event.pid 0 None ts t ∙ a ∙ b) sw same_last waits.last)
        (all_kept (λ w. w.asked < length ts) (λ x. is_parked x.event.what && not (is_some (end_of (told h es) x.asked))) (told h es) below)

    news : AllByRecursion Known pn
    news = by (is_parked st.answer) refl
      where
        by : (b : Bool) → b ≡ is_parked st.answer →
            AllByRecursion Known (cond b (record { asked = length ts; by = length ts; event = tells e.pid st.answer } ∷ []) [])
        by true is = (record { last = mine (st.called (inl (sym is))); place = inr (sym is) }, tt)
        by false is = tt

    each : AllByRecursion Known (sw ++ pn)
    each = all_append Known sw pn olds news

    waiting : still_waiting (told h es ++ new) ≡ filter (λ w. not (ended_by new w)) (sw ++ pn)
    waiting =
        filter-append (λ x. is_parked x.event.what && not (is_some (end_of (told h es ++ new) x.asked))) (told h es) new
        ∙ ap (λ l. l ++ filter (λ x. is_parked x.event.what && not (is_some (end_of (told h es ++ new) x.asked))) new) (old-waits (told h es) new)
        ∙ ap (λ l. filter (λ w. not (ended_by new w)) sw ++ l) (new-waits (told h es) ts e st.answer st.ended below st.ends)
        ∙ sym (filter-append (λ w. not (ended_by new w)) sw pn)

    kept : filter (λ w. not (ended_by new w)) (sw ++ pn) ≡ filter (λ w. not (is_told w.event.pid.0 (events_of st.ended))) (sw ++ pn)
    kept =
        filter-agrees Known (λ w. not (ended_by new w)) (λ w. not (is_told w.event.pid.0 (events_of st.ended)))
        (λ w known. ap (λ b. not b) (ended-told all ts e st.answer st.ended w stands (λ h. mine (st.called (inr h))) st.ends known)) (sw ++ pn) each

    given : map (open_call all) (sw ++ pn) ≡ with_caller s.parked e.pid e.step st.answer
    given = map-append (open_call all) sw pn ∙ ap (λ l. l ++ map (open_call all) pn) waits.calls ∙ by (is_parked st.answer)
      where
        by : (b : Bool) →
            s.parked ++ map (open_call all) (cond b (record { asked = length ts; by = length ts; event = tells e.pid st.answer } ∷ []) [])
            ≡ cond b (s.parked ++ call_of e.pid e.step ∷ []) s.parked
        by true = ap (λ (cs : List Case). s.parked ++ record { pid = e.pid; cases = cs } ∷ []) (at-cases all (length ts) e here)
        by false = append-nil s.parked

    -- what holds of the processes that wait, or wait now, holds of those whose calls end
    of_enders : (P : Pid → Type 0) → AllByRecursion (λ w. P w.event.pid) (sw ++ pn) → AllByRecursion (λ x. P x.pid) (events_of st.ended)
    of_enders P holds =
        all-map (λ x. P x.pid) event_of st.ended
        (leave-all (λ call. P call.pid) st.ended (with_caller s.parked e.pid e.step st.answer) (moves s e).state.parked st.leaves
        (subst (AllByRecursion (λ call. P call.pid)) given (all-map (λ call. P call.pid) (open_call all) (sw ++ pn) holds))).0

    -- ---- each event is told
    Asked : Event → Type 0
    Asked x = (a : ℕ) × (asked_by ts t x ≡ Some a)

    answer_asked : Asked (tells e.pid st.answer)
    answer_asked = (length ts, by (may_end st.answer) refl)
      where
        by : (b : Bool) → b ≡ may_end st.answer → cond b (last_asked e.pid 0 None (ts ++ t ∷ [])) (Some (length ts)) ≡ Some (length ts)
        by true is = mine (st.called (inr (sym is)))
        by false is = refl

    enders_asked : AllByRecursion Asked (events_of st.ended)
    enders_asked =
        both (λ x. ends_waiting x.what ≡ true) (λ x. (a : ℕ) × (last_asked x.pid 0 None (ts ++ t ∷ []) ≡ Some a)) Asked
        (λ x m k. (k.0, ap (λ b. cond b (last_asked x.pid 0 None (ts ++ t ∷ [])) (Some (length ts))) (ends-may x.what m).0 ∙ k.1))
        (events_of st.ended) (events-end st.ended st.ends)
        (of_enders (λ pid. (a : ℕ) × (last_asked pid 0 None (ts ++ t ∷ []) ≡ Some a))
        (all_more Known (λ w. (a : ℕ) × (last_asked w.event.pid 0 None (ts ++ t ∷ []) ≡ Some a)) (sw ++ pn) (λ w k. (w.asked, k.last)) each))

    -- ---- no entry ends twice
    -- a process whose last call is this has not been told of its end; and its call is older, or waits
    Unended : Pid → Type 0
    Unended pid =
        (a : ℕ) → last_asked pid 0 None (ts ++ t ∷ []) ≡ Some a → (end_of (told h es) a ≡ None) × (a < length ts ⊎ is_parked st.answer ≡ true)

    not_here : AllByRecursion (λ (x : Told). ends_it (length ts) x ≡ false) (told h es)
    not_here =
        all_more (λ (x : Told). x.asked < length ts) (λ (x : Told). ends_it (length ts) x ≡ false) (told h es)
        (λ x b. apart x.asked (length ts) (not (is_parked x.event.what)) b) below
      where
        apart : (a b : ℕ) (c : Bool) → a < b → ((a == b) && c) ≡ false
        apart a b c h = grind arith

    none_there : filter (ends_it (length ts)) (told h es) ≡ []
    none_there = filter-none (ends_it (length ts)) (told h es) not_here

    not_ended : AllByRecursion (λ (w : Told). end_of (told h es) w.asked ≡ None) (sw ++ pn)
    not_ended =
        all_append (λ (w : Told). end_of (told h es) w.asked ≡ None) sw pn
        (all_more (λ (x : Told). (is_parked x.event.what && not (is_some (end_of (told h es) x.asked))) ≡ true)
        (λ (w : Told). end_of (told h es) w.asked ≡ None) sw (λ x p. unended_by (is_parked x.event.what) (end_of (told h es) x.asked) p)
        (filter-passes (λ (x : Told). is_parked x.event.what && not (is_some (end_of (told h es) x.asked))) (told h es)))
        (by (is_parked st.answer))
      where
        unended_by : (b : Bool) (o : Option Told) → (b && not (is_some o)) ≡ true → o ≡ None
        unended_by b None h = refl
        unended_by true (Some x) h = absurd cc
        unended_by false (Some x) h = absurd cc

        by : (b : Bool) → AllByRecursion (λ (w : Told). end_of (told h es) w.asked ≡ None)
            (cond b (record { asked = length ts; by = length ts; event = tells e.pid st.answer } ∷ []) [])
        by true = (find-none (ends_it (length ts)) (told h es) not_here, tt)
        by false = tt

    unended : AllByRecursion (λ w. Unended w.event.pid) (sw ++ pn)
    unended =
        both Known (λ w. end_of (told h es) w.asked ≡ None) (λ w. Unended w.event.pid)
        (λ w known none a is.
        let same : w.asked ≡ a = same_Some _ _ (sym known.last ∙ is) in
        (ap (end_of (told h es)) (sym same) ∙ none, subst (λ k. k < length ts ⊎ is_parked st.answer ≡ true) same known.place))
        (sw ++ pn) each not_ended

    Ends : Event → Type 0
    Ends x = (ends_waiting x.what ≡ true) × Unended x.pid

    enders : AllByRecursion Ends (events_of st.ended)
    enders =
        both (λ x. ends_waiting x.what ≡ true) (λ x. Unended x.pid) Ends (λ x a b. (a, b)) (events_of st.ended) (events-end st.ended st.ends)
        (of_enders Unended unended)

    hits : ℕ → Event → Bool
    hits place x = option_map_or (ends_it place) (tells_it ts t x) false

    -- such an event ends the last call of its process
    hit-last : (place : ℕ) (x : Event) → ends_waiting x.what ≡ true → hits place x ≡ true → last_asked x.pid 0 None (ts ++ t ∷ []) ≡ Some place
    hit-last place x ends hit =
        by (last_asked x.pid 0 None (ts ++ t ∷ []))
        (sym (ap (λ b. option_map_or (ends_it place) (option_map tell (cond b (last_asked x.pid 0 None (ts ++ t ∷ [])) (Some (length ts)))) false)
        (ends-may x.what ends).0) ∙ hit)
      where
        tell : ℕ → Told
        tell a = record { asked = a; by = length ts; event = x }

        number : (a b : ℕ) (c : Bool) → ((a == b) && c) ≡ true → a ≡ b
        number a b c h = grind arith

        by : (o : Option ℕ) → option_map_or (ends_it place) (option_map tell o) false ≡ true → o ≡ Some place
        by None h = absurd cc
        by (Some a) h = ap Some (number a place (not (is_parked x.what)) h)

    -- and the answer its own entry
    answer-hit : (place : ℕ) → hits place (tells e.pid st.answer) ≡ true → (length ts ≡ place) × (is_parked st.answer ≡ false)
    answer-hit place hit = by (may_end st.answer) refl hit
      where
        tell : ℕ → Told
        tell a = record { asked = a; by = length ts; event = tells e.pid st.answer }

        parts : (a b : ℕ) (c : Bool) → ((a == b) && not c) ≡ true → (a ≡ b) × (c ≡ false)
        parts a b true h = absurd (let g = h in grind arith)
        parts a b false h = (grind arith, refl)

        by : (b : Bool) → b ≡ may_end st.answer →
            option_map_or (ends_it place) (option_map tell (cond b (last_asked e.pid 0 None (ts ++ t ∷ [])) (Some (length ts)))) false ≡ true →
            (length ts ≡ place) × (is_parked st.answer ≡ false)
        by false is h = parts (length ts) place (is_parked st.answer) h
        by true is h =
            parts (length ts) place (is_parked st.answer)
            (sym (ap (λ o. option_map_or (ends_it place) (option_map tell o) false) (mine (st.called (inr (sym is))))) ∙ h)

    single : (place : ℕ) → length (filter (ends_it place) (told h es ++ new)) ≤ 1
    single place =
        let parts : length (filter (ends_it place) (told h es ++ new)) ≡ length (filter (ends_it place) (told h es)) + length (filter (ends_it place) new) =
        ap length (filter-append (ends_it place) (told h es) new) ∙ length-append (filter (ends_it place) (told h es)) (filter (ends_it place) new) in
        let found : length (filter (ends_it place) new) ≡ length (filter (hits place) told_now) = length-found (ends_it place) (tells_it ts t) told_now in
        let few = most-one (hits place) Ends (λ x y ex ey hx hy.
        last-apart all x.pid y.pid (ts ++ t ∷ []) place stands (hit-last place x ex.0 hx) (hit-last place y ey.0 hy)) st.ended
        (leave-distinct st.ended (with_caller s.parked e.pid e.step st.answer) (moves s e).state.parked st.leaves st.apart) enders in
        let counted = by (hits place (tells e.pid st.answer)) refl (waits.once place) few (found-one (hits place) Ends (events_of st.ended) enders) in
        omega (arith, parts, found, counted)
      where
        others : List Event
        others = filter (hits place) (events_of st.ended)

        by : (b : Bool) → b ≡ hits place (tells e.pid st.answer) → length (filter (ends_it place) (told h es)) ≤ 1 → length others ≤ 1 →
            (length others ≡ 0) ⊎ ((x : Event) × (hits place x ≡ true) × Ends x) →
            length (filter (ends_it place) (told h es)) + length (cond b (tells e.pid st.answer ∷ others) others) ≤ 1
        by false is old few (inl none) = omega (arith, none, old)
        by false is old few (inr x) =
            let empty = find-filter (ends_it place) (told h es) (x.2.1 place (hit-last place x.0 x.2.0 x.1)).0 in
            omega (arith, few, ap length empty)
        by true is old few (inl none) =
            let own = answer-hit place (sym is) in
            let empty : filter (ends_it place) (told h es) ≡ [] = subst (λ k. filter (ends_it k) (told h es) ≡ []) own.0 none_there in
            omega (arith, none, ap length empty)
        by true is old few (inr x) =
            let own = answer-hit place (sym is) in
            absurd (elim (x.2.1 place (hit-last place x.0 x.2.0 x.1)).1 [
              | inl older ↦ let number = own.0 in omega (arith, older, number)
              | inr parked ↦ (let g : true ≡ false = sym parked ∙ own.1 in cc)
            ])

waits-from : (h : Head) (es fs : List Entry) → Waits (es ++ fs) h es → Waits (es ++ fs) h (es ++ fs)
waits-from h es [] before = subst (λ l. Waits (es ++ []) h l) (sym (append-nil es)) before
waits-from h es (e ∷ fs) before =
    let further = waits-from h (es ++ e ∷ []) fs in
    let stand : Stand ((es ++ e ∷ []) ++ fs) 0 (turns_after (opening h) (es ++ e ∷ [])) =
    stand-more (es ++ e ∷ []) fs 0 (turns_after (opening h) (es ++ e ∷ [])) (stand-turns (opening h) (es ++ e ∷ [])) in
    rw (append_assoc es (e ∷ []) fs) at further (next-waits (es ++ e ∷ fs) h es e (rw (append_assoc es (e ∷ []) fs) at stand) before)

pub waiting-law : (h : Head) (es : List Entry) → WaitingLaw h es
waiting-law h es = (waits-from h [] es (record { whole = refl; calls = refl; last = tt; once = λ place. omega arith })).calls

-- each event is told
pub events-law : (h : Head) (es : List Entry) → EventsLaw h es
events-law h es = (waits-from h [] es (record { whole = refl; calls = refl; last = tt; once = λ place. omega arith })).whole

-- each entry has one end at most
pub ending-law : (h : Head) (es : List Entry) → EndingLaw h es
ending-law h es = (waits-from h [] es (record { whole = refl; calls = refl; last = tt; once = λ place. omega arith })).once
