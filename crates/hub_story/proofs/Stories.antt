-- The values of the sends and receives that are told are the values sent and received.
use Rattle.std.proofs.Common.{◌≡◌, ℕ, zero, suc, ◌+◌, ◌==◌, Bool, true, false, cond, List, [], ◌∷◌, ◌++◌, length, map, refl, ap, ◌∙◌, sym, Option, Some, None}
use Rattle.std.proofs.Common.{append_assoc, add-one}
use Rattle.std.specs.Prelude.{slice_get}
use Rattle.std.specs.List.{filter_map, cons_option}
use Rattle.std.specs.Option.{option_map}
use Rattle.std.proofs.lemmas.List.{map-append}
use Rattle.std.proofs.lemmas.List.Elements.{filter_map-append}
use Rattle.hub_base.specs.declared.head.Head.{Head}
use Rattle.hub_base.specs.declared.value.Pid.{Pid}
use Rattle.hub_base.specs.declared.value.Value.{Value}
use Rattle.hub_base.specs.declared.case.Case.{Case}
use Rattle.hub_base.specs.Entry.{Entry, Step}
use Rattle.hub_base.specs.declared.entry.Step.TheVariants.{Make, Call, Close, Exit, Cancel, Start, Reopen}
use Rattle.hub_base.specs.declared.event.Outcome.{Outcome}
use Rattle.hub_base.specs.declared.event.What.{What}
use Rattle.hub_base.specs.declared.event.What.TheVariants as what
use Rattle.hub_base.specs.declared.event.Event.{Event}
use Rattle.hub_base.specs.State.{State, opening}
use Rattle.hub_base.specs.Runs.{moves}
use Rattle.hub_base.specs.Values.{cases_at, Turned, turns_after, refused, cases_or, latest, last_call, of_what, sent_on, got_on, values_from}
use Rattle.hub_story.specs.declared.told.Told.{Told}
use Rattle.hub_story.specs.declared.moved.Moved.{Moved}
use Rattle.hub_story.specs.Told.{may_end, call_or, latest_asked, last_asked, tells_it, told_from}
use Rattle.hub_story.specs.Passing.{moved_by}
use Rattle.hub_story.specs.Laws.{SendsLaw}

-- ---- where the entries of turns stand

-- the entries of these turns stand in that list, from this place on
abbrev pub Stand : List Entry → ℕ → List Turned → Type 0
Stand es place [] = Unit {0}
Stand es place (t ∷ ts) = (slice_get es place ≡ Some t.entry) × Stand es (place + 1) ts

get-later : {A : Type 0} (x : A) (xs : List A) (i : ℕ) → slice_get (x ∷ xs) (i + 1) ≡ slice_get xs i
get-later x xs i = rw add-one refl

get-more : {A : Type 0} (xs ys : List A) (i : ℕ) (x : A) → slice_get xs i ≡ Some x → slice_get (xs ++ ys) i ≡ Some x
get-more [] ys i x h = absurd cc
get-more (y ∷ xs) ys zero x h = h
get-more (y ∷ xs) ys (suc i) x h = get-more xs ys i x h

stand-later : (e : Entry) (es : List Entry) (place : ℕ) (ts : List Turned) → Stand es place ts → Stand (e ∷ es) (place + 1) ts
stand-later e es place [] h = tt
stand-later e es place (t ∷ ts) h = (get-later e es place ∙ h.0, stand-later e es (place + 1) ts h.1)

-- the turns of a run stand in its entries
pub stand-turns : (s : State) (es : List Entry) → Stand es 0 (turns_after s es)
stand-turns s [] = tt
stand-turns s (e ∷ es) = (refl, stand-later e es 0 (turns_after (moves s e).state es) (stand-turns (moves s e).state es))

pub stand-more : (es fs : List Entry) (place : ℕ) (ts : List Turned) → Stand es place ts → Stand (es ++ fs) place ts
stand-more es fs place [] h = tt
stand-more es fs place (t ∷ ts) h = (get-more es fs place t.entry h.0, stand-more es fs (place + 1) ts h.1)

stand-first : (es : List Entry) (place : ℕ) (ts us : List Turned) → Stand es place (ts ++ us) → Stand es place ts
stand-first es place [] us h = tt
stand-first es place (t ∷ ts) us h = (h.0, stand-first es (place + 1) ts us h.1)

-- ---- the last call

-- the cases of a call, where there is one
abbrev cases_of : List Entry → Option ℕ → List Case
cases_of es None = []
cases_of es (Some place) = cases_at es place

pub at-cases : (es : List Entry) (place : ℕ) (e : Entry) → slice_get es place ≡ Some e → cases_at es place ≡ cases_or e.step []
at-cases es place e h = rw h refl

call-cases : (es : List Entry) (place : ℕ) (e : Entry) (before : Option ℕ) → slice_get es place ≡ Some e →
    cases_of es (call_or e.step (Some place) before) ≡ cases_or e.step (cases_of es before)
call-cases es place e before here = by e.step refl
  where
    by : (st : Step) → e.step ≡ st →
        cases_of es (call_or st (Some place) before) ≡ cases_or st (cases_of es before)
    by (Make room) h = refl
    by (Call cases default word) h = at-cases es place e here ∙ ap (λ (x : Step). cases_or x []) h
    by (Close p) h = refl
    by Exit h = refl
    by (Cancel q) h = refl
    by (Start q) h = refl
    by (Reopen p cap) h = refl

-- the last call has the cases that the definition of values takes
latest-cases : (es : List Entry) (pid : Pid) (place : ℕ) (before : Option ℕ) (t : Turned) → slice_get es place ≡ Some t.entry →
    cases_of es (latest_asked pid place before t) ≡ latest pid (cases_of es before) t
latest-cases es pid place before t here = by (t.entry.pid.0 == pid.0) (refused t.events)
  where
    now : Option ℕ
    now = call_or t.entry.step (Some place) before

    by : (own bad : Bool) →
        cases_of es (cond own (cond bad before now) before)
        ≡ cond own (cond bad (cases_of es before) (cases_or t.entry.step (cases_of es before))) (cases_of es before)
    by false bad = refl
    by true true = refl
    by true false = call-cases es place t.entry before here

pub last-cases : (es : List Entry) (pid : Pid) (place : ℕ) (before : Option ℕ) (ts : List Turned) → Stand es place ts →
    cases_of es (last_asked pid place before ts) ≡ last_call pid (cases_of es before) ts
last-cases es pid place before [] stand = refl
last-cases es pid place before (t ∷ ts) stand =
    last-cases es pid (place + 1) (latest_asked pid place before t) ts stand.1
    ∙ ap (λ cs. last_call pid cs ts) (latest-cases es pid place before t stand.0)

-- ---- values

-- the value that is told so, where something is told
abbrev value_in : (Option Case → Outcome → Option Value) → List Entry → Option Told → Option Value
value_in pick es None = None
value_in pick es (Some t) = of_what pick (cases_at es t.asked) t.event.what

event-value : (pick : Option Case → Outcome → Option Value) → ((o : Outcome) → pick None o ≡ None) →
    (es : List Entry) (before : List Turned) (t : Turned) (e : Event) → Stand es 0 (before ++ t ∷ []) →
    value_in pick es (tells_it before t e) ≡ of_what pick (last_call e.pid [] (before ++ t ∷ [])) e.what
event-value pick none es before t e stand = by e.what refl
  where
    tell : ℕ → Told
    tell a = record { asked = a; by = length before; event = e }

    last : Option ℕ
    last = last_asked e.pid 0 None (before ++ t ∷ [])

    fires : (i : ℕ) (o : Outcome) → e.what ≡ what.Fired i o → (a : Option ℕ) →
        value_in pick es (option_map tell a) ≡ pick (slice_get (cases_of es a) i) o
    fires i o h None = sym (none o)
    fires i o h (Some a) = rw h refl

    ends : (w : What) → of_what pick [] w ≡ None → e.what ≡ w → ((cases : List Case) → of_what pick cases w ≡ None) → (a : Option ℕ) →
        value_in pick es (option_map tell a) ≡ None
    ends w quiet h silent None = refl
    ends w quiet h silent (Some a) = rw h (silent (cases_at es a))

    by : (w : What) → e.what ≡ w →
        value_in pick es (option_map tell (cond (may_end w) last (Some (length before))))
        ≡ of_what pick (last_call e.pid [] (before ++ t ∷ [])) w
    by (what.Fired i o) h =
        fires i o h last ∙ ap (λ cs. pick (slice_get cs i) o) (last-cases es e.pid 0 None (before ++ t ∷ []) stand)
    by what.Stalled h = ends what.Stalled refl h (λ cases. refl) last
    by what.Cancelled h = ends what.Cancelled refl h (λ cases. refl) last
    by (what.Made p) h = rw h refl
    by what.Default h = rw h refl
    by what.Done h = rw h refl
    by what.Parked h = rw h refl
    by (what.Fault f) h = rw h refl

abbrev pub values : (Option Case → Outcome → Option Value) → List Entry → List Told → List Value
values pick es ts = map (λ m. m.value) (filter_map (moved_by pick es) ts)

cons-values : (pick : Option Case → Outcome → Option Value) (es : List Entry) (o : Option Told) (ts : List Told) →
    values pick es (cons_option o ts) ≡ cons_option (value_in pick es o) (values pick es ts)
cons-values pick es None ts = refl
cons-values pick es (Some t) ts = by (of_what pick (cases_at es t.asked) t.event.what)
  where
    by : (v : Option Value) →
        map (λ (m : Moved). m.value) (cons_option (option_map (λ v. record { told = t; value = v }) v) (filter_map (moved_by pick es) ts))
        ≡ cons_option v (values pick es ts)
    by None = refl
    by (Some v) = refl

turn-values : (pick : Option Case → Outcome → Option Value) → ((o : Outcome) → pick None o ≡ None) →
    (es : List Entry) (before : List Turned) (t : Turned) (xs : List Event) → Stand es 0 (before ++ t ∷ []) →
    values pick es (filter_map (tells_it before t) xs)
    ≡ filter_map (λ e. of_what pick (last_call e.pid [] (before ++ t ∷ [])) e.what) xs
turn-values pick none es before t [] stand = refl
turn-values pick none es before t (x ∷ xs) stand =
    cons-values pick es (tells_it before t x) (filter_map (tells_it before t) xs)
    ∙ ap (λ o. cons_option o (values pick es (filter_map (tells_it before t) xs))) (event-value pick none es before t x stand)
    ∙ ap (cons_option (of_what pick (last_call x.pid [] (before ++ t ∷ [])) x.what)) (turn-values pick none es before t xs stand)

values-append : (pick : Option Case → Outcome → Option Value) (es : List Entry) (xs ys : List Told) →
    values pick es (xs ++ ys) ≡ values pick es xs ++ values pick es ys
values-append pick es xs ys =
    ap (map (λ m. m.value)) (filter_map-append (moved_by pick es) xs ys)
    ∙ map-append (λ m. m.value) (filter_map (moved_by pick es) xs) (filter_map (moved_by pick es) ys)

move : {A : Type 0} (P : A → Type 0) {x y : A} → x ≡ y → P x → P y
move P e h = rw (sym e) h

told-values : (pick : Option Case → Outcome → Option Value) → ((o : Outcome) → pick None o ≡ None) →
    (es : List Entry) (before ts : List Turned) → Stand es 0 (before ++ ts) → values pick es (told_from before ts) ≡ values_from pick before ts
told-values pick none es before [] stand = refl
told-values pick none es before (t ∷ ts) stand =
    values-append pick es (filter_map (tells_it before t) t.events) (told_from (before ++ t ∷ []) ts)
    ∙ ap (λ vs. vs ++ values pick es (told_from (before ++ t ∷ []) ts))
    (turn-values pick none es before t t.events (stand-first es 0 (before ++ t ∷ []) ts longer))
    ∙ ap (λ vs. filter_map (λ e. of_what pick (last_call e.pid [] (before ++ t ∷ [])) e.what) t.events ++ vs)
    (told-values pick none es (before ++ t ∷ []) ts longer)
  where
    longer : Stand es 0 ((before ++ t ∷ []) ++ ts)
    longer = move (Stand es 0) (sym (append_assoc before (t ∷ []) ts)) stand

-- what is told of a run tells its values in each list of entries that it stands in
pub values-told : (pick : Option Case → Outcome → Option Value) → ((o : Outcome) → pick None o ≡ None) →
    (es : List Entry) (ts : List Turned) → Stand es 0 ts → values pick es (told_from [] ts) ≡ values_from pick [] ts
values-told pick none es ts stand = told-values pick none es [] ts stand

pub sends-law : (h : Head) (es : List Entry) → SendsLaw h es
sends-law h es =
    record {
      sent = λ p. values-told (sent_on p) (λ o. refl) es (turns_after (opening h) es) (stand-turns (opening h) es);
      received = λ p. values-told (got_on p) (λ o. refl) es (turns_after (opening h) es) (stand-turns (opening h) es);
    }
