-- One entry more of a telling.
use Rattle.std.proofs.Common.{◌≡◌, ◌<◌, ◌+◌, ◌==◌, ℕ, Bool, true, false, cond, List, [], ◌∷◌, ◌++◌, length, replicate, refl, ap, ◌∙◌, sym, Option, Some, None}
use Rattle.std.proofs.Common.{zero, suc, arith}
use Rattle.std.specs.Prelude.{slice_index_or}
use Rattle.std.specs.List.{filter_map, cons_option}
use Rattle.std.specs.Option.{option_map}
use Rattle.std.proofs.Math.ListN.{length-set, set}
use Rattle.std.proofs.lemmas.Bool.{eqb-true, eqb-false}
use Rattle.std.proofs.lemmas.List.{get_or-set_same, get_or-set_other}
use Rattle.hub_base.specs.declared.value.Pid.{Pid}
use Rattle.hub_base.specs.Entry.{Entry, Step}
use Rattle.hub_base.specs.declared.entry.Step.TheVariants.{Make, Call, Close, Exit, Cancel, Start, Reopen}
use Rattle.hub_base.specs.declared.event.Event.{Event}
use Rattle.hub_base.specs.State.{State}
use Rattle.hub_base.specs.Runs.{moves}
use Rattle.hub_base.specs.Values.{Turned, turns_after, refused}
use Rattle.hub_story.specs.declared.told.Told.{Told}
use Rattle.hub_story.specs.Told.{may_end, call_or, latest_asked, last_asked, tells_it}
use Rattle.hub_story.specs.LastCalls.{call_in, with_step, with_call, tells_of, AreLast}

-- ---- the last calls
pub last_asked-entry : (pid : Pid) (place : ℕ) (before : Option ℕ) (ts : List Turned) (t : Turned) →
    last_asked pid place before (ts ++ t ∷ []) ≡ latest_asked pid (place + length ts) (last_asked pid place before ts) t
last_asked-entry pid place before [] t = let e : place ≡ place + 0 = omega arith in ap (λ k. latest_asked pid k before t) e
last_asked-entry pid place before (x ∷ ts) t =
    let e : place + 1 + length ts ≡ place + suc (length ts) = omega arith in
    last_asked-entry pid (place + 1) (latest_asked pid place before x) ts t
    ∙ ap (λ k. latest_asked pid k (last_asked pid (place + 1) (latest_asked pid place before x) ts) t) e

-- a place written in a table of processes
pub table-set : (table : List (Option ℕ)) (q place n : ℕ) (own : Bool) → own ≡ (q == n) → q < length table →
    slice_index_or (set table q (Some place)) n None ≡ cond own (Some place) (slice_index_or table n None)
table-set table q place n true is fits =
    let same : q ≡ n = eqb-true q n (sym is) in
    rw (sym same) (get_or-set_same table q (Some place) None fits)
table-set table q place n false is fits =
    get_or-set_other table q n (Some place) None (λ e. eqb-false q n (sym is) (sym e))

-- a call written at the place of its process
step_in : (calls : List (Option ℕ)) (q place : ℕ) (step : Step) (pid : Pid) (own : Bool) → own ≡ (q == pid.0) → q < length calls →
    call_in (with_step calls q place step) pid ≡ cond own (call_or step (Some place) (call_in calls pid)) (call_in calls pid)
step_in calls q place (Call cases default word) pid own is fits = table-set calls q place pid.0 own is fits
step_in calls q place (Make cap) pid true is fits = refl
step_in calls q place (Make cap) pid false is fits = refl
step_in calls q place (Close p) pid true is fits = refl
step_in calls q place (Close p) pid false is fits = refl
step_in calls q place Exit pid true is fits = refl
step_in calls q place Exit pid false is fits = refl
step_in calls q place (Cancel r) pid true is fits = refl
step_in calls q place (Cancel r) pid false is fits = refl
step_in calls q place (Start r) pid true is fits = refl
step_in calls q place (Start r) pid false is fits = refl
step_in calls q place (Reopen p cap) pid true is fits = refl
step_in calls q place (Reopen p cap) pid false is fits = refl

pub call_in-with : (calls : List (Option ℕ)) (place : ℕ) (t : Turned) (pid : Pid) → t.entry.pid.0 < length calls →
    call_in (with_call calls place t) pid ≡ latest_asked pid place (call_in calls pid) t
call_in-with calls place t pid fits = by (refused t.events) (t.entry.pid.0 == pid.0) refl
  where
    by : (bad own : Bool) → own ≡ (t.entry.pid.0 == pid.0) →
        call_in (cond bad calls (with_step calls t.entry.pid.0 place t.entry.step)) pid
        ≡ cond own (cond bad (call_in calls pid) (call_or t.entry.step (Some place) (call_in calls pid))) (call_in calls pid)
    by true true is = refl
    by true false is = refl
    by false true is = step_in calls t.entry.pid.0 place t.entry.step pid true is fits
    by false false is = step_in calls t.entry.pid.0 place t.entry.step pid false is fits

length-with_step : (calls : List (Option ℕ)) (q place : ℕ) (step : Step) → length (with_step calls q place step) ≡ length calls
length-with_step calls q place (Call cases default word) = length-set calls q (Some place)
length-with_step calls q place (Make cap) = refl
length-with_step calls q place (Close p) = refl
length-with_step calls q place Exit = refl
length-with_step calls q place (Cancel r) = refl
length-with_step calls q place (Start r) = refl
length-with_step calls q place (Reopen p cap) = refl

pub length-with_call : (calls : List (Option ℕ)) (place : ℕ) (t : Turned) → length (with_call calls place t) ≡ length calls
length-with_call calls place t = by (refused t.events)
  where
    by : (bad : Bool) → length (cond bad calls (with_step calls t.entry.pid.0 place t.entry.step)) ≡ length calls
    by true = refl
    by false = length-with_step calls t.entry.pid.0 place t.entry.step

pub none-called : (n k : ℕ) → slice_index_or {A = Option ℕ} (replicate n None) k None ≡ None
none-called zero k = refl
none-called (suc n) zero = refl
none-called (suc n) (suc k) = none-called n k

-- ---- what is told
tells-same : (calls : List (Option ℕ)) (before : List Turned) (t : Turned) (e : Event) → AreLast calls (before ++ t ∷ []) →
    tells_of calls (length before) e ≡ tells_it before t e
tells-same calls before t e last = by (may_end e.what)
  where
    tell : ℕ → Told
    tell a = record { asked = a; by = length before; event = e }

    by : (b : Bool) → option_map tell (cond b (call_in calls e.pid) (Some (length before)))
        ≡ option_map tell (cond b (last_asked e.pid 0 None (before ++ t ∷ [])) (Some (length before)))
    by true = ap (option_map tell) (last e.pid)
    by false = refl

pub all-same : (calls : List (Option ℕ)) (before : List Turned) (t : Turned) (es : List Event) → AreLast calls (before ++ t ∷ []) →
    filter_map (tells_of calls (length before)) es ≡ filter_map (tells_it before t) es
all-same calls before t [] last = refl
all-same calls before t (e ∷ es) last =
    ap (λ o. cons_option o (filter_map (tells_of calls (length before)) es)) (tells-same calls before t e last)
    ∙ ap (cons_option (tells_it before t e)) (all-same calls before t es last)

pub length-turns : (s : State) (es : List Entry) → length (turns_after s es) ≡ length es
length-turns s [] = refl
length-turns s (e ∷ es) = ap suc (length-turns (moves s e).state es)
