-- The calls in their list and in their places, as contracts see them.
use Rattle.std.proofs.Common.{◌≡◌, ◌≢◌, ℕ, zero, suc, ◌++◌, Bool, List, [], ◌∷◌, refl, Option, Some, None, arith, length, get_or, set, ◌<◌, not}
use Rattle.std.proofs.Common.{◌==◌, ◌&&◌, ◌||◌, filter, slice_get, true, false, inl, inr, eq-eqb, replicate, cond, ap, sym, ◌∙◌}
use Rattle.std.specs.List.{AllByRecursion, list_any}
use Rattle.std.proofs.lemmas.Bool.{eqb-false, ne_eqb, cases_eq}
use Rattle.std.proofs.lemmas.Bool.Decides.{nat_tests}
use Rattle.std.proofs.lemmas.List.{get_or-set_same, get_or-set_other, map-append, get_or_default, length-set, get_or-replicate, length-replicate}
use Rattle.std.proofs.lemmas.Grind.{common_steps}
use Rattle.hub_base.specs.declared.value.Pid.{Pid}
use Rattle.hub_base.specs.declared.case.Case.{Case}
use Rattle.hub_parts.specs.declared.tickets.LastCall.{LastCall}
use Rattle.hub_parts.specs.declared.tickets.TheConstants.{PIDS}
use Rattle.hub_parts.specs.Records.{Ticketed}
use Rattle.hub_parts.specs.Tickets.{IsMarked, calls_of, call_of, cases_of, last_of}
use Rattle.hub_parts.specs.Lists.{still_open, ticketed}
use Rattle.hub_parts.specs.Queues.{case_at, pid_at, has_call}

pub open_calls_of : (places : List LastCall) (os : List ℕ) (pid : Pid)
    → list_any (λ w. w.call.pid.0 == pid.0) (calls_of places os) ≡ list_any (λ o. o == pid.0) os
open_calls_of places [] pid = refl
open_calls_of places (o ∷ os) pid = ap (λ b. (o == pid.0) || b) (open_calls_of places os pid)

-- the case of this number in the place of the process
abbrev pub case_in : List LastCall → ℕ → Option Pid → Option Case
case_in places index None = None
case_in places index (Some pid) = slice_get (cases_of places pid.0) index

pub case_told : (places : List LastCall) (os : List ℕ) (ticket index : ℕ)
    → case_at (calls_of places os) ticket index ≡ case_in places index (pid_at (calls_of places os) ticket)
case_told places [] ticket index = refl
case_told places (o ∷ os) ticket index =
    elim ((last_of places o).ticket == ticket) as (λ b. cond b (slice_get (cases_of places o) index) (case_at (calls_of places os) ticket index)
    ≡ case_in places index (cond b (Some (record { 0 = o })) (pid_at (calls_of places os) ticket)))
    [ true ↦ refl | false ↦ case_told places os ticket index ]

abbrev pub IsBelow : ℕ → Option Pid → Type 0
IsBelow n None = Unit {0}
IsBelow n (Some pid) = pid.0 < n

pub told_below : (places : List LastCall) (os : List ℕ) (n ticket : ℕ) → AllByRecursion (λ q. q < n) os
    → IsBelow n (pid_at (calls_of places os) ticket)
told_below places [] n ticket a = tt
told_below places (o ∷ os) n ticket a =
    elim ((last_of places o).ticket == ticket) as (λ b. IsBelow n (cond b (Some (record { 0 = o })) (pid_at (calls_of places os) ticket))) [
      | true ↦ a.0
      | false ↦ told_below places os n ticket a.1
    ]

pub calls_of-filter : (places : List LastCall) (pid : Pid) (os : List ℕ)
    → calls_of places (filter (λ o. not (o == pid.0)) os) ≡ still_open pid (calls_of places os)
calls_of-filter places pid [] = refl
calls_of-filter places pid (o ∷ os) = grind (arith, common_steps, calls_of-filter places pid os)

last_of-other : (places : List LastCall) (pid q : ℕ) (last : LastCall) → q ≢ pid → last_of (set places pid last) q ≡ last_of places q
last_of-other places pid q last ne = get_or-set_other places pid q last (record { ticket = 0; cases = record { items = [] } }) ne

last_of-same : (places : List LastCall) (pid : ℕ) (last : LastCall) → pid < length places → last_of (set places pid last) pid ≡ last
last_of-same places pid last within = get_or-set_same places pid last (record { ticket = 0; cases = record { items = [] } }) within

-- the place of a process without an open call is no call's
calls_of-set : (places : List LastCall) (os : List ℕ) (pid : Pid) (last : LastCall) → list_any (λ o. o == pid.0) os ≡ false
    → calls_of (set places pid.0 last) os ≡ calls_of places os
calls_of-set places [] pid last free = refl
calls_of-set places (o ∷ os) pid last free =
    let apart : (o == pid.0) ≡ false = grind (arith, common_steps) in
    let rest : list_any (λ o. o == pid.0) os ≡ false = grind (arith, common_steps) in
    ap (λ (l : LastCall). record { ticket = l.ticket; call = record { pid = record { 0 = o }; cases = l.cases.items } } ∷ calls_of (set places pid.0 last) os)
    (last_of-other places pid.0 o last (eqb-false o pid.0 apart))
    ∙ ap (λ calls. call_of places o ∷ calls) (calls_of-set places os pid last rest)

pub calls_opened_of : (places : List LastCall) (os : List ℕ) (pid : Pid) (last : LastCall)
    → list_any (λ o. o == pid.0) os ≡ false → pid.0 < length places
    → calls_of (set places pid.0 last) (os ++ pid.0 ∷ []) ≡ calls_of places os ++ ticketed pid last.ticket last.cases.items ∷ []
calls_opened_of places os pid last free within =
    map-append (call_of (set places pid.0 last)) os (pid.0 ∷ [])
    ∙ rw (calls_of-set places os pid last free)
    (ap (λ (l : LastCall). calls_of places os ++ ticketed pid l.ticket l.cases.items ∷ []) (last_of-same places pid.0 last within))

-- what the code reads in the place of a process
pub place_read : (places : List LastCall) (pid : ℕ) (v : LastCall) → v ≡ get_or places pid v → pid < length places → v ≡ last_of places pid
place_read places pid v e within = e ∙ get_or_default places pid v (record { ticket = 0; cases = record { items = [] } }) within

pub none_to_end : (pid : Pid) (ws : List Ticketed) → list_any (λ w. w.call.pid.0 == pid.0) ws ≡ false → still_open pid ws ≡ ws
none_to_end pid [] free = refl
none_to_end pid (w ∷ ws) free =
    let apart : (w.call.pid.0 == pid.0) ≡ false = grind (arith, common_steps) in
    let rest : list_any (λ w. w.call.pid.0 == pid.0) ws ≡ false = grind (arith, common_steps) in
    rw (apart, none_to_end pid ws rest) refl

with_itself : (a b : Bool) → ((a && true) || (b && a)) ≡ (true && a)
with_itself true b = refl
with_itself false true = refl
with_itself false false = refl

nothing_before : (b c : Bool) → ((b && false) || c) ≡ c
nothing_before true c = refl
nothing_before false c = refl

-- an entry lives where its process has an open call, whose ticket is the entry's
live_step : (places : List LastCall) (o : ℕ) (pid : Pid) (os : List ℕ) (ticket : ℕ) (b : Bool) → (o == pid.0) ≡ b
    → has_call (calls_of places os) ticket pid ≡ (list_any (λ o. o == pid.0) os && ((last_of places pid.0).ticket == ticket))
    → has_call (calls_of places (o ∷ os)) ticket pid ≡ (list_any (λ o. o == pid.0) (o ∷ os) && ((last_of places pid.0).ticket == ticket))
live_step places o pid os ticket true e ih =
    let same : o ≡ pid.0 = grind (arith, nat_tests) in
    let last : last_of places o ≡ last_of places pid.0 = ap (λ n. get_or places n (record { ticket = 0; cases = record { items = [] } })) same in
    rw (e, ih, last) (with_itself ((last_of places pid.0).ticket == ticket) (list_any (λ o. o == pid.0) os))
live_step places o pid os ticket false e ih = rw (e, ih) (nothing_before ((last_of places o).ticket == ticket) _)

pub lives_at : (places : List LastCall) (os : List ℕ) (ticket : ℕ) (pid : Pid)
    → has_call (calls_of places os) ticket pid ≡ (list_any (λ o. o == pid.0) os && ((last_of places pid.0).ticket == ticket))
lives_at places [] ticket pid = refl
lives_at places (o ∷ os) ticket pid = live_step places o pid os ticket (o == pid.0) refl (lives_at places os ticket pid)

both_true : (b : Bool) → true ≡ cond b true true
both_true true = refl
both_true false = refl

marked_new : (os : List ℕ) (o : ℕ) (q : ℕ) (b : Bool) → (o == q) ≡ b
    → list_any (λ o. o == q) (os ++ o ∷ []) ≡ cond b true (list_any (λ o. o == q) os)
marked_new [] o q true e = rw e refl
marked_new [] o q false e = rw e refl
marked_new (v ∷ os) o q b e =
    elim (v == q) as (λ a. (a || list_any (λ o. o == q) (os ++ o ∷ [])) ≡ cond b true (a || list_any (λ o. o == q) os)) [
      | true ↦ both_true b
      | false ↦ marked_new os o q b e
    ]

pub marked_opened : (marks : List Bool) (os : List ℕ) (o : ℕ) → o < PIDS → IsMarked marks os → IsMarked (set marks o true) (os ++ o ∷ [])
marked_opened marks os o small k = record {
  told = λ q within.
      elim (cases_eq o q) [
        | inl same ↦ rw (marked_new os o q true (eq-eqb o q same), same) (get_or-set_same marks q true false (rw k.long within))
        | inr apart ↦ rw (marked_new os o q false (ne_eqb o q apart), get_or-set_other marks o q true false (λ e. apart (sym e))) (k.told q within)
      ];
  long = length-set marks o true ∙ k.long;
}

ended_step : (pid : Pid) (o : ℕ) (os : List ℕ) (q : ℕ) (b : Bool) → (o == pid.0) ≡ b → (q == pid.0) ≡ false
    → list_any (λ o. o == q) (filter (λ o. not (o == pid.0)) os) ≡ list_any (λ o. o == q) os
    → list_any (λ o. o == q) (cond (not b) (o ∷ filter (λ o. not (o == pid.0)) os) (filter (λ o. not (o == pid.0)) os))
    ≡ list_any (λ o. o == q) (o ∷ os)
ended_step pid o os q true e other ih =
    let not_this : (o == q) ≡ false = grind (arith, nat_tests) in
    rw not_this ih
ended_step pid o os q false e other ih = ap (λ b. (o == q) || b) ih

marked_others : (pid : Pid) (os : List ℕ) (q : ℕ) → (q == pid.0) ≡ false
    → list_any (λ o. o == q) (filter (λ o. not (o == pid.0)) os) ≡ list_any (λ o. o == q) os
marked_others pid [] q other = refl
marked_others pid (o ∷ os) q other = ended_step pid o os q (o == pid.0) refl other (marked_others pid os q other)

unmarked_step : (pid : Pid) (o : ℕ) (os : List ℕ) (b : Bool) → (o == pid.0) ≡ b
    → list_any (λ o. o == pid.0) (filter (λ o. not (o == pid.0)) os) ≡ false
    → list_any (λ o. o == pid.0) (cond (not b) (o ∷ filter (λ o. not (o == pid.0)) os) (filter (λ o. not (o == pid.0)) os)) ≡ false
unmarked_step pid o os true e ih = ih
unmarked_step pid o os false e ih = rw e ih

unmarked : (pid : Pid) (os : List ℕ) → list_any (λ o. o == pid.0) (filter (λ o. not (o == pid.0)) os) ≡ false
unmarked pid [] = refl
unmarked pid (o ∷ os) = unmarked_step pid o os (o == pid.0) refl (unmarked pid os)

pub marked_ended : (marks : List Bool) (os : List ℕ) (pid : Pid) → IsMarked marks os
    → IsMarked (set marks pid.0 false) (filter (λ o. not (o == pid.0)) os)
marked_ended marks os pid k = record {
  told = λ q within.
      elim (cases_eq q pid.0) [
        | inl same ↦ rw (same, unmarked pid os) (get_or-set_same marks pid.0 false false (rw (k.long, ← same) within))
        | inr apart ↦ rw (marked_others pid os q (ne_eqb q pid.0 apart), get_or-set_other marks pid.0 q false false apart) (k.told q within)
      ];
  long = length-set marks pid.0 false ∙ k.long;
}

pub none_marked : IsMarked (replicate PIDS false) []
none_marked = record { told = λ q within. get_or-replicate PIDS q false false within; long = length-replicate PIDS false }

-- the call at this place
pub placed_below : (os : List ℕ) (n i : ℕ) (o : ℕ) → AllByRecursion (λ q. q < n) os → slice_get os i ≡ Some o → o < n
placed_below [] n i o a e = absurd (let g : ⊥ = cc in g)
placed_below (x ∷ os) n zero o a e =
    let same : x ≡ o = cc in let h = a.0 in omega (arith, same)
placed_below (x ∷ os) n (suc i) o a e = placed_below os n i o a.1 e

pub placed_call : (places : List LastCall) (os : List ℕ) (i : ℕ) (o : ℕ) → slice_get os i ≡ Some o
    → slice_get (calls_of places os) i ≡ Some (call_of places o)
placed_call places [] i o e = absurd (let g : ⊥ = cc in g)
placed_call places (x ∷ os) zero o e = ap (λ y. Some (call_of places y)) (let s : x ≡ o = cc in s)
placed_call places (x ∷ os) (suc i) o e = placed_call places os i o e
