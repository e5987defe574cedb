-- One entry of a run: what it does to the channels, and which cases are then in force.
use Rattle.hub_laws.proofs.Prelude.{arith, ◌≡◌, true, false, List, [], ◌∷◌, ◌++◌, refl, ap, ◌∙◌, ℕ, ◌==◌, cond, or_parts, AllByRecursion, cons_option}
use Rattle.hub_laws.proofs.Prelude.{Case}
use Rattle.hub_laws.proofs.Prelude.{Entry, Step, What, Pid, admits, moves, State, OpenCall, Change, tells, turn, cases_or, of_what, Turned, is_fault}
use Rattle.hub_laws.proofs.Prelude.{refused}
use Rattle.hub_laws.proofs.Prelude.{latest, last_call, is_answer_to, port_touched_by, port_touched, is_parked, IsSound, is_among, opened, opened_by}
use Rattle.hub_base.specs.declared.event.What.TheVariants as what
use Rattle.hub_laws.proofs.Account.{account-all, deeds_of, ended_deeds}
use Rattle.hub_laws.proofs.Entries.{fault_names_none, turn-account}
use Rattle.hub_laws.proofs.Calls.{differ-sym, same_number}
use Rattle.hub_laws.proofs.Deeds.{Knows, deed_of, told, Does, idle}
use Rattle.hub_laws.proofs.Leaving.{Ended, events_of}
use Rattle.hub_laws.proofs.Ready.{Admitted, admitted, by-refusal}

pub last_call-snoc : (pid : Pid) (before : List Case) (ts : List Turned) (t : Turned)
    → last_call pid before (ts ++ t ∷ []) ≡ latest pid (last_call pid before ts) t
last_call-snoc pid before [] t = refl
last_call-snoc pid before (x ∷ ts) t = last_call-snoc pid (latest pid before x) ts t

-- Which cases are in force

-- of a process that did not step
latest_other : (pid : Pid) (before : List Case) (t : Turned) → (t.entry.pid.0 == pid.0) ≡ false → latest pid before t ≡ before
latest_other pid before t e = rw e refl

-- of any process, after an entry that was answered by a fault
latest_refused : (pid : Pid) (before : List Case) (t : Turned) → refused t.events ≡ true → latest pid before t ≡ before
latest_refused pid before t e = rw e (elim (t.entry.pid.0 == pid.0) as (λ b. cond b before before ≡ before) [ true ↦ refl | false ↦ refl ])

-- of the process that stepped
latest_mine : (before : List Case) (t : Turned) → refused t.events ≡ false → latest t.entry.pid before t ≡ cases_or t.entry.step before
latest_mine before t e = rw (e, same_number t.entry.pid.0) refl

knows_more : (L M : Pid → List Case) (calls : List OpenCall) → ((pid : Pid) → M pid ≡ L pid) → Knows L calls → Knows M calls
knows_more L M [] same k = tt
knows_more L M (call ∷ calls) same k = (same call.pid ∙ k.0, knows_more L M calls same k.1)

knows_others : (L M : Pid → List Case) (q : ℕ) (calls : List OpenCall) → is_among q calls ≡ false
    → ((pid : Pid) → (q == pid.0) ≡ false → M pid ≡ L pid) → Knows L calls → Knows M calls
knows_others L M q [] free same k = tt
knows_others L M q (call ∷ calls) free same k =
    let f = or_parts (call.pid.0 == q) (is_among q calls) free in
    (same call.pid (differ-sym call.pid.0 q f.0) ∙ k.0, knows_others L M q calls f.1 same k.1)

-- A turn

-- the cases in force after these turns
abbrev pub in_force : List Turned → Pid → List Case
in_force ts pid = last_call pid [] ts

-- what a turn does to the channels, by its events and the cases that are then in force
pub record TurnLaws (s : State) (step : Step) (c : Change) (now : Pid → List Case) : Type 0 where
  pub does : Does s.channels c.state.channels (port_touched step c.events) (opened step c.events) (told deed_of now c.events)
  pub knows : Knows now c.state.parked

-- what the events of the calls that end tell
told_ended : (L : Pid → List Case) (xs : List Ended) → AllByRecursion (λ x. L x.call.pid ≡ x.call.cases) xs →
    told deed_of L (events_of xs) ≡ ended_deeds xs
told_ended L [] k = refl
told_ended L (x ∷ xs) k = rw (k.0, told_ended L xs k.1) refl

-- what the answer tells, of a call's own cases
told_own : (L before : List Case) (step : Step) (w : What) → is_answer_to step w ≡ true →
    (is_fault w ≡ false → L ≡ cases_or step before) → of_what deed_of L w ≡ of_what deed_of (cases_or step []) w
told_own x0 before step w fits mine = grind arith

-- only a call waits
parked_call : (before : List Case) (step : Step) (w : What) → is_answer_to step w ≡ true → is_parked w ≡ true →
    (cases_or step before ≡ cases_or step []) × (is_fault w ≡ false)
parked_call before step w fits parks = grind arith

turn_turn : (s : State) (e : Entry) (ts : List Turned) → IsSound s → Admitted s e.pid → Knows (in_force ts) s.parked →
    TurnLaws s e.step (turn s e) (in_force (ts ++ record { entry = e; events = (turn s e).events } ∷ []))
turn_turn s e ts sound adm knows =
    let a = turn-account s e in
    let t : Turned = record { entry = e; events = (turn s e).events } in
    let now : Pid → List Case = in_force (ts ++ t ∷ []) in
    let before : List Case = in_force ts e.pid in
    let mine : is_fault a.answer ≡ false → now e.pid ≡ cases_or e.step before =
    λ clear. last_call-snoc e.pid [] ts t ∙ latest_mine before t (ap refused a.told ∙ clear) in
    let still : Knows now s.parked =
    knows_others (in_force ts) now e.pid.0 s.parked adm.free
    (λ pid d. last_call-snoc pid [] ts t ∙ latest_other pid (last_call pid [] ts) t d) knows in
    let all = account-all (λ call. now call.pid ≡ call.cases) s e.pid e.step (turn s e) sound.apart a still (λ parks.
    let p = parked_call before e.step a.answer a.fits parks in
    mine p.1 ∙ p.0) in
    let deeds : told deed_of now (turn s e).events ≡ deeds_of e.step a.answer a.ended =
    ap (told deed_of now) a.told
    ∙ ap (λ d. cons_option d (told deed_of now (events_of a.ended))) (told_own (now e.pid) before e.step a.answer a.fits mine)
    ∙ ap (λ ds. cons_option (of_what deed_of (cases_or e.step []) a.answer) ds) (told_ended now a.ended all.0) in
    let named : port_touched e.step (turn s e).events ≡ port_touched_by e.step a.answer = ap (port_touched e.step) a.told in
    let back : opened e.step (turn s e).events ≡ opened_by e.step a.answer = ap (opened e.step) a.told in
    record { does = rw (named, back, deeds) (a.does sound); knows = all.1 }

-- an entry that is not admitted changes nothing
pub moves-turn : (s : State) (e : Entry) (ts : List Turned) → IsSound s → Knows (in_force ts) s.parked →
    TurnLaws s e.step (moves s e) (in_force (ts ++ record { entry = e; events = (moves s e).events } ∷ []))
moves-turn s e ts sound knows =
    by-refusal (λ o. TurnLaws s e.step (admits s e o) (in_force (ts ++ record { entry = e; events = (admits s e o).events } ∷ []))) s e.pid
    (λ is. turn_turn s e ts sound (admitted s e.pid is) knows) (λ f is.
    let t : Turned = record { entry = e; events = tells e.pid (what.Fault f) ∷ [] } in
    let same = λ (pid : Pid). last_call-snoc pid [] ts t ∙ latest_refused pid (last_call pid [] ts) t refl in
    record { does = idle (fault_names_none e.step f) refl refl; knows = knows_more (in_force ts) (in_force (ts ++ t ∷ [])) s.parked same knows })
