-- The journal of a hub has room for its places and for the exit of each process, and what a step leaves of a hub.
use Rattle.std.proofs.Common.{◌≡◌, ℕ, zero, suc, ◌+◌, ◌-◌, ◌≤◌, ◌<◌, ◌^◌, Bool, true, false, cond, List, [], ◌∷◌}
use Rattle.std.proofs.Common.{◌++◌, length, refl, ap, ◌∙◌, sym, subst, ◌&&◌, None, arith, length-append}
use Rattle.std.specs.Prelude.{Result, Ok, Err, IsErr, IsErrAnd}
use Rattle.std.specs.List.{list_all}
use Rattle.std.proofs.lemmas.List.Folds.{list_all-append}
use Rattle.hub_base.specs.declared.head.Head.{Head}
use Rattle.hub_base.specs.declared.value.Pid.{Pid}
use Rattle.hub_base.specs.declared.event.Event.{Event}
use Rattle.hub_base.specs.declared.fault.Fault.{Fault}
use Rattle.hub_base.specs.declared.fault.Fault.TheVariants.{NoMemory}
use Rattle.hub_base.specs.Entry.{Entry, Step}
use Rattle.hub_base.specs.declared.entry.Step.TheVariants.{Make, Call, Close, Exit, Cancel, Start, Reopen}
use Rattle.hub_base.specs.declared.limits.TheConstants.{MOST_PROCS, MOST_STEPS}
use Rattle.hub_base.specs.Head.{is_of}
use Rattle.hub_base.specs.Steps.{refusal}
use Rattle.hub_base.specs.Runs.{state, kept, admits}
use Rattle.hub_base.specs.State.{State}
use Rattle.hub_base.specs.Reading.{is_exit}
use Rattle.hub_base.specs.Text.{steps_of, one_step}
use Rattle.hub_base.proofs.StepCounts.{steps-snoc}
use Rattle.hub_laws.proofs.Limits.{gone-law, legal-short}
use Rattle.hub_laws.proofs.Account.{with_leaver}
use Rattle.hub_laws.proofs.Entries.{turn-account}
use Rattle.hub_laws.proofs.Longer.{state-entry}
use Rattle.hub_core.specs.Records.{MachineLists}
use Rattle.hub_core.specs.declared.hub.HubOf.TheInside.{Inside}
use Rattle.hub_core.specs.LogView.{LogView}
use Rattle.hub_core.specs.Follows.{Follows, IsFine, TakesMemory, RefusesMake, Turns}
use Rattle.hub_core.specs.ListSteps.{refusal_of}
use Rattle.hub_core.specs.HubView.{HubInMemory, HubView, Grows, Refuses, Steps, StepRules, places_after, state_of, with_entry}
use Rattle.hub_core.specs.HubKeeps.{HubKeeps, Takes, count_after, shown}
use Rattle.hub_core.proofs.Following.{kept-admitted}
use Rattle.hub_core.proofs.Stalls.{refusal_of-as}

-- a machine that follows a legal journal has made few steps
pub steps_few : (head : Head) (limit : ℕ) (journal : List Entry) (m : MachineLists) → Follows head journal m → kept head journal ≡ journal
    → steps_of journal ≤ limit → limit ≤ MOST_STEPS → head.procs ≤ MOST_PROCS → m.steps < 2 ^ 32 - 1
steps_few head limit journal m h legal within limits few =
    omega (arith, h.steps, ap (λ (es : List Entry). length es) legal, legal-short head journal legal)

one-count : (e : Entry) (count : ℕ) → count + one_step e ≡ count_after e.step count
one-count e count = one_by (is_exit e.step) count where
  one_by : (b : Bool) (count : ℕ) → count + cond b 0 1 ≡ cond b count (count + 1)
  one_by true count = omega arith
  one_by false count = refl

pub count-snoc : (es : List Entry) (e : Entry) (count : ℕ) → count ≡ steps_of es → count_after e.step count ≡ steps_of (es ++ e ∷ [])
count-snoc es e count is = sym (one-count e count) ∙ ap (λ k. k + one_step e) is ∙ sym (steps-snoc es e)

-- the journal with one admitted entry more is legal
pub legal_longer : (head : Head) (journal : List Entry) (e : Entry) → kept head journal ≡ journal → refusal (state head journal) e.pid ≡ None
    → kept head (journal ++ e ∷ []) ≡ journal ++ e ∷ []
legal_longer head journal e legal adm = kept-admitted head journal e adm ∙ ap (λ (es : List Entry). es ++ e ∷ []) legal

-- who has exited after an admitted entry
gone_then : (head : Head) (journal : List Entry) (e : Entry) → refusal (state head journal) e.pid ≡ None →
    (state head (journal ++ e ∷ [])).gone ≡ with_leaver (state head journal).gone e.pid e.step
gone_then head journal e adm =
    ap (λ (s : State). s.gone) (state-entry head journal e)
    ∙ ap (λ o. (admits (state head journal) e o).state.gone) adm
    ∙ (turn-account (state head journal) e).gone

-- the capacity is enough after a step, for a journal of so many entries
pub room_after : (step : Step) (gone : List Pid) (pid : Pid) (n places procs capacity : ℕ) →
    n + places + procs ≤ capacity + length gone →
    (Grows step places → n + places + procs + 1 ≤ capacity) →
    n + 1 + places_after step places + procs ≤ capacity + length (with_leaver gone pid step)
room_after (Make cap) gone pid n places procs capacity room spare = omega (arith, spare tt)
room_after (Start q) gone pid n places procs capacity room spare = omega (arith, spare tt)
room_after (Reopen p cap) gone pid n places procs capacity room spare = omega (arith, spare tt)
room_after (Call cases default word) gone pid n zero procs capacity room spare = omega (arith, spare refl)
room_after (Call cases default word) gone pid n (suc places) procs capacity room spare = omega (arith, room)
room_after (Close p) gone pid n zero procs capacity room spare = omega (arith, spare refl)
room_after (Close p) gone pid n (suc places) procs capacity room spare = omega (arith, room)
room_after (Cancel q) gone pid n zero procs capacity room spare = omega (arith, spare refl)
room_after (Cancel q) gone pid n (suc places) procs capacity room spare = omega (arith, room)
room_after Exit gone pid n places procs capacity room spare = omega (arith, room, length-append gone (pid ∷ []))

within_by : (b : Bool) (count limit : ℕ) → count ≤ limit → (b ≡ false → count < limit) → cond b count (count + 1) ≤ limit
within_by true count limit h room = h
within_by false count limit h room = omega (arith, room refl)

pub count_within : (step : Step) (count limit : ℕ) → count ≤ limit → (is_exit step ≡ false → count < limit) → count_after step count ≤ limit
count_within step count limit h room = within_by (is_exit step) count limit h room

-- ---- a step of a hub

pub turn_steps : {F : Type 0} (h : Inside F) → HubKeeps h → h.machine.steps < 2 ^ 32 - 1
turn_steps h k =
    steps_few h.terms.head h.terms.limit h.entries.items h.machine k.follows k.legal (omega (arith, k.count, k.within)) k.limit.1 k.head.1

-- a process that the hub does not refuse is not refused by its machine
pub turn_admitted : {F : Type 0} (h : Inside F) (pid : Pid) → HubKeeps h → refusal (state h.terms.head h.entries.items) pid ≡ None
    → refusal_of h.machine.board h.machine.gone pid ≡ None
turn_admitted h pid k admitted = refusal_of-as (state h.terms.head h.entries.items) h.machine pid k.follows.matches ∙ admitted

made_room : {F : Type 0} (h : Inside F) (e : Entry) → HubKeeps h → Takes (shown h) e
    → length h.entries.items + 1 + places_after e.step h.places + h.terms.head.procs
    ≤ h.entries.capacity + length (state h.terms.head (h.entries.items ++ e ∷ [])).gone
made_room h e k takes =
    let s : State = state h.terms.head h.entries.items in
    let room = room_after e.step s.gone e.pid (length h.entries.items) h.places h.terms.head.procs (h.entries.capacity) k.room takes.spare in
    let then = ap length (gone_then h.terms.head h.entries.items e takes.admitted) in
    omega (arith, room, then)

-- an entry that the hub takes finds a place
pub has_place : {F : Type 0} (h : Inside F) (e : Entry) → HubKeeps h → Takes (shown h) e → length h.entries.items + 1 ≤ h.entries.capacity
has_place h e k takes = omega (arith, made_room h e k takes, gone-law h.terms.head (h.entries.items ++ e ∷ []))

pub keeps_made : {F : Type 0} (h : Inside F) (e : Entry) (entries : LogView) (machine : MachineLists) (told : List Event) (count places : ℕ) → HubKeeps h
    → Takes (shown h) e → is_of h.terms.head.edition e.step ≡ true → Turns h.machine e machine told
    → entries.items ≡ h.entries.items ++ e ∷ [] → entries.capacity ≡ h.entries.capacity
    → count ≡ count_after e.step h.count → places ≡ places_after e.step h.places
    → HubKeeps (record { terms = h.terms; places = places; count = count; machine = machine; entries = entries; form = h.form })
keeps_made h e entries machine told count places k takes fits turns grown same counted placed = record {
  head = k.head;
  limit = k.limit;
  legal = ap (kept h.terms.head) grown ∙ legal_longer h.terms.head h.entries.items e k.legal takes.admitted ∙ sym grown;
  fits = ap (list_all (λ x. is_of h.terms.head.edition x.step)) grown
      ∙ list_all-append (λ x. is_of h.terms.head.edition x.step) h.entries.items (e ∷ [])
      ∙ ap (λ b. b && (is_of h.terms.head.edition e.step && true)) k.fits ∙ ap (λ b. b && true) fits;
  follows = subst (λ (es : List Entry). Follows h.terms.head es machine) (sym grown) (turns.ok h.terms.head h.entries.items k.follows).follows;
  count = counted ∙ count-snoc h.entries.items e h.count k.count ∙ ap steps_of (sym grown);
  within = omega (arith, counted, count_within e.step h.count h.terms.limit k.within (λ exit. omega (arith, takes.room exit, k.count)));
  room =
      let items : entries.items ≡ h.entries.items ++ e ∷ [] = grown in
      let long = ap length grown ∙ length-append h.entries.items (e ∷ []) in
      let gone = ap (λ (es : List Entry). length (state h.terms.head es).gone) grown in
      omega (arith, made_room h e k takes, placed, same, long, gone);
}

pub steps_made : {F : Type 0} {h : Inside F} {old new : HubView} (e : Entry) {machine : MachineLists} {told : List Event} → HubKeeps h → Takes (shown h) e
    → Turns h.machine e machine told → (shown h).hub ≡ old → new ≡ with_entry e (shown h).hub → Steps old e new told
steps_made {h} e {told = told} k takes turns was is = subst (λ (x : HubView × HubView). Steps x.0 e x.1 told) (λ i. (was i, sym is i)) (record {
  room = takes.room;
  admitted = takes.admitted;
  events = (turns.ok h.terms.head h.entries.items k.follows).events;
  journal = refl;
})

pub refused_so : {old new : HubInMemory} {e : Entry} (r : Result (Unit {0}) Fault) (f : Fault) → IsErr r × IsErrAnd r (λ given. given ≡ f)
    → StepRules {A = Unit {0}} old e new (Err f) → StepRules old e new r
refused_so (Ok x) f given rules = absurd (let none = given.0 in let g : ⊥ = cc in g)
refused_so {old} {new} {e} (Err g) f given rules = subst (λ (x : Fault). StepRules {A = Unit {0}} old e new (Err x)) (sym given.1) rules

pub rules_made : {old mid new : HubInMemory} {e : Entry} → StepRules {A = Unit {0}} old e mid (Ok tt) → new.capacity ≡ mid.capacity
    → StepRules {A = Unit {0}} old e new (Ok tt)
rules_made {old} r same = record {
  refused = tt;
  memory = r.memory;
  fine = r.fine;
  unchanged = tt;
  spare = λ has. same ∙ r.spare has;
  kept = λ none. same ∙ r.kept none;
  capacity = subst (λ (n : ℕ). old.capacity ≤ n) (sym same) r.capacity;
}

make_grows : (step : Step) (places : ℕ) → TakesMemory step → Grows step places
make_grows (Make cap) places make = tt
make_grows (Call cases default word) places make = absurd make
make_grows (Close p) places make = absurd make
make_grows Exit places make = absurd make
make_grows (Cancel q) places make = absurd make
make_grows (Start q) places make = absurd make
make_grows (Reopen p cap) places make = tt

-- an admitted make that the machine refuses memory
pub rules_refused : {F : Type 0} {h : Inside F} {old mid new : HubInMemory} {e : Entry} {machine : MachineLists} {told : List Event}
    → HubKeeps h → Takes (shown h) e → RefusesMake h.machine e machine told → StepRules {A = Unit {0}} old e mid (Ok tt) → (shown h).hub ≡ old.hub
    → new.hub ≡ old.hub → new.capacity ≡ mid.capacity → StepRules {A = Unit {0}} old e new (Err NoMemory)
rules_refused {h} {old} {e = e} k takes refuses r was unchanged same = record {
  refused = subst (λ (x : HubView). Refuses x e NoMemory) was (takes.room, takes.admitted, make_grows e.step h.places refuses.make);
  memory = λ is has. refuses.make;
  fine = λ is has. subst (λ (x : HubView). IsFine (state_of x) e) was (refuses.fine h.terms.head h.entries.items k.follows);
  unchanged = unchanged;
  spare = λ has. same ∙ r.spare has;
  kept = λ none. same ∙ r.kept none;
  capacity = subst (λ (n : ℕ). old.capacity ≤ n) (sym same) r.capacity;
}
