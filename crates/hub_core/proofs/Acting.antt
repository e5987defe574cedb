-- An admitted step before the stall rule: its fault, or what it does; and the stall rule behind it.
use Rattle.std.proofs.Common.{◌≡◌, ◌∙◌, ◌∷◌, ◌++◌, ◌+◌, ◌==◌, ◌<◌, [], ℕ, List, Option, Some, None, Result, Ok, Err, Bool, true, false}
use Rattle.std.proofs.Common.{ap, arith, sym, subst, refl, cond, length, nat_le, nat_lt}
use Rattle.std.proofs.lemmas.Grind.{common_steps}
use Rattle.std.specs.Prelude.{OnOk, OnErr}
use Rattle.hub_base.specs.declared.value.Pid.{Pid}
use Rattle.hub_base.specs.Entry.{Entry, Step}
use Rattle.hub_base.specs.declared.entry.Step.TheVariants.{Make, Close, Exit, Cancel, Start, Reopen}
use Rattle.hub_base.specs.declared.event.Event.{Event}
use Rattle.hub_base.specs.declared.event.What.TheVariants as what
use Rattle.hub_base.specs.declared.fault.Fault.{Fault}
use Rattle.hub_base.specs.declared.fault.Fault.TheVariants as fault
use Rattle.hub_base.specs.declared.head.Edition.{Edition}
use Rattle.hub_base.specs.declared.limits.TheConstants.{MOST_CAP, MOST_PORTS}
use Rattle.hub_base.specs.declared.value.Port.{Port}
use Rattle.hub_base.specs.Steps.{tells}
use Rattle.hub_laws.proofs.Ready.{none_false}
use Rattle.hub_parts.specs.Records.{Lists}
use Rattle.hub_parts.specs.Lists.{IsMade}
use Rattle.hub_core.specs.Hearing.{Heard}
use Rattle.hub_core.specs.declared.tally.Tally.{Tally}
use Rattle.hub_core.specs.Records.{MachineLists, machine_of}
use Rattle.hub_core.specs.Follows.{TakesMemory, Acts}
use Rattle.hub_core.specs.ListSteps.{ListChange, fault_on, is_unmade_on, gone_on, open_on, effect_on, told_fault, acts_by, acts_on}
use Rattle.hub_core.specs.ListSteps.{all_wait_on, all_stalled, stalls_on, refusal_of, none_open, stalled_events, with_board, with_steps}
use Rattle.hub_core.specs.ListSteps.{answers_on, counted, turn_on}
use Rattle.hub_core.proofs.Reached.{awake}

-- ---- what is known of a step that meets no fault
open_true : (b : Bool) → cond b None (Some fault.NotParked) ≡ None → b ≡ true
open_true true h = refl
open_true false h = cc

pub fine_make : (edition : Edition) (b : Lists) (gone : List Bool) (cap : ℕ) → fault_on edition b gone (Make cap) ≡ None → length b.ports < MOST_PORTS
fine_make edition b gone cap h =
    let few = none_false (nat_le MOST_PORTS (length b.ports)) fault.TooManyPorts None (none_false (nat_lt MOST_CAP cap) fault.BadCap _ h).1 in
    grind (arith, common_steps, few.0)

pub fine_close : (edition : Edition) (b : Lists) (gone : List Bool) (p : Port) → fault_on edition b gone (Close p) ≡ None → IsMade b p
fine_close edition b gone p h =
    let made = none_false (is_unmade_on b p) fault.NoPort _ h in
    let named = none_false (p.0 == 0) fault.NilClose _ made.1 in
    (grind (arith, common_steps, named.0), grind (arith, common_steps, made.0))

pub fine_cancel : (edition : Edition) (b : Lists) (gone : List Bool) (q : Pid) → fault_on edition b gone (Cancel q) ≡ None → open_on b.waiting q.0 ≡ true
fine_cancel edition b gone q h = open_true (open_on b.waiting q.0) h

gone_true : (b : Bool) → cond b None (Some fault.NotGone) ≡ None → b ≡ true
gone_true true h = refl
gone_true false h = cc

pub fine_start : (edition : Edition) (b : Lists) (gone : List Bool) (q : Pid) → fault_on edition b gone (Start q) ≡ None → gone_on gone q.0 ≡ true
fine_start edition b gone q h = gone_true (gone_on gone q.0) h

pub fine_reopen : (edition : Edition) (b : Lists) (gone : List Bool) (p : Port) (cap : ℕ) → fault_on edition b gone (Reopen p cap) ≡ None → IsMade b p
fine_reopen edition b gone p cap h =
    let made = none_false (is_unmade_on b p) fault.NoPort _ h in
    let few = none_false (nat_lt MOST_CAP cap) fault.BadCap _ made.1 in
    let named = none_false (p.0 == 0) fault.NilClose _ few.1 in
    (grind (arith, common_steps, named.0), grind (arith, common_steps, made.0))

-- equal boards and counts make equal machines
pub machine_as : {b c : Lists} {ts us : List Tally} (edition : Edition) (gone : List Bool) (steps : ℕ) → b ≡ c → ts ≡ us
    → machine_of edition b ts gone steps ≡ machine_of edition c us gone steps
machine_as {b} {c} {ts} {us} edition gone steps board counts =
    ap (λ (l : Lists). machine_of edition l ts gone steps) board ∙ ap (λ (l : List Tally). machine_of edition c l gone steps) counts

on_ok : {E : Type 0} {P Q : Type 0} (r : Result (Unit {0}) E) → (P → Q) → OnOk r P → OnOk r Q
on_ok (Ok done) turns holds = turns holds
on_ok (Err e) turns holds = tt

-- what holds of both clauses of a result
pub both_ok : {E : Type 0} {P Q R : Type 0} (r : Result (Unit {0}) E) → (P → Q → R) → OnOk r P → OnOk r Q → OnOk r R
both_ok (Ok done) so p q = so p q
both_ok (Err e) so p q = tt

pub on_err : {E : Type 0} {P : Type 0} (r : Result (Unit {0}) E) → P → OnErr r P
on_err (Ok done) holds = tt
on_err (Err e) holds = holds

-- a step that has taken effect
pub takes_effect : {E S : Type 0} {heard : S → List Event → S → Type 0} {room : S → ℕ} {old new : MachineLists} {pid : Pid} {before after : S}
    (step : Step) → fault_on old.edition old.board old.gone step ≡ None → new ≡ (effect_on old pid step).machine
    → Heard heard room before after (effect_on old pid step).events → Acts {E = E} heard room old pid step new before after (Ok tt)
takes_effect {E} {S} {heard} {room} {old} {new} {pid} {before} {after} step fine machine told =
    let is : effect_on old pid step ≡ acts_on old pid step = ap (acts_by old pid step) (sym fine) in
    record {
      machine = machine ∙ ap (λ (c : ListChange). c.machine) is;
      told = subst (λ (c : ListChange). Heard heard room before after c.events) is told;
      make = tt;
      fine = tt;
      unchanged = tt;
      silent = tt;
    }

-- a step that is told its fault
pub tells_fault : {E S : Type 0} {heard : S → List Event → S → Type 0} {room : S → ℕ} {old : MachineLists} {pid : Pid} {before after : S}
    (step : Step) (f : Fault) → fault_on old.edition old.board old.gone step ≡ Some f
    → Heard heard room before after (tells pid (what.Fault f) ∷ []) → Acts {E = E} heard room old pid step old before after (Ok tt)
tells_fault {E} {S} {heard} {room} {old} {pid} {before} {after} step f fault told =
    let is : told_fault old pid f ≡ acts_on old pid step = ap (acts_by old pid step) (sym fault) in
    record {
      machine = ap (λ (c : ListChange). c.machine) is;
      told = subst (λ (c : ListChange). Heard heard room before after c.events) is told;
      make = tt;
      fine = tt;
      unchanged = tt;
      silent = tt;
    }

-- as such a step is
pub is_told : {E S : Type 0} {heard : S → List Event → S → Type 0} {room : S → ℕ} {old : MachineLists} {pid : Pid} {before after : S}
    {step is : Step} {f : Fault} {found : Option Fault} → step ≡ is → found ≡ fault_on old.edition old.board old.gone is → found ≡ Some f
    → Heard heard room before after (tells pid (what.Fault f) ∷ []) → Acts {E = E} heard room old pid step old before after (Ok tt)
is_told {is = is} {f = f} same found some told = rw same (tells_fault is f (sym found ∙ some) told)

-- a make, which memory may be refused
pub makes_or_not : {E S : Type 0} {heard : S → List Event → S → Type 0} {room : S → ℕ} {old new : MachineLists} {pid : Pid} {before after : S}
    (step : Step) (result : Result (Unit {0}) E) → TakesMemory step → fault_on old.edition old.board old.gone step ≡ None
    → OnOk result (new ≡ (effect_on old pid step).machine) → OnOk result (Heard heard room before after (effect_on old pid step).events)
    → OnErr result (new ≡ old) → OnErr result (after ≡ before) → Acts {E = E} heard room old pid step new before after result
makes_or_not {E} {S} {heard} {room} {old} {new} {pid} {before} {after} step result make fine machine told unchanged silent =
    let is : effect_on old pid step ≡ acts_on old pid step = ap (acts_by old pid step) (sym fine) in
    record {
      machine = on_ok result (λ h. h ∙ ap (λ (c : ListChange). c.machine) is) machine;
      told = on_ok result (λ h. subst (λ (c : ListChange). Heard heard room before after c.events) is h) told;
      make = on_err result make;
      fine = on_err result fine;
      unchanged = unchanged;
      silent = silent;
    }

-- ---- the stall rule behind it
effect-steps : (m : MachineLists) (pid : Pid) (step : Step) → (effect_on m pid step).machine.steps ≡ m.steps
effect-steps m pid Exit = refl
effect-steps m pid other = refl

acts_by-steps : (m : MachineLists) (pid : Pid) (step : Step) (o : Option Fault) → (acts_by m pid step o).machine.steps ≡ m.steps
acts_by-steps m pid step None = effect-steps m pid step
acts_by-steps m pid step (Some f) = refl

acts-steps : (m : MachineLists) (pid : Pid) (step : Step) → (acts_on m pid step).machine.steps ≡ m.steps
acts-steps m pid step = acts_by-steps m pid step (fault_on m.edition m.board m.gone step)

stalls_awake : (c : ListChange) → all_wait_on c.machine.board c.machine.gone ≡ false → stalls_on c ≡ c
stalls_awake c h = ap (λ all. cond all (all_stalled c) c) h

acts_stall : (m : MachineLists) (e : Entry) (o : Option Fault) → refusal_of m.board m.gone e.pid ≡ None
    → stalls_on (acts_by m e.pid e.step o) ≡ answers_on m e o
acts_stall m e None h = refl
acts_stall m e (Some f) h = stalls_awake (told_fault m e.pid f) (awake m.board m.gone e.pid h)

turn_acts : (m : MachineLists) (e : Entry) → refusal_of m.board m.gone e.pid ≡ None → turn_on m e ≡ counted m.steps (stalls_on (acts_on m e.pid e.step))
turn_acts m e h = ap (counted m.steps) (sym (acts_stall m e (fault_on m.edition m.board m.gone e.step) h))

-- where all wait behind it
turn_stalls : (m : MachineLists) (e : Entry) → refusal_of m.board m.gone e.pid ≡ None
    → all_wait_on (acts_on m e.pid e.step).machine.board (acts_on m e.pid e.step).machine.gone ≡ true
    → turn_on m e ≡ counted m.steps (all_stalled (acts_on m e.pid e.step))
turn_stalls m e h all =
    let c = acts_on m e.pid e.step in
    turn_acts m e h ∙ ap (λ all. counted m.steps (cond all (all_stalled c) c)) all

-- and where not
turn_goes_on : (m : MachineLists) (e : Entry) → refusal_of m.board m.gone e.pid ≡ None
    → all_wait_on (acts_on m e.pid e.step).machine.board (acts_on m e.pid e.step).machine.gone ≡ false
    → turn_on m e ≡ counted m.steps (acts_on m e.pid e.step)
turn_goes_on m e h none =
    let c = acts_on m e.pid e.step in
    turn_acts m e h ∙ ap (λ all. counted m.steps (cond all (all_stalled c) c)) none

-- the machine and what is told behind a step, where all wait behind it
pub machine_stalls : (m after : MachineLists) (e : Entry) → refusal_of m.board m.gone e.pid ≡ None → after ≡ (acts_on m e.pid e.step).machine
    → all_wait_on after.board after.gone ≡ true
    → with_steps (after.steps + 1) (with_board after (none_open after.board) after.counts) ≡ (turn_on m e).machine
machine_stalls m after e free is all =
    ap (λ (k : MachineLists). with_steps (k.steps + 1) (with_board k (none_open k.board) k.counts)) is
    ∙ ap (λ n. with_steps (n + 1) (all_stalled (acts_on m e.pid e.step)).machine) (acts-steps m e.pid e.step)
    ∙ sym (ap (λ (c : ListChange). c.machine) (turn_stalls m e free (ap (λ (k : MachineLists). all_wait_on k.board k.gone) (sym is) ∙ all)))

pub events_stall : (m after : MachineLists) (e : Entry) → refusal_of m.board m.gone e.pid ≡ None → after ≡ (acts_on m e.pid e.step).machine
    → all_wait_on after.board after.gone ≡ true
    → (acts_on m e.pid e.step).events ++ stalled_events after.board.waiting ≡ (turn_on m e).events
events_stall m after e free is all =
    ap (λ (k : MachineLists). (acts_on m e.pid e.step).events ++ stalled_events k.board.waiting) is
    ∙ sym (ap (λ (c : ListChange). c.events) (turn_stalls m e free (ap (λ (k : MachineLists). all_wait_on k.board k.gone) (sym is) ∙ all)))

-- and where not
pub machine_goes_on : (m after : MachineLists) (e : Entry) → refusal_of m.board m.gone e.pid ≡ None → after ≡ (acts_on m e.pid e.step).machine
    → all_wait_on after.board after.gone ≡ false → with_steps (after.steps + 1) after ≡ (turn_on m e).machine
machine_goes_on m after e free is none =
    ap (λ (k : MachineLists). with_steps (k.steps + 1) k) is
    ∙ ap (λ n. with_steps (n + 1) (acts_on m e.pid e.step).machine) (acts-steps m e.pid e.step)
    ∙ sym (ap (λ (c : ListChange). c.machine) (turn_goes_on m e free (ap (λ (k : MachineLists). all_wait_on k.board k.gone) (sym is) ∙ none)))

pub events_go_on : (m after : MachineLists) (e : Entry) → refusal_of m.board m.gone e.pid ≡ None → after ≡ (acts_on m e.pid e.step).machine
    → all_wait_on after.board after.gone ≡ false → (acts_on m e.pid e.step).events ≡ (turn_on m e).events
events_go_on m after e free is none =
    sym (ap (λ (c : ListChange). c.events) (turn_goes_on m e free (ap (λ (k : MachineLists). all_wait_on k.board k.gone) (sym is) ∙ none)))
