-- A machine that follows a run follows it by one entry more.
use Rattle.std.proofs.Common.{◌≡◌, ℕ, zero, suc, ◌+◌, ◌≤◌, ◌<◌, Bool, true, false, cond, List, [], ◌∷◌, ◌++◌}
use Rattle.std.proofs.Common.{length, append-nil, refl, ap, ◌∙◌, sym, subst, Option, Some, None, arith}
use Rattle.std.specs.Prelude.{slice_get, replicate}
use Rattle.std.specs.Option.{option_map}
use Rattle.std.proofs.lemmas.Option.{slice_get-map}
use Rattle.std.proofs.lemmas.List.{length_push}
use Rattle.hub_base.specs.declared.head.Head.{Head}
use Rattle.hub_base.specs.declared.value.Pid.{Pid}
use Rattle.hub_base.specs.Entry.{Entry, Step}
use Rattle.hub_base.specs.declared.entry.Step.TheVariants.{Make, Call, Close, Exit, Cancel, Start, Reopen}
use Rattle.hub_base.specs.declared.fault.Fault.{Fault}
use Rattle.hub_base.specs.declared.fault.Fault.TheVariants as fault
use Rattle.hub_base.specs.declared.event.Event.{Event}
use Rattle.hub_base.specs.declared.event.What.TheVariants as what
use Rattle.hub_base.specs.declared.limits.TheConstants.{MOST_PROCS}
use Rattle.hub_base.specs.State.{State, OpenCall}
use Rattle.hub_base.specs.Steps.{Change, tells, refusal, turn, fault_of, answers, effect}
use Rattle.hub_base.specs.Runs.{admits, moves, keeps, kept, state}
use Rattle.hub_base.proofs.Lists.{all_more}
use Rattle.hub_laws.specs.Sound.{IsSound}
use Rattle.hub_laws.proofs.Rules.{state-sound}
use Rattle.hub_laws.proofs.Longer.{state-entry, kept-entry}
use Rattle.hub_laws.proofs.Ready.{admitted}
use Rattle.hub_parts.specs.Records.{Ticketed}
use Rattle.hub_core.specs.Records.{MachineLists, opened_machine}
use Rattle.hub_core.specs.ListSteps.{turn_on, answers_on, effect_on, fault_on, refusal_of, gone_on}
use Rattle.hub_core.specs.Follows.{Matches, IsEntryOf, TicketsAre, Follows, IsReached, Admits, Answers, RefusesFor, Turns}
use Rattle.hub_core.specs.Agrees.{StepsAs}
use Rattle.hub_core.proofs.Ports.{get_seam}
use Rattle.hub_core.proofs.Effects.{fault_on-as, effect_on-as}
use Rattle.hub_core.proofs.Stalls.{stalls_on-as, refusal_of-as}
use Rattle.hub_core.proofs.Kept.{Opens, answers_on_leaves}

-- ---- a run goes on by one entry
pub kept-admitted : (head : Head) (es : List Entry) (e : Entry) → refusal (state head es) e.pid ≡ None → kept head (es ++ e ∷ []) ≡ kept head es ++ e ∷ []
kept-admitted head es e h = kept-entry head es e ∙ ap (λ o. kept head es ++ keeps o e []) h

pub kept-refused : (head : Head) (es : List Entry) (e : Entry) (f : Fault) → refusal (state head es) e.pid ≡ Some f → kept head (es ++ e ∷ []) ≡ kept head es
kept-refused head es e f h = kept-entry head es e ∙ ap (λ o. kept head es ++ keeps o e []) h ∙ append-nil (kept head es)

pub moves-admitted : (s : State) (e : Entry) → refusal s e.pid ≡ None → moves s e ≡ turn s e
moves-admitted s e h = ap (admits s e) h

pub moves-refused : (s : State) (e : Entry) (f : Fault) → refusal s e.pid ≡ Some f → moves s e ≡ record { state = s; events = tells e.pid (what.Fault f) ∷ [] }
moves-refused s e f h = ap (admits s e) h

-- ---- one admitted entry
answers_by : (s : State) (m : MachineLists) (e : Entry) (o : Option Fault) → IsSound s → Matches s m → e.pid.0 < length m.gone
    → o ≡ fault_of s e.step → StepsAs (answers s e o) (answers_on m e o)
answers_by s m e None sound h room is = stalls_on-as (effect s e.pid e.step) (effect_on m e.pid e.step) (effect_on-as s m e.pid e.step sound h room (sym is))
answers_by s m e (Some f) sound h room is = record { events = refl; state = h }

pub answers_on-as : (s : State) (m : MachineLists) (e : Entry) → IsSound s → Matches s m → e.pid.0 < length m.gone
    → StepsAs (turn s e) (answers_on m e (fault_on m.edition m.board m.gone e.step))
answers_on-as s m e sound h room = rw (fault_on-as s m e.step h) (answers_by s m e (fault_of s e.step) sound h room refl)

-- ---- tickets
get_longer : (xs : List Entry) (x : Entry) (i : ℕ) (call : OpenCall) → IsEntryOf (slice_get xs i) call → IsEntryOf (slice_get (xs ++ x ∷ []) i) call
get_longer [] x i call h = absurd h
get_longer (y ∷ ys) x zero call h = h
get_longer (y ∷ ys) x (suc i) call h = get_longer ys x i call h

-- the call that this entry would open has its place as ticket
abbrev IsTicket : List Entry → Ticketed → Type 0
IsTicket journal w = IsEntryOf (slice_get journal w.ticket) w.call

opens_by : (journal : List Entry) (n : ℕ) (pid : Pid) (step : Step) → slice_get journal n ≡ Some (record { pid = pid; step = step })
    → Opens (IsTicket journal) n pid step
opens_by journal n pid (Make cap) h = tt
opens_by journal n pid (Call cases default word) h = rw h (refl, refl)
opens_by journal n pid (Close p) h = tt
opens_by journal n pid Exit h = tt
opens_by journal n pid (Cancel q) h = tt
opens_by journal n pid (Start q) h = tt
opens_by journal n pid (Reopen p cap) h = tt

-- ---- Follows
pub follows_on : (head : Head) (es : List Entry) (e : Entry) (m : MachineLists) → Follows head es m → refusal (state head es) e.pid ≡ None
    → e.pid.0 < length m.gone → Admits head es e (turn_on m e).machine (turn_on m e).events
follows_on head es e m h adm room =
    let same = answers_on-as (state head es) m e (state-sound head es) h.matches room in
    let moved = moves-admitted (state head es) e adm in
    let grown = kept-admitted head es e adm in
    let last : slice_get (kept head (es ++ e ∷ [])) m.steps ≡ Some e = rw (grown, h.steps) (get_seam (kept head es) e) in
    let left = answers_on_leaves (IsTicket (kept head (es ++ e ∷ []))) m.steps m e (fault_on m.edition m.board m.gone e.step) refl
    (opens_by (kept head (es ++ e ∷ [])) m.steps e.pid e.step last) in
    record {
      admitted = adm;
      events = same.events ∙ ap (λ (c : Change). c.events) (sym moved);
      follows = record {
        matches = subst (λ (s : State). Matches s (turn_on m e).machine) (sym (state-entry head es e ∙ ap (λ (c : Change). c.state) moved))
            (record {
              edition = same.state.edition;
              procs = same.state.procs;
              calls = same.state.calls;
              ports = same.state.ports;
              counts = same.state.counts;
              gone = same.state.gone;
            });
        steps = ap (λ k. k + 1) h.steps ∙ sym (length_push (kept head es) e) ∙ ap length (sym grown);
        later = left.next h.later;
        tickets =
            left.waiting (subst (λ (j : List Entry). TicketsAre j m.board.waiting) (sym grown)
            (all_more _ _ m.board.waiting (λ w. get_longer (kept head es) e w.ticket w.call) h.tickets));
      };
    }

pub follows_refused : (head : Head) (es : List Entry) (e : Entry) (m : MachineLists) (f : Fault) → Follows head es m
    → refusal (state head es) e.pid ≡ Some f → Answers head es e m (tells e.pid (what.Fault f) ∷ [])
follows_refused head es e m f h is =
    let moved = moves-refused (state head es) e f is in
    let same : state head (es ++ e ∷ []) ≡ state head es = state-entry head es e ∙ ap (λ (c : Change). c.state) moved in
    let stays = kept-refused head es e f is in
    record {
      events = ap (λ (c : Change). c.events) (sym moved);
      follows = record {
        matches = subst (λ (s : State). Matches s m) (sym same) h.matches;
        steps = h.steps ∙ ap length (sym stays);
        later = h.later;
        tickets = subst (λ (j : List Entry). TicketsAre j m.board.waiting) (sym stays) h.tickets;
      };
    }

-- ---- refusals
never_memory : (a b c : Bool) → cond a (Some fault.NoProcess) (cond b (Some fault.Gone) (cond c (Some fault.Busy) None)) ≡ Some fault.NoMemory → ⊥
never_memory true b c h = cc
never_memory false true c h = cc
never_memory false false true h = cc
never_memory false false false h = cc

refuses_by : (head : Head) (es : List Entry) (e : Entry) (f : Fault) → refusal (state head es) e.pid ≡ Some f → RefusesFor head es e f
refuses_by head es e fault.NoMemory h = absurd (never_memory _ _ _ h)
refuses_by head es e f h = h

pub refuses_for : (head : Head) (es : List Entry) (e : Entry) (m : MachineLists) (f : Fault) → Follows head es m
    → Some f ≡ refusal_of m.board m.gone e.pid → RefusesFor head es e f
refuses_for head es e m f h is = refuses_by head es e f (sym (refusal_of-as (state head es) m e.pid h.matches) ∙ sym is)

pub admitted_as : (head : Head) (es : List Entry) (e : Entry) (m : MachineLists) → Follows head es m → refusal_of m.board m.gone e.pid ≡ None
    → refusal (state head es) e.pid ≡ None
admitted_as head es e m h is = sym (refusal_of-as (state head es) m e.pid h.matches) ∙ is

-- ---- the opening
pub none-gone : (k q : ℕ) → gone_on (replicate k false) q ≡ false
none-gone zero q = refl
none-gone (suc k) zero = refl
none-gone (suc k) (suc q) = none-gone k q

pub follows_opening : (head : Head) → Follows head [] (opened_machine head)
follows_opening head = record {
  matches = record { edition = refl; procs = refl; calls = refl; ports = refl; counts = refl; gone = λ q. none-gone MOST_PROCS q };
  steps = refl;
  later = omega arith;
  tickets = tt;
}

-- ---- the step of a machine
pub admits_on : (head : Head) (es : List Entry) (e : Entry) (m next : MachineLists) (told : List Event) → Follows head es m →
    refusal_of m.board m.gone e.pid ≡ None → m.board.procs ≤ MOST_PROCS → length m.gone ≡ MOST_PROCS →
    next ≡ (turn_on m e).machine → told ≡ (turn_on m e).events → Admits head es e next told
admits_on head es e m next told h free few places machine events =
    let adm = admitted_as head es e m h free in
    let below = (admitted (state head es) e.pid adm).below in
    rw (machine, events) (follows_on head es e m h adm (omega (arith, below, h.matches.procs, few, places)))

pub reached_next : (e : Entry) (m next : MachineLists) → IsReached m →
    refusal_of m.board m.gone e.pid ≡ None → m.board.procs ≤ MOST_PROCS → length m.gone ≡ MOST_PROCS →
    next ≡ (turn_on m e).machine → IsReached next
reached_next e m next r free few places machine =
    (r.0, r.1 ++ e ∷ [], (admits_on r.0 r.1 e m next (turn_on m e).events r.2 free few places machine refl).follows)

-- the step of a machine that is known by its parts
pub turns_as : {m n next : MachineLists} (e : Entry) → m ≡ n → refusal_of m.board m.gone e.pid ≡ None → m.board.procs ≤ MOST_PROCS →
    length m.gone ≡ MOST_PROCS → next ≡ (turn_on m e).machine → Turns n e next (turn_on n e).events
turns_as {m} {n} {next} e same free few places machine =
    subst (λ (k : MachineLists). Turns k e next (turn_on k e).events) same (record {
      ok = λ head es h. admits_on head es e m next (turn_on m e).events h free few places machine refl;
      steps = ap (λ (k : MachineLists). k.steps) machine;
    })

-- ---- the open calls
pub call_shown : (head : Head) (es : List Entry) (m : MachineLists) (place : ℕ) → Follows head es m
    → option_map (λ (w : Ticketed). w.call) (slice_get m.board.waiting place) ≡ slice_get (state head es).parked place
call_shown head es m place h =
    sym (slice_get-map (λ (w : Ticketed). w.call) m.board.waiting place) ∙ ap (λ (cs : List OpenCall). slice_get cs place) h.matches.calls
