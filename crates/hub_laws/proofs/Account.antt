-- The account of an entry, whatever its step: what its process is answered, which open calls end and what tells
-- it, who waits then, what is written on which port, and who has gone. The laws follow from it.
use Rattle.hub_laws.proofs.Prelude.{arith, ◌≡◌, Bool, true, false, List, [], ◌∷◌, ◌++◌, refl, ap, sym, Option, Some, None, if◌then◌else◌, list_any}
use Rattle.hub_laws.proofs.Prelude.{AllByRecursion, filter_map, cons_option, option_map, Step, What, Head, Pid, Port, is_exit, can_proceed, State, Channel}
use Rattle.hub_laws.proofs.Prelude.{OpenCall, calls, Change, tells, cases_or, of_what, is_answer_to, port_touched_by, found_closed, shown, is_parked}
use Rattle.hub_laws.proofs.Prelude.{Apart}
use Rattle.hub_laws.proofs.Prelude.{IsSound, PortSound, all_snoc, Start, filter, not, ◌==◌, opened_by}
use Rattle.hub_laws.proofs.Calls.{Fewer}
use Rattle.hub_laws.proofs.Deeds.{Deed, deed_of, at, Wrote, Does}
use Rattle.hub_laws.proofs.Leaving.{Ended, events_of, EndsWell, InPlace, Leave, nobody, leave-all}

-- the call of this step
abbrev pub call_of : Pid → Step → OpenCall
call_of pid step = record { pid = pid; cases = cases_or step [] }

-- the open calls, with the caller's where it waits
abbrev pub with_caller : List OpenCall → Pid → Step → What → List OpenCall
with_caller calls pid step answer = if is_parked answer then calls ++ call_of pid step ∷ [] else calls

-- those that have exited, without the process that this starts again
abbrev pub without_started : List Pid → Step → List Pid
without_started gone (Start q) = filter (λ g. not (g.0 == q.0)) gone
without_started gone step = gone

-- those that have exited, with the caller where this is its exit
abbrev pub with_leaver : List Pid → Pid → Step → List Pid
with_leaver gone pid step = if is_exit step then gone ++ pid ∷ [] else without_started gone step

-- the communications of the calls that end
abbrev pub ended_deeds : List Ended → List Deed
ended_deeds xs = filter_map (λ x. of_what deed_of x.call.cases x.what) xs

-- and of the caller's before them
abbrev pub deeds_of : Step → What → List Ended → List Deed
deeds_of step answer xs = cons_option (of_what deed_of (cases_or step []) answer) (ended_deeds xs)

-- the port that is named is sound, where these calls wait
abbrev pub NamedSound : Option Port → List Channel → List OpenCall → Type 0
NamedSound named cs calls = (p : Port) (c : Channel) → named ≡ Some p → at cs p ≡ Some c → PortSound p c calls

-- the port that is named shows something else
abbrev pub Moves : Option Port → List Channel → List Channel → Type 0
Moves named cs ts = (p : Port) → named ≡ Some p → option_map shown (at cs p) ≡ option_map shown (at ts p) → ⊥

pub record Account (s : State) (pid : Pid) (step : Step) (c : Change) : Type 0 where
  -- what the caller is told, first
  pub answer : What
  -- the open calls that end, each with what its process is told, in the order of these events
  pub ended : List Ended
  pub told : c.events ≡ tells pid answer ∷ events_of ended
  -- the answer is one of this step's, and a case that it names stands in its place
  pub fits : is_answer_to step answer ≡ true
  pub placed : InPlace (cases_or step []) answer
  -- an open call ends by an event that tells so
  pub ends : AllByRecursion EndsWell ended
  -- who waits then: those that waited, with the caller where it is told `Parked`, without those that ended. Where a
  -- process had two open calls only that there is no other
  pub leaves : Apart s.parked → Leave ended (with_caller s.parked pid step answer) c.state.parked
  pub fewer : Fewer c.state.parked (with_caller s.parked pid step answer)
  -- the caller waits only where no case of its call can proceed
  pub blocked : is_parked answer ≡ true → list_any (can_proceed s) (cases_or step []) ≡ false
  -- at most one channel is written or made, that of the port which the answer names, as the communications say
  pub does : IsSound s → Does s.channels c.state.channels (port_touched_by step answer) (opened_by step answer) (deeds_of step answer ended)
  -- and none where a case found its port closed
  pub still : found_closed answer ≡ true → IsSound s → (p : Port) → at c.state.channels p ≡ at s.channels p
  -- and else what the port shows is another
  pub moved : found_closed answer ≡ false → IsSound s → Moves (port_touched_by step answer) s.channels c.state.channels
  -- and it suits those that wait then
  pub sound : IsSound s → NamedSound (port_touched_by step answer) c.state.channels c.state.parked
  -- the head is the same; an exit adds its caller to those that have exited, and a start takes its process from them
  pub head : c.state.head ≡ s.head
  pub gone : c.state.gone ≡ with_leaver s.gone pid step

-- the same head has as many processes
pub procs-of : {h k : Head} → h ≡ k → h.procs ≡ k.procs
procs-of same = ap (λ (h : Head). h.procs) same

-- what holds of the open calls, and of the caller's where it waits, holds of those that end and of those that stay
pub account-all : (P : OpenCall → Type 0) (s : State) (pid : Pid) (step : Step) (c : Change) → Apart s.parked →
    (a : Account s pid step c) → AllByRecursion P s.parked → (is_parked a.answer ≡ true → P (call_of pid step)) →
    AllByRecursion (λ x. P x.call) a.ended × AllByRecursion P c.state.parked
account-all P s pid step c apart a all new =
    leave-all P a.ended (with_caller s.parked pid step a.answer) c.state.parked (a.leaves apart)
    (by (is_parked a.answer) refl)
  where
    by : (b : Bool) → b ≡ is_parked a.answer →
        AllByRecursion P (if b then s.parked ++ call_of pid step ∷ [] else s.parked)
    by true is = all_snoc P s.parked (call_of pid step) all (new (sym is))
    by false is = all

-- no call ends
pub alone : (s : State) (ts : List Channel) (pid : Pid) (step : Step) (answer : What) →
    is_answer_to step answer ≡ true → InPlace (cases_or step []) answer →
    (is_parked answer ≡ true → list_any (can_proceed s) (cases_or step []) ≡ false) →
    (IsSound s → Does s.channels ts (port_touched_by step answer) (opened_by step answer) (deeds_of step answer [])) →
    (found_closed answer ≡ true → IsSound s → (p : Port) → at ts p ≡ at s.channels p) →
    (found_closed answer ≡ false → IsSound s → Moves (port_touched_by step answer) s.channels ts) →
    (IsSound s → NamedSound (port_touched_by step answer) ts (with_caller s.parked pid step answer)) →
    Account s pid step (record {
      state = record s {
        gone = with_leaver s.gone pid step;
        parked = with_caller s.parked pid step answer;
        channels = ts;
      };
      events = tells pid answer ∷ [];
    })
alone s ts pid step answer fits placed blocked does still moved sound = grind (arith, nobody)

-- no call ends, and no channel is written
pub silent : (s : State) (pid : Pid) (step : Step) (answer : What) → is_answer_to step answer ≡ true →
    (is_parked answer ≡ true → list_any (can_proceed s) (cases_or step []) ≡ false) →
    port_touched_by step answer ≡ None → InPlace (cases_or step []) answer →
    of_what deed_of (cases_or step []) answer ≡ None →
    Account s pid step (record {
      state = record s { gone = with_leaver s.gone pid step; parked = with_caller s.parked pid step answer };
      events = tells pid answer ∷ [];
    })
silent s pid step answer fits blocked none placed quiet = grind (arith, alone)

-- the port that is written, where it is the one that is named
pub named_sound : (named : Option Port) (cs ts : List Channel) (p : Port) (c d : Channel) (calls : List OpenCall) →
    named ≡ Some p → Wrote cs ts p c d → PortSound p d calls → NamedSound named ts calls
named_sound named cs ts p c d calls names w fine q x h e = grind arith
