-- Each process is told one event for its entry, unless it waits, and one for each call of its that ends.
use Rattle.hub_laws.proofs.Prelude.{◌≡◌, Bool, true, false, List, [], ◌∷◌, ◌++◌, refl, ◌∙◌, ℕ, ◌==◌, ◌+◌, ◌≤◌, cond, not, length, arith, ◌&&◌, or_parts}
use Rattle.hub_laws.proofs.Prelude.{AllByRecursion, Entry, Step, Event, What, Pid, State, OpenCall, Change, tells, turn, counts, endings, is_parked, Apart}
use Rattle.hub_laws.proofs.Prelude.{IsSound, is_among}
use Rattle.hub_laws.proofs.Account.{Account, with_caller, call_of}
use Rattle.hub_laws.proofs.Entries.{turn-account}
use Rattle.hub_laws.proofs.Events.{answer_counts}
use Rattle.hub_laws.proofs.Leaving.{Ended, EndsWell, events_of, one, count, count_ended, leave-count}

-- Counting

-- how many of these calls are of process q
abbrev pub open_calls : ℕ → List OpenCall → ℕ
open_calls q calls = count (λ call. call.pid.0 == q) calls

abbrev pub ends : ℕ → List Event → ℕ
ends q events = length (endings q events)

ends_cons : (q : ℕ) (e : Event) (es : List Event) → ends q (e ∷ es) ≡ one (counts e.what && (e.pid.0 == q)) + ends q es
ends_cons q e es = grind arith

pub open_none : (q : ℕ) (calls : List OpenCall) → is_among q calls ≡ false → open_calls q calls ≡ 0
open_none q [] e = refl
open_none q (call ∷ calls) e = let f = or_parts (call.pid.0 == q) (is_among q calls) e in rw (f.0, open_none q calls f.1) refl

-- no process has two open calls
pub open_most : (q : ℕ) (calls : List OpenCall) → Apart calls → open_calls q calls ≤ 1
open_most q [] a = omega arith
open_most q (call ∷ calls) a = grind (arith, open_none, open_most q calls a.1)

-- Balance: who steps gets one event or waits, and each call that ends gets one event

abbrev pub Balance : ℕ → State → Pid → Change → Type 0
Balance q s pid c = ends q c.events + open_calls q c.state.parked ≡ open_calls q s.parked + one (pid.0 == q)

ended_count : (q : ℕ) (xs : List Ended) → AllByRecursion EndsWell xs →
    ends q (events_of xs) ≡ count_ended (λ call. call.pid.0 == q) xs
ended_count q [] well = refl
ended_count q (x ∷ xs) well = grind (arith, ended_count q xs well.1)

-- the caller is told at once, or its call waits
caller_count : (q : ℕ) (calls : List OpenCall) (pid : Pid) (step : Step) (w : What) →
    one (not (is_parked w) && (pid.0 == q)) + open_calls q (with_caller calls pid step w) ≡ open_calls q calls + one (pid.0 == q)
caller_count q calls pid step w = by (is_parked w)
  where
    snoc : (calls : List OpenCall) →
        open_calls q (calls ++ call_of pid step ∷ []) ≡ open_calls q calls + one (pid.0 == q)
    snoc [] = omega arith
    snoc (c ∷ cs) = omega (arith, snoc cs)

    by : (b : Bool) →
        one (not b && (pid.0 == q)) + open_calls q (cond b (calls ++ call_of pid step ∷ []) calls) ≡ open_calls q calls + one (pid.0 == q)
    by true = omega (arith, snoc calls)
    by false = omega arith

balance : (q : ℕ) (s : State) (pid : Pid) (step : Step) (c : Change) → Apart s.parked → Account s pid step c →
    Balance q s pid c
balance q s pid step c apart a =
    let counted : counts a.answer ≡ not (is_parked a.answer) = answer_counts step a.answer a.fits in
    let told : ends q c.events ≡ one (not (is_parked a.answer) && (pid.0 == q)) + ends q (events_of a.ended) =
    rw a.told (ends_cons q (tells pid a.answer) (events_of a.ended) ∙ rw counted refl) in
    let left = leave-count (λ call. call.pid.0 == q) a.ended (with_caller s.parked pid step a.answer) c.state.parked (a.leaves apart) in
    omega (arith, told, ended_count q a.ended a.ends, left, caller_count q s.parked pid step a.answer)

-- every admitted entry: each process gets one event for its entry and one for each call of its that ends
pub turn-balance : (q : ℕ) (s : State) (e : Entry) → IsSound s → Balance q s e.pid (turn s e)
turn-balance q s e sound = balance q s e.pid e.step (turn s e) sound.apart (turn-account s e)
