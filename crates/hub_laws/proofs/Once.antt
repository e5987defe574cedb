-- Each admitted call has at most one event besides `Parked`.
use Rattle.hub_laws.proofs.Prelude.{common_steps, ◌≡◌, Bool, true, false, List, [], ◌∷◌, ◌++◌, refl, ap, Some, ℕ, ◌==◌, ◌+◌, ◌≤◌, cond, not, length}
use Rattle.hub_laws.proofs.Prelude.{arith, ◌&&◌, inl, inr, ◌<◌, AllByRecursion, Entry, Step, Exit, Event, Fault, Head, is_exit, admits, moves, State}
use Rattle.hub_laws.proofs.Prelude.{opening}
use Rattle.hub_laws.proofs.Prelude.{Change, tells, refusal, turn, has_gone, turns_after, IsAnswered, ends_waiting, refuses_entry, counts, endings, is_call}
use Rattle.hub_laws.proofs.Prelude.{was_admitted, ends_call, endings_until, EndsOnce, AtMostOnce, IsSound}
use Rattle.hub_base.specs.declared.event.What.TheVariants as what
use Rattle.hub_laws.proofs.Account.{procs-of}
use Rattle.hub_laws.proofs.Calls.{same_number}
use Rattle.hub_laws.proofs.Events.{answered_admits, waiting-ends}
use Rattle.hub_laws.proofs.Entries.{turn-account, turn-answered}
use Rattle.hub_laws.proofs.Faults.{refusal-refuses}
use Rattle.hub_laws.proofs.Balance.{open_calls, ends, open_none, turn-balance}
use Rattle.hub_laws.proofs.Lasting.{turn-gone}
use Rattle.hub_laws.proofs.Ready.{admitted, by-refusal}
use Rattle.hub_laws.proofs.Kept.{sound-opening}
use Rattle.hub_laws.proofs.Rules.{moves-sound, turn-sound}

-- At most so many events, each of which ends a call

abbrev EachEnds : List Event → Type 0
EachEnds events = AllByRecursion (λ x. ends_call x.what ≡ true) events

pub record AtMost (n : ℕ) (events : List Event) : Type 0 where
  pub most : length events ≤ n
  pub each : EachEnds events

joined : (n m : ℕ) (xs ys : List Event) → EachEnds xs → AtMost m ys → length xs + m ≤ n → AtMost n (xs ++ ys)
joined n m xs ys each rest fits = grind (arith, common_steps)

-- Which events of a process count

each_by : (q : ℕ) (x : Event) (xs : List Event) (b : Bool) → b ≡ (counts x.what && (x.pid.0 == q)) → (b ≡ true → ends_call x.what ≡ true)
    → EachEnds (endings q xs) → EachEnds (cond b (x ∷ endings q xs) (endings q xs))
each_by q x xs true is here rest = (here refl, rest)
each_by q x xs false is here rest = rest

ended_each : (q : ℕ) (events : List Event) → AllByRecursion (λ x. ends_waiting x.what ≡ true) events → EachEnds (endings q events)
ended_each q [] a = tt
ended_each q (x ∷ xs) a = each_by q x xs (counts x.what && (x.pid.0 == q)) refl (λ h. (waiting-ends x.what a.0).ends) (ended_each q xs a.1)

-- a call's own step
own_each : (e : Entry) (events : List Event) → is_call e.step ≡ true → IsAnswered e.pid e.step events → EachEnds (endings e.pid.0 events)
own_each e [] call a = tt
own_each e (x ∷ xs) call a = grind (arith, ended_each)

-- the step of another process
other_each : (q : ℕ) (e : Entry) (events : List Event) → (e.pid.0 == q) ≡ false → IsAnswered e.pid e.step events → EachEnds (endings q events)
other_each q e [] other a = tt
other_each q e (x ∷ xs) other a = grind (arith, ended_each)

-- Up to the next admitted entry

turn-admitted : (s : State) (e : Entry) → was_admitted (turn s e).events ≡ true
turn-admitted s e = answered_admits e (turn s e).events (turn-answered s e)

until_admitted : (q : ℕ) (s : State) (e : Entry) (rest : List Event) (a b : Bool) → a ≡ true
    → b ≡ (e.pid.0 == q) → IsSound s → (b ≡ false → AtMost (open_calls q (turn s e).state.parked) rest)
    → AtMost (open_calls q s.parked) (cond (a && b) [] (endings q (turn s e).events ++ rest))
until_admitted q s e rest x4 b is m sound after = grind (arith, common_steps, turn-balance, other_each, turn-answered)

until_refused : (q : ℕ) (s : State) (e : Entry) (f : Fault) (rest : List Event) → refusal s e.pid ≡ Some f
    → q < s.head.procs → has_gone s q ≡ false → AtMost (open_calls q s.parked) rest
    → AtMost (open_calls q s.parked) (cond (not (refuses_entry f) && (e.pid.0 == q)) [] (endings q (tells e.pid (what.Fault f) ∷ []) ++ rest))
until_refused q s e f rest is below here after = grind arith

-- a process that is there is told no more than its open call's end, before its next admitted entry
until_most : (q : ℕ) (s : State) (es : List Entry) → IsSound s → q < s.head.procs → has_gone s q ≡ false
    → AtMost (open_calls q s.parked) (endings_until q (turns_after s es))
until_most q s [] sound below here = record { most = omega arith; each = tt }
until_most q s (e ∷ es) sound below here =
    by-refusal (λ o. let c : Change = admits s e o in AtMost (open_calls q s.parked)
    (cond (was_admitted c.events && (e.pid.0 == q)) [] (endings q c.events ++ endings_until q (turns_after c.state es)))) s e.pid
    (λ is. until_admitted q s e (endings_until q (turns_after (turn s e).state es)) (was_admitted (turn s e).events) (e.pid.0 == q)
    (turn-admitted s e) refl sound (λ m.
    let procs = procs-of (turn-account s e).head in
    until_most q (turn s e).state es (turn-sound s e sound is) (omega (arith, procs)) (turn-gone q s e (inr m) here)))
    (λ f is. until_refused q s e f (endings_until q (turns_after s es)) is below here (until_most q s es sound below here))

-- Runs

call_stays : (step : Step) → is_call step ≡ true → is_exit step ≡ false
call_stays Exit e = absurd (let g : ⊥ = cc in g)
call_stays step e = refl

once_by : (s : State) (e : Entry) (es : List Entry) → IsSound s → is_call e.step ≡ true → was_admitted (moves s e).events ≡ true →
    EndsOnce (endings e.pid.0 (moves s e).events ++ endings_until e.pid.0 (turns_after (moves s e).state es))
once_by s e es sound call = by-refusal (λ o. let c : Change = admits s e o in was_admitted c.events ≡ true →
    EndsOnce (endings e.pid.0 c.events ++ endings_until e.pid.0 (turns_after c.state es))) s e.pid (λ is adm.
    let a = admitted s e.pid is in
    let gone = turn-gone e.pid.0 s e (inl (call_stays e.step call)) a.here in
    let rest = until_most e.pid.0 (turn s e).state es (turn-sound s e sound is) (omega (arith, procs-of (turn-account s e).head, a.below)) gone in
    let bal : ends e.pid.0 (turn s e).events + open_calls e.pid.0 (turn s e).state.parked ≡ open_calls e.pid.0 s.parked + 1 =
    rw (same_number e.pid.0) at (turn-balance e.pid.0 s e sound) in
    let one : ends e.pid.0 (turn s e).events + open_calls e.pid.0 (turn s e).state.parked ≤ 1 = omega (arith, bal, open_none e.pid.0 s.parked a.free) in
    let all = joined 1 (open_calls e.pid.0 (turn s e).state.parked) (endings e.pid.0 (turn s e).events)
    (endings_until e.pid.0 (turns_after (turn s e).state es)) (own_each e (turn s e).events call (turn-answered s e)) rest one in
    record { most = all.most; each = all.each })
    (λ f is adm. let h : not (refuses_entry f) ≡ false = ap (λ b. not b) (refusal-refuses s e.pid f is) in cc)

pub once-after : (s : State) (es : List Entry) → IsSound s → AtMostOnce (turns_after s es)
once-after s [] sound = tt
once-after s (e ∷ es) sound = (once_by s e es sound, once-after (moves s e).state es (moves-sound s e sound))

-- each admitted call of a run has at most one event besides `Parked`
pub once-law : (head : Head) (es : List Entry) → AtMostOnce (turns_after (opening head) es)
once-law head es = once-after (opening head) es (sound-opening head)
