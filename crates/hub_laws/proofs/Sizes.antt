-- One step tells no more events than there are processes, and one.
use Rattle.hub_laws.proofs.Prelude.{common_steps, ◌≡◌, true, List, [], ◌∷◌, refl, ap, subst, Option, Some, None, ℕ, ◌==◌, ◌+◌, ◌≤◌, length, arith}
use Rattle.hub_laws.proofs.Prelude.{inl, inr}
use Rattle.hub_laws.proofs.Prelude.{◌<◌, eqb-true, or_cases, length-map, Entry, Step, Close, Call, Cancel, What, Head, Pid, Port, admits, moves}
use Rattle.hub_laws.proofs.Prelude.{state, State}
use Rattle.hub_laws.proofs.Prelude.{Channel, OpenCall, channel_at, opening, calls, Change, closes, turn, effect, Apart, IsSound, is_among, without}
use Rattle.hub_laws.proofs.Prelude.{Reopen, reopens}
use Rattle.hub_laws.proofs.Account.{Account, with_caller, procs-of}
use Rattle.hub_laws.proofs.Entries.{turn-account}
use Rattle.hub_laws.proofs.Firing.{calls-account}
use Rattle.hub_laws.proofs.Distinct.{count-below}
use Rattle.hub_laws.proofs.Lasting.{head-after}
use Rattle.hub_laws.proofs.Leaving.{Ended, event_of, events_of, Leave, count, count_ended, leave-count, closed}
use Rattle.hub_laws.proofs.Ready.{Admitted, admitted, by-refusal}
use Rattle.hub_laws.proofs.Rules.{state-sound}

-- how many calls a step leaves and how many events it tells
abbrev pub Size : State → Change → Type 0
Size s c = length c.events + length c.state.parked ≤ length s.parked + 2

ended_length : (xs : List Ended) → count_ended (λ call. true) xs ≡ length xs
ended_length [] = refl
ended_length (x ∷ xs) = omega (arith, ended_length xs)

calls_length : (calls : List OpenCall) → count (λ call. true) calls ≡ length calls
calls_length [] = refl
calls_length (call ∷ calls) = omega (arith, calls_length calls)

caller_length : (calls : List OpenCall) (pid : Pid) (step : Step) (w : What) →
    length (with_caller calls pid step w) ≤ length calls + 1
caller_length calls pid step w = grind (arith, common_steps)

-- an event for each call that ends, and the others stay
left_length : (xs : List Ended) (calls kept : List OpenCall) → Leave xs calls kept →
    length (events_of xs) + length kept ≡ length calls
left_length xs calls kept l =
    let told = length-map xs (λ (x : Ended). event_of x) in
    let left = leave-count (λ call. true) xs calls kept l in
    omega (arith, told, left, ended_length xs, calls_length calls, calls_length kept)

-- one answer, and at most one call more
size : (s : State) (pid : Pid) (step : Step) (c : Change) → Apart s.parked → Account s pid step c → Size s c
size s pid step c apart a =
    let waiting : List OpenCall = with_caller s.parked pid step a.answer in
    let left = left_length a.ended waiting c.state.parked (a.leaves apart) in
    omega (arith, ap length a.told, left, caller_length s.parked pid step a.answer)

closes_size : (s : State) (pid : Pid) (p : Port) (o : Option Channel) → Size s (closes s pid p o)
closes_size s pid p None = omega arith
closes_size s pid p (Some c) =
    let parts = closed p s.parked in
    let left = left_length parts.ended s.parked (closes s pid p (Some c)).state.parked parts.leaves in
    omega (arith, ap length parts.told, left)

reopens_size : (s : State) (pid : Pid) (p : Port) (cap : ℕ) (o : Option Channel) → Size s (reopens s pid p cap o)
reopens_size s pid p cap None = omega arith
reopens_size s pid p cap (Some c) = omega arith

kept_length : (q : Pid) (calls : List OpenCall) → length (without q calls) ≤ length calls
kept_length q [] = omega arith
kept_length q (call ∷ calls) = grind (arith, common_steps, kept_length q calls)

-- before a stall, also where the step is a fault
pub effect_size : (s : State) (pid : Pid) (step : Step) → IsSound s → Size s (effect s pid step)
effect_size s pid (Call cases default word) sound =
    let a = calls-account s pid cases.items default word in
    size s pid (Call cases default word) (calls s pid cases.items default word) sound.apart a
effect_size s pid (Close p) sound = closes_size s pid p (channel_at s p)
effect_size s pid (Reopen p cap) sound = reopens_size s pid p cap (channel_at s p)
effect_size s pid (Cancel q) sound = omega (arith, kept_length q s.parked)
effect_size s pid step sound = omega arith

-- beside a caller that is admitted there is room for its call
pub room-law : (s : State) (pid : Pid) → IsSound s → Admitted s pid → length s.parked < s.head.procs
room-law s pid sound adm =
    let most : length (record { pid = pid; cases = [] } ∷ s.parked) ≤ s.head.procs =
    count-below s.head.procs (record { pid = pid; cases = [] } ∷ s.parked) (adm.free, sound.apart) (λ q e.
    elim (or_cases (pid.0 == q) (is_among q s.parked) e) [
      | inl l ↦ subst (λ (n : ℕ). n < s.head.procs) (eqb-true pid.0 q l) adm.below
      | inr r ↦ (sound.present q r).0
    ]) in
    omega arith

pub events-law : (head : Head) (es : List Entry) (e : Entry) → length (moves (state head es) e).events ≤ head.procs + 1
events-law head es e =
    let s : State = state head es in
    let sound = state-sound head es in
    let most : length (moves s e).events ≤ s.head.procs + 1 = by-refusal (λ o. length (admits s e o).events ≤ s.head.procs + 1) s e.pid (λ is.
    omega (arith, size s e.pid e.step (turn s e) sound.apart (turn-account s e), room-law s e.pid sound (admitted s e.pid is))) (λ f is. omega arith) in
    omega (arith, most, procs-of (head-after (opening head) es))
