-- What holds of each state that a run reaches, besides its soundness: channels are within the limits, those that
-- have gone are processes that there are, and not everyone waits.
use Rattle.hub_laws.proofs.Prelude.{◌≡◌, Bool, true, false, List, [], ◌∷◌, refl, ◌∙◌, sym, Option, Some, None, ℕ, ◌+◌, ◌-◌, ◌≤◌, ◌<◌, ◌==◌}
use Rattle.hub_laws.proofs.Prelude.{suc, length, arith}
use Rattle.hub_laws.proofs.Prelude.{length-drop, AllByRecursion, slice_get}
use Rattle.hub_laws.proofs.Prelude.{Entry, Step, Make, Call, Close, Exit, Cancel, Start, Reopen, Case, Fault, Head, Channel, State, Change, MOST_CAP}
use Rattle.hub_laws.proofs.Prelude.{opening, state, state_after, moves, admits, turn, answers, effect, all_wait, fault_of, refusal, has_gone}
use Rattle.hub_laws.proofs.Deeds.{at}
use Rattle.hub_laws.proofs.Account.{procs-of}
use Rattle.hub_laws.proofs.Entries.{turn-account}
use Rattle.hub_laws.proofs.Lasting.{turn-leaves}
use Rattle.hub_laws.proofs.Ready.{by-refusal, Admitted, admitted}
use Rattle.hub_laws.proofs.Rules.{state-sound}
use Rattle.hub_chapters.proofs.Holding.{Kept, CasesHold, holds-after}
use Rattle.hub_chapters.proofs.Ports.{Within}
use Rattle.hub_chapters.proofs.Stalling.{stalls_if}

-- Not everyone waits

stalls_awake : (c : Change) (b : Bool) → b ≡ all_wait c.state →
    all_wait (stalls_if b c).state ≡ false
stalls_awake c true is = refl
stalls_awake c false is = sym is

answers_awake : (s : State) (e : Entry) (o : Option Fault) → all_wait s ≡ false → all_wait (answers s e o).state ≡ false
answers_awake s e None h = let c : Change = effect s e.pid e.step in stalls_awake c (all_wait c.state) refl
answers_awake s e (Some f) h = h

admits_awake : (s : State) (e : Entry) (o : Option Fault) → all_wait s ≡ false → all_wait (admits s e o).state ≡ false
admits_awake s e None h = answers_awake s e (fault_of s e.step) h
admits_awake s e (Some f) h = h

awake_after : (s : State) (es : List Entry) → all_wait s ≡ false → all_wait (state_after s es) ≡ false
awake_after s [] h = h
awake_after s (e ∷ es) h = awake_after (moves s e).state es (admits_awake s e (refusal s e.pid) h)

pub awake-law : (h : Head) (es : List Entry) → all_wait (state h es) ≡ false
awake-law h es = awake_after (opening h) es refl

-- Who has gone

abbrev Below : State → Type 0
Below s = (q : ℕ) → has_gone s q ≡ true → q < s.head.procs

turn_below : (s : State) (e : Entry) → Below s → Admitted s e.pid → Below (turn s e).state
turn_below s e below adm = grind (arith, turn-leaves, procs-of (turn-account s e).head)

below_after : (s : State) (es : List Entry) → Below s → Below (state_after s es)
below_after s [] below = below
below_after s (e ∷ es) below =
    below_after (moves s e).state es (by-refusal (λ o. Below (admits s e o).state) s e.pid (λ is. turn_below s e below (admitted s e.pid is)) (λ f is. below))

pub below-law : (h : Head) (es : List Entry) → Below (state h es)
below-law h es = below_after (opening h) es (λ q e. absurd (let g : ⊥ = cc in g))

-- Capacities

abbrev CapFits : Channel → Type 0
CapFits c = c.cap ≤ MOST_CAP

abbrev Any : Case → Type 0
Any k = Unit

caps_kept : Kept CapFits Any
caps_kept = record { made = λ cap few. few; sent = λ p v c q h. h; received = λ c h. h; shuts = λ c h. h; opens = λ cap c few h. few }

all_any : (cs : List Case) → AllByRecursion Any cs
all_any [] = tt
all_any (k ∷ ks) = (tt, all_any ks)

any_step : (step : Step) → CasesHold Any step
any_step (Call cases default word) = all_any cases.items
any_step (Make cap) = tt
any_step (Close p) = tt
any_step Exit = tt
any_step (Cancel q) = tt
any_step (Start q) = tt
any_step (Reopen p cap) = tt

any_steps : (es : List Entry) → AllByRecursion (λ e. CasesHold Any e.step) es
any_steps [] = tt
any_steps (e ∷ es) = (any_step e.step, any_steps es)

caps-law : (h : Head) (es : List Entry) → AllByRecursion CapFits (state h es).channels
caps-law h es = (holds-after CapFits Any caps_kept (opening h) es (record { channels = tt; calls = tt }) (any_steps es)).channels

-- by their places
within_by : (cs : List Channel) → AllByRecursion CapFits cs → ((i : ℕ) (c : Channel) → slice_get cs i ≡ Some c → length c.sent ≤ c.received + c.cap) →
    AllByRecursion Within cs
within_by [] caps fits = tt
within_by (c ∷ cs) caps fits =
    let l = length-drop c.received c.sent in
    let f = fits 0 c refl in
    (record { few = caps.0; fits = omega arith }, within_by cs caps.1 (λ i d e. fits (suc i) d e))

at_place : (cs : List Channel) (i : ℕ) → at cs (record { 0 = i + 1 }) ≡ slice_get cs i
at_place cs i =
    let b : (i + 1 == 0) ≡ false = grind arith in
    let n : i + 1 - 1 ≡ i = omega arith in
    rw (b, n) refl

pub within-law : (h : Head) (es : List Entry) → AllByRecursion Within (state h es).channels
within-law h es =
    let s : State = state h es in
    within_by s.channels (caps-law h es) (λ i c e. ((state-sound h es).ports (record { 0 = i + 1 }) c (at_place s.channels i ∙ e)).fits)
