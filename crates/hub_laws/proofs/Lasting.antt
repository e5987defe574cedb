-- A step leaves the head, only an exit adds to those that have exited, only a start takes from them, and only a make adds to the ports.
use Rattle.hub_laws.proofs.Prelude.{◌≡◌, false, List, [], ◌∷◌, refl, ◌∙◌, Option, Some, None, ℕ, ◌==◌, ◌≤◌, length, arith, ◌&&◌, ◌||◌}
use Rattle.hub_laws.proofs.Prelude.{◌⊎◌, Entry, Fault, Head, MOST_PORTS, is_exit, admits, moves, state_after, state, State, opening}
use Rattle.hub_laws.proofs.Prelude.{refusal, turn, has_gone, port_touched_by, IsSound, opened_by, is_start_of, Pid, not, list_any, ap}
use Rattle.hub_laws.proofs.Account.{deeds_of, procs-of}
use Rattle.hub_laws.proofs.Gone.{leaves-by, still-here}
use Rattle.hub_laws.proofs.Entries.{turn-account}
use Rattle.hub_laws.proofs.Does.{does-few}
use Rattle.hub_laws.proofs.Kept.{sound-opening}
use Rattle.hub_laws.proofs.Rules.{moves-sound}
use Rattle.hub_laws.proofs.Ready.{by-refusal}
use Rattle.hub_laws.proofs.Deeds.{Deed}

-- who has exited after it
pub turn-leaves : (q : ℕ) (s : State) (e : Entry) →
    has_gone (turn s e).state q ≡ ((has_gone s q && not (is_start_of q e.step)) || (is_exit e.step && (e.pid.0 == q)))
turn-leaves q s e = ap (λ xs. list_any (λ (g : Pid). g.0 == q) xs) (turn-account s e).gone ∙ leaves-by q s.gone e.pid e.step

-- a process that was there and did not exit by it is there still
pub turn-gone : (q : ℕ) (s : State) (e : Entry) → (is_exit e.step ≡ false) ⊎ ((e.pid.0 == q) ≡ false) → has_gone s q ≡ false →
    has_gone (turn s e).state q ≡ false
turn-gone q s e other here =
    turn-leaves q s e ∙ still-here (has_gone s q) (is_start_of q e.step) (is_exit e.step) (e.pid.0 == q) here other

-- any entry
pub head-entry : (s : State) (e : Entry) (o : Option Fault) → (admits s e o).state.head ≡ s.head
head-entry s e None = (turn-account s e).head
head-entry s e (Some f) = refl

pub head-after : (s : State) (es : List Entry) → (state_after s es).head ≡ s.head
head-after s [] = refl
head-after s (e ∷ es) = head-after (moves s e).state es ∙ head-entry s e (refusal s e.pid)

ports_after : (s : State) (es : List Entry) → IsSound s → length s.channels ≤ MOST_PORTS →
    length (state_after s es).channels ≤ MOST_PORTS
ports_after s [] sound few = few
ports_after s (e ∷ es) sound few =
    ports_after (moves s e).state es (moves-sound s e sound) (by-refusal (λ o. length (admits s e o).state.channels ≤ MOST_PORTS) s e.pid (λ is.
    let a = turn-account s e in
    let deeds : List Deed = deeds_of e.step a.answer a.ended in
    does-few s.channels (turn s e).state.channels (port_touched_by e.step a.answer) (opened_by e.step a.answer) deeds (a.does sound) few) (λ f is. few))

-- no more ports are made than there may be
pub ports-law : (head : Head) (es : List Entry) → length (state head es).channels ≤ MOST_PORTS
ports-law head es = ports_after (opening head) es (sound-opening head) (omega arith)

-- there are as many processes as the head says
pub procs-after : (head : Head) (es : List Entry) → (state head es).head.procs ≡ head.procs
procs-after head es = procs-of (head-after (opening head) es)
