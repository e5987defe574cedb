-- The values received, and then those in the buffer, are the values sent.
use Rattle.hub_laws.proofs.Prelude.{arith, ◌≡◌, List, [], ◌∷◌, ◌++◌, refl, ap, ◌∙◌, sym, Option, Some, append-nil, append_assoc, take}
use Rattle.hub_laws.proofs.Prelude.{take-append-drop, Case}
use Rattle.hub_laws.proofs.Prelude.{Entry, Outcome, Head, Port, moves, state_after, state, State, Channel, channel_at, opening, buffer_of, Turned}
use Rattle.hub_laws.proofs.Prelude.{turns_after}
use Rattle.hub_laws.proofs.Prelude.{values_from, got_on, received_values, sent_on, sent_values, opened, port_touched, IsSound}
use Rattle.hub_laws.proofs.Deeds.{Knows, deed_of, told, at}
use Rattle.hub_laws.proofs.Kept.{sound-opening}
use Rattle.hub_laws.proofs.Rules.{moves-sound}
use Rattle.hub_laws.proofs.Totals.{total, told-picks, sent-does, got-does}
use Rattle.hub_laws.proofs.Turns.{in_force, moves-turn}

-- a list that grows at each turn by what a reading tells is, after a run, what the reading tells of the run
grows : {A : Type 0} (f : Channel → List A) (pick : Option Case → Outcome → Option A) (p : Port)
    → ((s : State) (e : Entry) (ts : List Turned) → IsSound s → Knows (in_force ts) s.parked → total f (moves s e).state.channels p
    ≡ total f s.channels p ++ told pick (in_force (ts ++ record { entry = e; events = (moves s e).events } ∷ [])) (moves s e).events)
    → (s : State) (ts : List Turned) (es : List Entry) → IsSound s → Knows (in_force ts) s.parked
    → total f (state_after s es).channels p ≡ total f s.channels p ++ values_from pick ts (turns_after s es)
grows f pick p one s ts [] sound knows = sym (append-nil (total f s.channels p))
grows f pick p one s ts (e ∷ es) sound knows =
    let t : Turned = record { entry = e; events = (moves s e).events } in
    grows f pick p one (moves s e).state (ts ++ t ∷ []) es (moves-sound s e sound) (moves-turn s e ts sound knows).knows
    ∙ ap (λ xs. xs ++ values_from pick (ts ++ t ∷ []) (turns_after (moves s e).state es)) (one s e ts sound knows)
    ∙ append_assoc (total f s.channels p) (told pick (in_force (ts ++ t ∷ [])) t.events) (values_from pick (ts ++ t ∷ []) (turns_after (moves s e).state es))

pub sent-after : (s : State) (ts : List Turned) (es : List Entry) (p : Port) → IsSound s → Knows (in_force ts) s.parked →
    total (λ c. c.sent) (state_after s es).channels p ≡ total (λ c. c.sent) s.channels p ++ values_from (sent_on p) ts (turns_after s es)
sent-after s ts es p = grows (λ c. c.sent) (sent_on p) p (λ s e ts sound knows.
    let t : Turned = record { entry = e; events = (moves s e).events } in
    sent-does s.channels (moves s e).state.channels (port_touched e.step (moves s e).events) (opened e.step (moves s e).events)
    (told deed_of (in_force (ts ++ t ∷ [])) (moves s e).events) p (moves-turn s e ts sound knows).does
    ∙ ap (λ xs. total (λ c. c.sent) s.channels p ++ xs) (sym (told-picks (sent_on p) (in_force (ts ++ t ∷ [])) (moves s e).events (λ o. refl)))) s ts es

pub got-after : (s : State) (ts : List Turned) (es : List Entry) (p : Port) → IsSound s → Knows (in_force ts) s.parked
    → total (λ c. take c.received c.sent) (state_after s es).channels p
    ≡ total (λ c. take c.received c.sent) s.channels p ++ values_from (got_on p) ts (turns_after s es)
got-after s ts es p = grows (λ c. take c.received c.sent) (got_on p) p (λ s e ts sound knows.
    let t : Turned = record { entry = e; events = (moves s e).events } in
    got-does s.channels (moves s e).state.channels (port_touched e.step (moves s e).events) (opened e.step (moves s e).events)
    (told deed_of (in_force (ts ++ t ∷ [])) (moves s e).events) p (λ c h. (sound.ports p c h).received) (moves-turn s e ts sound knows).does
    ∙ ap (λ xs. total (λ c. take c.received c.sent) s.channels p ++ xs)
    (sym (told-picks (got_on p) (in_force (ts ++ t ∷ [])) (moves s e).events (λ o. refl)))) s ts es

-- before anything is made
pub no_total : {A : Type 0} (f : Channel → List A) (p : Port) → total f [] p ≡ []
no_total f p = grind arith

total_at : {A : Type 0} (f : Channel → List A) (s : State) (p : Port) (c : Channel) → channel_at s p ≡ Some c → total f s.channels p ≡ f c
total_at f s p c e = let h : at s.channels p ≡ Some c = e in rw h refl

pub sent-law : (head : Head) (es : List Entry) (p : Port) (c : Channel) → channel_at (state head es) p ≡ Some c → sent_values head es p ≡ c.sent
sent-law head es p c e =
    let h = sent-after (opening head) [] es p (sound-opening head) tt in
    sym (sym (total_at (λ c. c.sent) (state head es) p c e) ∙ h ∙ ap (λ xs. xs ++ sent_values head es p) (no_total (λ c. c.sent) p))

pub received-law : (head : Head) (es : List Entry) (p : Port) (c : Channel) → channel_at (state head es) p ≡ Some c
    → received_values head es p ≡ take c.received c.sent
received-law head es p c e =
    let h = got-after (opening head) [] es p (sound-opening head) tt in
    sym (sym (total_at (λ c. take c.received c.sent) (state head es) p c e) ∙ h
    ∙ ap (λ xs. xs ++ received_values head es p) (no_total (λ c. take c.received c.sent) p))

-- the values received, then those in the buffer, are the values sent
pub values-law : (head : Head) (es : List Entry) (p : Port) (c : Channel) → channel_at (state head es) p ≡ Some c
    → received_values head es p ++ buffer_of c ≡ sent_values head es p
values-law head es p c e = ap (λ xs. xs ++ buffer_of c) (received-law head es p c e) ∙ take-append-drop c.received c.sent ∙ sym (sent-law head es p c e)
