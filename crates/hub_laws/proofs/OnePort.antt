-- One entry writes at most the port that its answer names.
use Rattle.hub_laws.proofs.Prelude.{arith, ◌≡◌, Bool, true, false, List, [], ◌∷◌, ◌++◌, refl, ap, ◌∙◌, sym, subst, Option, Some, None, ◌==◌, cond, length}
use Rattle.hub_laws.proofs.Prelude.{option_map, option_map_or, Entry, Fault, Head, Port, admits, moves, state, State, channel_at, opening, refusal, turn}
use Rattle.hub_laws.proofs.Prelude.{port_touched_by, found_closed, shown, port_touched, is_port, IsMade, port_changed, OnePortLaw, IsSound, opened}
use Rattle.hub_laws.proofs.Prelude.{opened_by}
use Rattle.hub_laws.proofs.Account.{deeds_of}
use Rattle.hub_laws.proofs.Entries.{fault_names_none, turn-account}
use Rattle.hub_laws.proofs.Deeds.{Deed, Does, at, idle}
use Rattle.hub_laws.proofs.Does.{does-made, does-others}
use Rattle.hub_laws.proofs.Longer.{state_after-append}
use Rattle.hub_laws.proofs.Rules.{state-sound}

-- what an entry does to the channels, in a sound state
pub moves-does : (s : State) (e : Entry) (o : Option Fault) → IsSound s →
    (deeds : List Deed) × Does s.channels (admits s e o).state.channels (port_touched e.step (admits s e o).events) (opened e.step (admits s e o).events) deeds
moves-does s e None sound =
    let a = turn-account s e in
    let named : port_touched e.step (turn s e).events ≡ port_touched_by e.step a.answer = ap (port_touched e.step) a.told in
    let back : opened e.step (turn s e).events ≡ opened_by e.step a.answer = ap (opened e.step) a.told in
    (deeds_of e.step a.answer a.ended, rw (named, back) (a.does sound))
moves-does s e (Some f) sound = ([], idle (fault_names_none e.step f) refl refl)

-- and which of them it leaves as they are
pub moves-leaves : (s : State) (e : Entry) (o : Option Fault) → IsSound s → (p : Port) →
    is_port (port_changed e.step (admits s e o).events) p ≡ false → at (admits s e o).state.channels p ≡ at s.channels p
moves-leaves s e None sound p h =
    by (found_closed (turn-account s e).answer) refl
    (sym (ap (λ xs. is_port (port_changed e.step xs) p) (turn-account s e).told) ∙ h)
  where
    by : (b : Bool) → b ≡ found_closed (turn-account s e).answer →
        is_port (cond b None (port_touched_by e.step (turn-account s e).answer)) p ≡ false →
        at (turn s e).state.channels p ≡ at s.channels p
    by true is h = (turn-account s e).still (sym is) sound p
    by false is h =
        let a = turn-account s e in
        does-others s.channels (turn s e).state.channels (port_touched_by e.step a.answer) (opened_by e.step a.answer)
        (deeds_of e.step a.answer a.ended) (a.does sound) p h
moves-leaves s e (Some f) sound p h = refl

-- and that the one which it changes shows something else
pub moves-moved : (s : State) (e : Entry) (o : Option Fault) → IsSound s → (p : Port) →
    port_changed e.step (admits s e o).events ≡ Some p →
    option_map shown (at s.channels p) ≡ option_map shown (at (admits s e o).state.channels p) → ⊥
moves-moved s e None sound p h =
    by (found_closed (turn-account s e).answer) refl (sym (ap (port_changed e.step) (turn-account s e).told) ∙ h)
  where
    by : (b : Bool) → b ≡ found_closed (turn-account s e).answer →
        cond b None (port_touched_by e.step (turn-account s e).answer) ≡ Some p →
        option_map shown (at s.channels p) ≡ option_map shown (at (turn s e).state.channels p) → ⊥
    by true is h = cc
    by false is h = (turn-account s e).moved (sym is) sound p h
moves-moved s e (Some f) sound p h = grind arith

other_number : (o : Option Port) (p : Port) → (option_map_or (λ q. q.0) o 0 == p.0) ≡ false → is_port o p ≡ false
other_number None p h = refl
other_number (Some q) p h = h

pub one_port-law : (head : Head) (es : List Entry) (e : Entry) → OnePortLaw head es e
one_port-law head es e =
    let s : State = state head es in
    let after : state head (es ++ e ∷ []) ≡ (moves s e).state = state_after-append (opening head) es (e ∷ []) in
    let named : Option Port = port_touched e.step (moves s e).events in
    let d = moves-does s e (refusal s e.pid) (state-sound head es) in
    let changed : Option Port = port_changed e.step (moves s e).events in
    let others : (p : Port) → is_port changed p ≡ false → channel_at (state head (es ++ e ∷ [])) p ≡ channel_at s p =
    λ p h. ap (λ (s : State). channel_at s p) after ∙ moves-leaves s e (refusal s e.pid) (state-sound head es) p h in
    record {
      made = λ p h.
          subst (λ (s : State). IsMade p (length s.channels)) (sym after)
          (does-made s.channels (moves s e).state.channels named (opened e.step (moves s e).events) d.0 d.1 p h);
      others = others;
      numbers = λ p h. others p (other_number changed p h);
      moved = λ p h same.
          moves-moved s e (refusal s e.pid) (state-sound head es) p h (same ∙ ap (λ (s : State). option_map shown (channel_at s p)) after);
    }
