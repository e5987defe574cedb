-- No more values are sent on a port than there are admitted entries that are no exits.
use Rattle.hub_laws.proofs.Prelude.{common_steps, ◌≡◌, Bool, true, false, List, [], ◌∷◌, ◌++◌, refl, sym, Option, Some, None, ℕ, ◌==◌, ◌+◌, ◌≤◌, cond}
use Rattle.hub_laws.proofs.Prelude.{length}
use Rattle.hub_laws.proofs.Prelude.{arith, ◌-◌, option_map_or, slice_get, Entry, Step, Event, Fault, Head, Port, is_exit, admits, moves, state_after}
use Rattle.hub_laws.proofs.Prelude.{state}
use Rattle.hub_laws.proofs.Prelude.{kept_after, keeps, State, Channel, channel_at, opening, refusal, turn, one_step, steps_of, Turned, CountsLaw}
use Rattle.hub_laws.proofs.Prelude.{port_touched}
use Rattle.hub_laws.proofs.Prelude.{IsSound, opened}
use Rattle.hub_laws.proofs.Deeds.{Knows, Deed, deed_of, told, at, Does, DoesAt}
use Rattle.hub_laws.proofs.Does.{does-others, does-at}
use Rattle.hub_laws.proofs.Kept.{sound-opening}
use Rattle.hub_laws.proofs.Rules.{moves-sound, state-sound}
use Rattle.hub_laws.proofs.Turns.{in_force, moves-turn}

-- how many values were sent on a port
abbrev pub sends_of : Option Channel → ℕ
sends_of o = option_map_or (λ c. length c.sent) o 0

-- One step sends at most one

does_sends : (cs ts : List Channel) (again : Option Port) (deeds : List Deed) (p : Port) → DoesAt cs ts again deeds p →
    sends_of (at ts p) ≤ sends_of (at cs p) + 1
does_sends cs ts again deeds p x4 = grind (arith, common_steps)

-- and where it names no port, none
idle_sends : (cs ts : List Channel) (named again : Option Port) (deeds : List Deed) (p : Port) → named ≡ None →
    Does cs ts named again deeds → sends_of (at ts p) ≤ sends_of (at cs p)
idle_sends cs ts named again deeds p none does = rw (does-others cs ts named again deeds does p (rw none refl)) (omega arith)

exit_names_none : (step : Step) (events : List Event) → is_exit step ≡ true → port_touched step events ≡ None
exit_names_none step x1 e = grind arith

step_sends : (s t : State) (e : Entry) (events : List Event) (deeds : List Deed) (p : Port) →
    Does s.channels t.channels (port_touched e.step events) (opened e.step events) deeds →
    sends_of (channel_at t p) ≤ sends_of (channel_at s p) + one_step e
step_sends s t e events deeds p does = by (is_exit e.step) refl
  where
    named : Option Port
    named = port_touched e.step events

    again : Option Port
    again = opened e.step events

    by : (b : Bool) → b ≡ is_exit e.step → sends_of (channel_at t p) ≤ sends_of (channel_at s p) + cond b 0 1
    by true is = omega (arith, idle_sends s.channels t.channels named again deeds p (exit_names_none e.step events (sym is)) does)
    by false is = does_sends s.channels t.channels again deeds p (does-at s.channels t.channels named again deeds does p)

-- Runs

entry_sends : (s : State) (e : Entry) (o : Option Fault) (deeds : List Deed) (p : Port) →
    Does s.channels (admits s e o).state.channels (port_touched e.step (admits s e o).events) (opened e.step (admits s e o).events) deeds →
    sends_of (channel_at (admits s e o).state p) ≤ sends_of (channel_at s p) + steps_of (keeps o e [])
entry_sends s e None deeds p does = omega (arith, step_sends s (turn s e).state e (turn s e).events deeds p does)
entry_sends s e (Some f) deeds p does = omega arith

keeps_steps : (o : Option Fault) (e : Entry) (es : List Entry) → steps_of (keeps o e es) ≡ steps_of (keeps o e []) + steps_of es
keeps_steps None e es = omega arith
keeps_steps (Some f) e es = omega arith

-- a run from a state
sends_after : (s : State) (ts : List Turned) (es : List Entry) (p : Port) → IsSound s → Knows (in_force ts) s.parked
    → sends_of (channel_at (state_after s es) p) ≤ sends_of (channel_at s p) + steps_of (kept_after s es)
sends_after s ts [] p sound knows = omega arith
sends_after s ts (e ∷ es) p sound knows =
    let t : Turned = record { entry = e; events = (moves s e).events } in
    let laws = moves-turn s e ts sound knows in
    omega (
      arith,
      entry_sends s e (refusal s e.pid) (told deed_of (in_force (ts ++ t ∷ [])) (moves s e).events) p laws.does,
      keeps_steps (refusal s e.pid) e (kept_after (moves s e).state es),
      sends_after (moves s e).state (ts ++ t ∷ []) es p (moves-sound s e sound) laws.knows,
    )

no_sends : (b : Bool) (i : ℕ) → sends_of (cond b None (slice_get {X = Channel} [] i)) ≡ 0
no_sends true i = refl
no_sends false i = refl

-- no count of a run passes the number of its admitted entries that are no exits
pub counts-law : (head : Head) (es : List Entry) → CountsLaw head es
counts-law head es p c e =
    let most = sends_after (opening head) [] es p (sound-opening head) tt in
    let here : sends_of (channel_at (state head es) p) ≡ length c.sent = rw e refl in
    let none : sends_of (channel_at (opening head) p) ≡ 0 = no_sends (p.0 == 0) (p.0 - 1) in
    record { received = ((state-sound head es).ports p c e).received; sent = omega (arith, most, here, none) }
