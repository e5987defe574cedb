-- The words of soundness over buffers.
use Rattle.hub_laws.proofs.Prelude.{◌≡◌, Bool, false, List, [], ◌∷◌, refl, ◌≤◌, length, arith, or_parts, or_from, drop_all, length-drop, list_any, Entry, Head}
use Rattle.hub_laws.proofs.Prelude.{Port, is_recv_on, is_send_on, is_on, state, State, Channel, OpenCall, IsSound, PortSound, some_call, PortLaws, StateLaws}
use Rattle.hub_laws.proofs.Distinct.{count-below}
use Rattle.hub_laws.proofs.Lasting.{ports-law}
use Rattle.hub_laws.proofs.Rules.{state-sound}

none_either : {A : Type 0} (t u v : A → Bool) (xs : List A) → ((x : A) → t x ≡ false → u x ≡ false → v x ≡ false) →
    list_any t xs ≡ false → list_any u xs ≡ false → list_any v xs ≡ false
none_either t u v [] both r w = refl
none_either t u v (x ∷ xs) both r w =
    let r' = or_parts (t x) (list_any t xs) r in
    let w' = or_parts (u x) (list_any u xs) w in
    or_from (v x) (list_any v xs) (both x r'.0 w'.0) (none_either t u v xs both r'.1 w'.1)

on_none : (p : Port) (calls : List OpenCall) → some_call (is_recv_on p) calls ≡ false → some_call (is_send_on p) calls ≡ false
    → some_call (is_on p) calls ≡ false
on_none p calls =
    none_either (λ c. list_any (is_recv_on p) c.cases) (λ c. list_any (is_send_on p) c.cases) (λ c. list_any (is_on p) c.cases) calls
    (λ c. none_either (is_recv_on p) (is_send_on p) (is_on p) c.cases (λ k r w. or_from (is_send_on p k) (is_recv_on p k) w r))

port-laws : (p : Port) (c : Channel) (calls : List OpenCall) → PortSound p c calls → PortLaws p c calls
port-laws p c calls f = grind (arith, length-drop, drop_all, on_none)

pub count-law : (s : State) → IsSound s → length s.parked ≤ s.head.procs
count-law s sound = count-below s.head.procs s.parked sound.apart (λ q e. (sound.present q e).0)

pub state-laws : (head : Head) (es : List Entry) → StateLaws (state head es)
state-laws head es =
    let sound = state-sound head es in
    record {
      apart = sound.apart;
      present = sound.present;
      calls = sound.calls;
      ports = λ p c e. port-laws p c (state head es).parked (sound.ports p c e);
      few = ports-law head es;
      count = count-law (state head es) sound;
    }
