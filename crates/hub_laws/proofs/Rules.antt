-- Each admitted entry keeps soundness.
use Rattle.hub_laws.proofs.Prelude.{common_steps, ◌≡◌, Bool, true, false, List, [], ◌∷◌, ◌++◌, refl, ap, ◌∙◌, sym, subst, Option, Some, None, ℕ, ◌==◌, ◌≤◌}
use Rattle.hub_laws.proofs.Prelude.{cond, length, arith, inl, inr, ◌<◌, eqb-true, or_cases, list_any, Entry, Step, Call, What, Fault, Head, Pid, Port}
use Rattle.hub_laws.proofs.Prelude.{can_proceed, admits, moves, state_after, state, State, Channel, OpenCall, channel_at, opening, Change, fault_of}
use Rattle.hub_laws.proofs.Prelude.{answers}
use Rattle.hub_laws.proofs.Prelude.{refusal, turn, effect, has_gone, is_waiting, cases_or, is_answer_to, port_touched_by, is_port, is_parked, IsSound}
use Rattle.hub_laws.proofs.Prelude.{opened_by, is_start_of, is_exit, Exit, Make, Close, Cancel, Start, Reopen, ◌⊎◌}
use Rattle.hub_laws.proofs.Prelude.{PortSound, is_among, CallFits, Edition, AllByRecursion, all_more, all_snoc}
use Rattle.hub_laws.proofs.Account.{Account, NamedSound, call_of, deeds_of, with_caller, with_leaver, procs-of}
use Rattle.hub_laws.proofs.Entries.{answers-account, effect-account}
use Rattle.hub_laws.proofs.Calls.{Fewer, any_snoc, apart_snoc}
use Rattle.hub_laws.proofs.Gone.{leaves-by, still-here}
use Rattle.hub_laws.proofs.Deeds.{Deed, at}
use Rattle.hub_laws.proofs.Does.{does-grows, does-others}
use Rattle.hub_laws.proofs.Kept.{any_more, port-fewer, port-parks, sound-opening}
use Rattle.hub_laws.proofs.Ports.{same_port}
use Rattle.hub_laws.proofs.Ready.{Admitted, admitted, by-refusal}

-- The caller's call, where it waits

fitting : (s : State) (pid : Pid) (step : Step) → fault_of s step ≡ None →
    CallFits s.head.edition (length s.channels) (call_of pid step)
fitting s pid (Call cases default word) h = grind arith
fitting s pid step h = record { few = omega arith; made = refl }

parks_sound : (s : State) (call : OpenCall) → IsSound s → Admitted s call.pid → CallFits s.head.edition (length s.channels) call →
    list_any (can_proceed s) call.cases ≡ false → IsSound (record s { parked = s.parked ++ call ∷ [] })
parks_sound s call sound adm fits none = record {
  apart = apart_snoc s.parked call sound.apart adm.free;
  present = λ q h. elim (or_cases (is_waiting s q) (call.pid.0 == q) (sym (any_snoc (λ call. call.pid.0 == q) s.parked call) ∙ h)) [
    | inl l ↦ sound.present q l
    | inr r ↦ let P : ℕ → Type 0 = λ n. (n < s.head.procs) × (has_gone s n ≡ false) in subst P (eqb-true call.pid.0 q r) (adm.below, adm.here)
  ];
  calls = all_snoc (CallFits s.head.edition (length s.channels)) s.parked call sound.calls fits;
  ports = λ p c e. port-parks s call.pid call.cases p c e none (sound.ports p c e);
}

caller_sound : (s : State) (pid : Pid) (step : Step) (w : What) → IsSound s → Admitted s pid →
    fault_of s step ≡ None → (is_parked w ≡ true → list_any (can_proceed s) (cases_or step []) ≡ false) →
    IsSound (record s { parked = with_caller s.parked pid step w })
caller_sound s pid step w sound adm h blocked = by (is_parked w) refl
  where
    by : (b : Bool) → b ≡ is_parked w →
        IsSound (record s { parked = cond b (s.parked ++ call_of pid step ∷ []) s.parked })
    by true is = parks_sound s (call_of pid step) sound adm (fitting s pid step h) (blocked (sym is))
    by false is = sound

fits_more : (edition : Edition) (n m : ℕ) (call : OpenCall) → n ≤ m → CallFits edition n call → CallFits edition m call
fits_more edition n m call h f = grind (arith, any_more)

-- A step

-- none of those that wait then has exited
none_left : (q : ℕ) (s : State) (pid : Pid) (step : Step) (w : What) → Admitted s pid → is_answer_to step w ≡ true →
    is_among q (with_caller s.parked pid step w) ≡ true → has_gone s q ≡ false →
    list_any (λ g. g.0 == q) (with_leaver s.gone pid step) ≡ false
none_left q s pid step w adm fits among here =
    leaves-by q s.gone pid step ∙ still-here (has_gone s q) (is_start_of q step) (is_exit step) (pid.0 == q) here (by step fits among)
  where
    exits_alone : is_answer_to Exit w ≡ true → is_among q (with_caller s.parked pid Exit w) ≡ true → (pid.0 == q) ≡ false
    exits_alone fits among = grind (arith, common_steps)

    by : (step : Step) → is_answer_to step w ≡ true → is_among q (with_caller s.parked pid step w) ≡ true →
        (is_exit step ≡ false) ⊎ ((pid.0 == q) ≡ false)
    by Exit fits among = inr (exits_alone fits among)
    by (Make cap) fits among = inl refl
    by (Call cases default word) fits among = inl refl
    by (Close p) fits among = inl refl
    by (Cancel r) fits among = inl refl
    by (Start r) fits among = inl refl
    by (Reopen p cap) fits among = inl refl

-- each port: the one that the answer names, or one that is as it was
port_sound : (s t : State) (named : Option Port) (calls : List OpenCall) (p : Port) (x : Channel) →
    NamedSound named t.channels t.parked →
    ((p : Port) → is_port named p ≡ false → at t.channels p ≡ at s.channels p) →
    ((c : Channel) → channel_at s p ≡ Some c → PortSound p c calls) → Fewer t.parked calls → channel_at t p ≡ Some x →
    PortSound p x t.parked
port_sound s t named calls p x here others before fewer e = by named (is_port named p) refl refl
  where
    by : (o : Option Port) (b : Bool) → o ≡ named → b ≡ is_port o p → PortSound p x t.parked
    by o false names is =
        port-fewer p x t.parked calls fewer (before x (sym (others p (ap (λ r. is_port r p) (sym names) ∙ sym is)) ∙ e))
    by None true names is = cc
    by (Some q) true names is =
        let same : q ≡ p = same_port q p (eqb-true q.0 p.0 (sym is)) in
        here p x (sym names ∙ ap (λ r. Some r) same) e

account_sound : (s : State) (pid : Pid) (step : Step) (c : Change) → IsSound s → Admitted s pid →
    fault_of s step ≡ None → Account s pid step c → IsSound c.state
account_sound s pid step c sound adm h a =
    let named : Option Port = port_touched_by step a.answer in
    let back : Option Port = opened_by step a.answer in
    let deeds : List Deed = deeds_of step a.answer a.ended in
    let waiting : List OpenCall = with_caller s.parked pid step a.answer in
    let before : IsSound (record s { parked = waiting }) = caller_sound s pid step a.answer sound adm h a.blocked in
    let grows = does-grows s.channels c.state.channels named back deeds (a.does sound) in
    record {
      apart = a.fewer.apart before.apart;
      present = λ q w.
          let among = a.fewer.among q w in
          let there = before.present q among in
          let here = none_left q s pid step a.answer adm a.fits among there.1 in
          (omega (arith, there.0, procs-of a.head), ap (λ xs. list_any (λ (g : Pid). g.0 == q) xs) a.gone ∙ here);
      calls =
          subst (λ (h : Head). AllByRecursion (CallFits h.edition (length c.state.channels)) c.state.parked) (sym a.head)
          (all_more (CallFits s.head.edition (length s.channels)) (CallFits s.head.edition (length c.state.channels)) c.state.parked
          (λ call. fits_more s.head.edition (length s.channels) (length c.state.channels) call grows)
          (a.fewer.each s.head.edition (length s.channels) before.calls));
      ports = λ p x e.
          let others = does-others s.channels c.state.channels named back deeds (a.does sound) in
          port_sound s c.state named waiting p x (a.sound sound) others (before.ports p) a.fewer e;
    }

pub effect-sound : (s : State) (pid : Pid) (step : Step) → IsSound s → Admitted s pid → fault_of s step ≡ None → IsSound (effect s pid step).state
effect-sound s pid step sound adm h = grind (arith, account_sound s pid step (effect s pid step) sound adm h (effect-account s pid step h))

pub turn-sound : (s : State) (e : Entry) → IsSound s → refusal s e.pid ≡ None → IsSound (turn s e).state
turn-sound s e sound is = by (fault_of s e.step) refl
  where
    by : (o : Option Fault) → o ≡ fault_of s e.step → IsSound (answers s e o).state
    by None m = account_sound s e.pid e.step (answers s e None) sound (admitted s e.pid is) (sym m) (answers-account s e None m)
    by (Some f) m = sound

pub moves-sound : (s : State) (e : Entry) → IsSound s → IsSound (moves s e).state
moves-sound s e sound = by-refusal (λ o. IsSound (admits s e o).state) s e.pid (turn-sound s e sound) (λ f is. sound)

pub state_after-sound : (s : State) (es : List Entry) → IsSound s → IsSound (state_after s es)
state_after-sound s [] sound = sound
state_after-sound s (e ∷ es) sound = state_after-sound (moves s e).state es (moves-sound s e sound)

-- every state of a run is sound
pub state-sound : (head : Head) (es : List Entry) → IsSound (state head es)
state-sound head es = state_after-sound (opening head) es (sound-opening head)
