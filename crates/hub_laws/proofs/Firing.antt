-- The account of a call: a case that fires, alone or with an open call, or none.
use Rattle.hub_laws.proofs.Prelude.{◌≡◌, Bool, true, false, List, [], ◌∷◌, refl, ap, sym, Option, Some, None, ℕ, ◌==◌, ◌+◌, not, length, arith, ◌-◌}
use Rattle.hub_laws.proofs.Prelude.{◌<◌, ◌%◌}
use Rattle.hub_laws.proofs.Prelude.{false_from_ne_true, slice_get_within, list_any, option_map_or, slice_get, is_some, slice_set, Case, Send, Recv}
use Rattle.hub_laws.proofs.Prelude.{Step, Call}
use Rattle.hub_laws.proofs.Prelude.{Outcome, Sent, Closed, Got, Drained, Pid, Port, Value, can_proceed, port_of, is_recv_on, first_with, is_send_on}
use Rattle.hub_laws.proofs.Prelude.{Ending}
use Rattle.hub_laws.proofs.Prelude.{without, ready, send_can, recv_can, State, Channel, OpenCall, channel_at, calls, after_receive, Firing, after_send}
use Rattle.hub_laws.proofs.Prelude.{send_meets, send_fires, fired, next_value, fires, proceeds, chooses, outcome_of, with_sent, recv_takes, recv_meets}
use Rattle.hub_laws.proofs.Prelude.{found_closed, shown, Shown, IsSound, PortSound, some_call}
use Rattle.hub_base.specs.declared.event.What.TheVariants as what
use Rattle.hub_laws.proofs.Branches.{by-closed}
use Rattle.hub_laws.proofs.Calls.{Fewer, fewer-filter}
use Rattle.hub_laws.proofs.Deeds.{Deed, Moved, Wrote, buffers, hands, fetches, gives, drains, refuses, wrote}
use Rattle.hub_laws.proofs.Does.{wrote-set, wrote-same, wrote-still, wrote-moves, next_sent}
use Rattle.hub_laws.proofs.Fires.{is_recv, is_send, some_first, longer}
use Rattle.hub_laws.proofs.Kept.{port-fewer, port-through, port-sent, port-received, room_by}
use Rattle.hub_laws.proofs.Leaving.{Ended, nobody, next, first-goes}
use Rattle.hub_laws.proofs.Ready.{chosen, none_can, ready_none}
use Rattle.hub_laws.proofs.Account.{Account, alone, silent, named_sound}

-- A case of a call that fires

abbrev deed : Case → Outcome → Deed
deed k o = record { case = k; outcome = o }

-- what is sent or received is shown

more : (c d : Channel) → length c.sent + c.received < length d.sent + d.received → shown c ≡ shown d → ⊥
more c d h e = absurd (omega (arith, h, ap (λ (x : Shown). x.sent) e, ap (λ (x : Shown). x.received) e))

module _ (s : State) (pid : Pid) (cases : List Case) (default : Bool) (word i : ℕ) where
  abbrev this : Step
  this = Call (record { items = cases }) default word

  abbrev Fires : Firing → Type 0
  Fires f = Account s pid this (proceeds s pid i (Some f))

  alone_fires : (ts : List Channel) (k : Case) (o : Outcome) (c d : Channel) → slice_get cases i ≡ Some k →
      Wrote s.channels ts (port_of k) c d → Moved (port_of k) c d None (deed k o ∷ []) →
      (found_closed (what.Fired i o) ≡ true → d ≡ c) → (found_closed (what.Fired i o) ≡ false → shown c ≡ shown d → ⊥) →
      (IsSound s → PortSound (port_of k) d s.parked) →
      Fires (record { outcome = o; state = record s { channels = ts }; ended = [] })
  alone_fires ts k o c d mine w m still moved fine =
      let p : Port = port_of k in
      alone s ts pid this (what.Fired i o) refl (k, mine) (λ h. cc) (λ sound. rw mine (wrote p c d refl w m))
      (λ h sound. wrote-still s.channels ts p c d w (still h))
      (λ h sound. rw mine (wrote-moves s.channels ts p c d w (moved h)))
      (λ sound. rw mine (named_sound (Some p) s.channels ts p c d s.parked refl w (fine sound)))

  -- with the oldest call that waits for it
  meets : (ts : List Channel) (k : Case) (o its : Outcome) (test : Case → Bool) (x : Ending) (c d : Channel) →
      slice_get cases i ≡ Some k → first_with test s.parked ≡ Some x → channel_at s (port_of k) ≡ Some c →
      Wrote s.channels ts (port_of k) c d →
      (found_closed (what.Fired i o) ≡ true → IsSound s → test x.at.case ≡ true → ⊥) →
      (found_closed (what.Fired i o) ≡ false → IsSound s → test x.at.case ≡ true → shown c ≡ shown d → ⊥) →
      (IsSound s → test x.at.case ≡ true →
      Moved (port_of k) c d None (deed k o ∷ deed x.at.case its ∷ [])
      × ((calls : List OpenCall) → PortSound (port_of k) c calls → PortSound (port_of k) d calls)) →
      Fires (record {
        outcome = o;
        state = record s { parked = without x.pid s.parked; channels = ts };
        ended = fired x.pid x.at.index its ∷ [];
      })
  meets ts k o its test x c d mine is old w open_still moved does =
      let p : Port = port_of k in
      let f = first-goes test s.parked x is in
      let e : Ended = record { call = f.call; what = what.Fired x.at.index its } in
      let kept : List OpenCall = without x.pid s.parked in
      let fewer : Fewer kept s.parked = fewer-filter (λ call. not (call.pid.0 == x.pid.0)) s.parked in
      record {
        answer = what.Fired i o;
        ended = e ∷ [];
        told = ap (λ (p : Pid). fired pid i o ∷ fired p x.at.index its ∷ []) (sym f.pid);
        fits = refl;
        placed = (k, mine);
        ends = ((refl, (x.at.case, f.stands)), tt);
        leaves = λ a. next e [] s.parked kept kept (f.known f.pid a) (nobody kept);
        fewer = fewer;
        blocked = λ h. cc;
        does = λ sound. rw (mine, f.stands) (wrote p c d refl w (does sound f.passes).0);
        still = λ h sound. absurd (open_still h sound f.passes);
        moved = λ h sound. rw mine (wrote-moves s.channels ts p c d w (moved h sound f.passes));
        sound = λ sound.
            let still : PortSound p c kept = port-fewer p c kept s.parked fewer (sound.ports p c old) in
            rw mine (named_sound (Some p) s.channels ts p c d kept refl w ((does sound f.passes).1 kept still));
        head = refl;
        gone = refl;
      }

  send_account : (p : Port) (v : Value) (c : Channel) (o : Option Ending) → slice_get cases i ≡ Some (Send p v) →
      channel_at s p ≡ Some c → send_can s p c ≡ true → c.closed ≡ false → o ≡ first_with (is_recv_on p) s.parked →
      Fires (send_meets s p (after_send v c) o)
  send_account p v c None mine e can live is =
      let d : Channel = after_send v c in
      let none : some_call (is_recv_on p) s.parked ≡ false = sym (some_first (is_recv_on p) s.parked None is) in
      let first : is_some (first_with (is_recv_on p) s.parked) ≡ false = ap (λ x. is_some x) (sym is) in
      let room = room_by c.closed (is_some (first_with (is_recv_on p) s.parked)) c live first can in
      alone_fires (slice_set s.channels (p.0 - 1) d) (Send p v) Sent c d mine (wrote-set s p c d e)
      (buffers v live refl refl) (λ h. cc) (λ h. more c d (omega (arith, longer v c))) (λ sound. port-sent p v c s.parked (sound.ports p c e) live none room)
  send_account p v c (Some x) mine e can live is =
      let d : Channel = after_receive (after_send v c) in
      let its : Outcome = outcome_of (next_value (after_send v c)) in
      meets (slice_set s.channels (p.0 - 1) d) (Send p v) Sent its (is_recv_on p) x c d mine (sym is) e
      (wrote-set s p c d e) (λ h sound passes. cc) (λ h sound passes. more c d (omega (arith, longer v c))) (λ sound passes.
      let w = next_sent s p v c sound e in
      let moved = hands v w.0 live w.1 refl (rw (is_recv p x.at.case passes, w.1) refl) in
      (moved, λ calls fine. port-through p v c calls fine live))

  takes_account : (p : Port) (c : Channel) (o : Option Value) → slice_get cases i ≡ Some (Recv p) →
      channel_at s p ≡ Some c → some_call (is_send_on p) s.parked ≡ false → o ≡ next_value c →
      Fires (recv_takes s p c [] o)
  takes_account p c None mine e none is =
      alone_fires (slice_set s.channels (p.0 - 1) c) (Recv p) Drained c c mine (wrote-set s p c c e)
      (drains (sym is) refl refl) (λ h. refl) (λ h. cc) (λ sound. sound.ports p c e)
  takes_account p c (Some w) mine e none is =
      let d : Channel = after_receive c in
      alone_fires (slice_set s.channels (p.0 - 1) d) (Recv p) (Got w) c d mine (wrote-set s p c d e)
      (gives w (sym is) refl refl) (λ h. cc) (λ h. more c d (omega arith))
      (λ sound. port-received p c s.parked (sound.ports p c e) none (slice_get_within c.sent c.received w (sym is)))

  fetches_account : (p : Port) (c : Channel) (x : Ending) (o : Option Value) → slice_get cases i ≡ Some (Recv p) →
      channel_at s p ≡ Some c → first_with (is_send_on p) s.parked ≡ Some x → o ≡ next_value (with_sent x.at.case c) →
      Fires
      (recv_takes (record s { parked = without x.pid s.parked }) p (with_sent x.at.case c) (fired x.pid x.at.index Sent ∷ []) o)
  fetches_account p c x None mine e is after =
      let d : Channel = with_sent x.at.case c in
      let never : IsSound s → is_send_on p x.at.case ≡ true → ⊥ = λ sound passes.
      let u = is_send p x.at.case passes in
      let w = next_sent s p u.0 c sound e in
      let none : None ≡ next_value (after_send u.0 c) = rw u.1 at after in
      cc in
      meets (slice_set s.channels (p.0 - 1) d) (Recv p) Drained Sent (is_send_on p) x c d mine is e
      (wrote-set s p c d e) (λ h. never) (λ h. cc) (λ sound passes. absurd (never sound passes))
  fetches_account p c x (Some w) mine e is after =
      let d : Channel = after_receive (with_sent x.at.case c) in
      meets (slice_set s.channels (p.0 - 1) d) (Recv p) (Got w) Sent (is_send_on p) x c d mine is e
      (wrote-set s p c d e) (λ h sound passes. cc) (λ h sound passes same.
      let u = is_send p x.at.case passes in
      more c (after_receive (after_send u.0 c)) (omega (arith, longer u.0 c)) (rw u.1 at same)) (λ sound passes.
      let u = is_send p x.at.case passes in
      let some : Some w ≡ next_value (after_send u.0 c) = rw u.1 at after in
      let waits : some_call (is_send_on p) s.parked ≡ true =
      sym (some_first (is_send_on p) s.parked (Some x) (sym is)) in
      let live : c.closed ≡ false = false_from_ne_true c.closed (λ h. let g = ((sound.ports p c e).ended h).1 in cc) in
      rw u.1 (fetches u.0 w live (sym some) refl refl, λ calls fine. port-through p u.0 c calls fine live))

  recv_account : (p : Port) (c : Channel) (o : Option Ending) → slice_get cases i ≡ Some (Recv p) →
      channel_at s p ≡ Some c → o ≡ first_with (is_send_on p) s.parked → Fires (recv_meets s p c o)
  recv_account p c None mine e is =
      takes_account p c (next_value c) mine e (sym (some_first (is_send_on p) s.parked None is)) refl
  recv_account p c (Some x) mine e is =
      fetches_account p c x (next_value (with_sent x.at.case c)) mine e (sym is) refl

  sends_account : (p : Port) (v : Value) (c : Channel) → slice_get cases i ≡ Some (Send p v) → channel_at s p ≡ Some c →
      send_can s p c ≡ true → Fires (send_fires s p v c)
  sends_account p v c mine e can =
      by-closed Fires s p v c
      (λ over.
      alone_fires s.channels (Send p v) Closed c c mine (wrote-same s p c e) (refuses v over refl refl)
      (λ h. refl) (λ h. cc) (λ sound. sound.ports p c e))
      (λ live. send_account p v c (first_with (is_recv_on p) s.parked) mine e can live refl)

  -- a case that can proceed has a channel
  fires_account : (k : Case) (o : Option Channel) → slice_get cases i ≡ Some k → o ≡ channel_at s (port_of k) →
      can_proceed s k ≡ true → Account s pid this (proceeds s pid i (fires s k o))
  fires_account (Send p v) None mine is can = let h : option_map_or (send_can s p) (channel_at s p) false ≡ true = can in let g = rw (sym is) at h in cc
  fires_account (Send p v) (Some c) mine is can =
      let h : option_map_or (send_can s p) (channel_at s p) false ≡ true = can in sends_account p v c mine (sym is) (rw (sym is) at h)
  fires_account (Recv p) None mine is can = let h : option_map_or (recv_can s p) (channel_at s p) false ≡ true = can in let g = rw (sym is) at h in cc
  fires_account (Recv p) (Some c) mine is can = recv_account p c (first_with (is_send_on p) s.parked) mine (sym is) refl

-- A call

-- the case that fires stands in its place, and can proceed
abbrev pub Picked : State → List Case → ℕ × Case → Type 0
Picked s cases x = (slice_get cases x.0 ≡ Some x.1) × (can_proceed s x.1 ≡ true)

pub picked : (s : State) (cases : List Case) (k : ℕ) (x : ℕ × Case) → slice_get (ready s cases) k ≡ Some x → Picked s cases x
picked s cases k x e = grind (arith, chosen (can_proceed s) 0 k cases x e)

chooses_account : (s : State) (pid : Pid) (cases : List Case) (default : Bool) (word : ℕ) (o : Option (ℕ × Case)) →
    (o ≡ None → list_any (can_proceed s) cases ≡ false) → ((x : ℕ × Case) → o ≡ Some x → Picked s cases x) →
    Account s pid (Call (record { items = cases }) default word) (chooses s pid cases default o)
chooses_account s pid cases true word None none some = grind (arith, silent s pid (Call (record { items = cases }) true word) what.Default)
chooses_account s pid cases false word None none some = grind (arith, silent s pid (Call (record { items = cases }) false word) what.Parked)
chooses_account s pid cases default word (Some x) none some =
    let f = some x refl in
    fires_account s pid cases default word x.0 x.1 (channel_at s (port_of x.1)) f.0 refl f.1

pub calls-account : (s : State) (pid : Pid) (cases : List Case) (default : Bool) (word : ℕ) →
    Account s pid (Call (record { items = cases }) default word) (calls s pid cases default word)
calls-account s pid cases default word =
    chooses_account s pid cases default word (slice_get (ready s cases) (word % length (ready s cases)))
    (λ h. none_can 0 (can_proceed s) cases (ready_none (ready s cases) word h))
    (λ x e. picked s cases (word % length (ready s cases)) x e)
