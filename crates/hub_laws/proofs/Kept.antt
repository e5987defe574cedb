-- Soundness of one port: where calls end or wait, and after each thing that a step does to its channel.
use Rattle.hub_laws.proofs.Prelude.{◌≡◌, Bool, true, false, List, [], ◌∷◌, ◌++◌, refl, ◌∙◌, sym, Some, ℕ, ◌+◌, not, length, arith, filter, ◌||◌, inl}
use Rattle.hub_laws.proofs.Prelude.{inr, ◌-◌}
use Rattle.hub_laws.proofs.Prelude.{◌<◌, nat_lt, or_parts, or_left, or_right, or_from, or_cases, false_from_ne_true, ltb-false, common_steps, list_any}
use Rattle.hub_laws.proofs.Prelude.{AllByRecursion, is_some, Case, Head, Pid, Port, Value, can_proceed, port_of, is_recv_on, first_with, is_send_on, is_on}
use Rattle.hub_laws.proofs.Prelude.{State, Channel, OpenCall, channel_at, opening, after_receive, shut, reopened, after_send, ◌≤◌, IsSound, PortSound}
use Rattle.hub_laws.proofs.Prelude.{some_call, Alone}
use Rattle.hub_laws.proofs.Prelude.{CallFits, Edition}
use Rattle.hub_laws.proofs.Calls.{Fewer, fewer-filter, first-some, any_snoc, alone_snoc}
use Rattle.hub_laws.proofs.Deeds.{fresh}
use Rattle.hub_laws.proofs.Ready.{no_recv, no_send}

-- at the opening
pub sound-opening : (head : Head) → IsSound (opening head)
sound-opening head = grind arith

-- a channel that stays, while calls end
pub port-fewer : (p : Port) (c : Channel) (kept calls : List OpenCall) → Fewer kept calls → PortSound p c calls → PortSound p c kept
port-fewer p c kept calls fewer f = grind arith

-- a value that goes through
pub port-through : (p : Port) (v : Value) (c : Channel) (calls : List OpenCall) → PortSound p c calls → c.closed ≡ false
    → PortSound p (after_receive (after_send v c)) calls
port-through p v c calls f live = grind (arith, common_steps)

-- a value that goes into the buffer
pub port-sent : (p : Port) (v : Value) (c : Channel) (calls : List OpenCall) → PortSound p c calls → c.closed ≡ false
    → some_call (is_recv_on p) calls ≡ false → length c.sent < c.received + c.cap → PortSound p (after_send v c) calls
port-sent p v c calls f live none room = grind (arith, common_steps)

-- a value that comes out of the buffer
pub port-received : (p : Port) (c : Channel) (calls : List OpenCall) → PortSound p c calls → some_call (is_send_on p) calls ≡ false
    → c.received < length c.sent → PortSound p (after_receive c) calls
port-received p c calls f none some = grind arith

pub room_by : (x y : Bool) (c : Channel) → x ≡ false → y ≡ false → (x || y || nat_lt (length c.sent - c.received) c.cap) ≡ true
    → length c.sent < c.received + c.cap
room_by x0 y c d e h = grind arith

-- a call that waits

or3_none : (x y z : Bool) → (x || y || z) ≡ false → (x ≡ false) × (y ≡ false) × (z ≡ false)
or3_none x0 y z e = grind arith

pub port-parks : (s : State) (pid : Pid) (cases : List Case) (p : Port) (c : Channel) → channel_at s p ≡ Some c →
    list_any (can_proceed s) cases ≡ false → PortSound p c s.parked →
    PortSound p c (s.parked ++ record { pid = pid; cases = cases } ∷ [])
port-parks s pid cases p c e none f =
    let recvs = any_snoc (λ call. list_any (is_recv_on p) call.cases) s.parked (record { pid = pid; cases = cases }) in
    let sends = any_snoc (λ call. list_any (is_send_on p) call.cases) s.parked (record { pid = pid; cases = cases }) in
    -- what the test said of a receive, and of a send
    let recv = λ (h : list_any (is_recv_on p) cases ≡ true). or3_none (is_some (first_with (is_send_on p) s.parked))
    (nat_lt c.received (length c.sent)) c.closed (no_recv s p c cases e none h) in
    let send = λ (h : list_any (is_send_on p) cases ≡ true). or3_none c.closed (is_some (first_with (is_recv_on p) s.parked))
    (nat_lt (length c.sent - c.received) c.cap) (no_send s p c cases e none h) in
    record {
      received = f.received;
      fits = f.fits;
      receivers = λ h. elim (or_cases (some_call (is_recv_on p) s.parked) (list_any (is_recv_on p) cases) (sym recvs ∙ h)) [
        | inl l ↦ f.receivers l
        | inr r ↦ omega (arith, f.received, ltb-false c.received (length c.sent) (recv r).1)
      ];
      senders = λ h. elim (or_cases (some_call (is_send_on p) s.parked) (list_any (is_send_on p) cases) (sym sends ∙ h)) [
        | inl l ↦ f.senders l
        | inr r ↦ omega (arith, f.fits, f.received, ltb-false (length c.sent - c.received) c.cap (send r).2)
      ];
      ended = λ h. (
        recvs ∙ or_from (some_call (is_recv_on p) s.parked) (list_any (is_recv_on p) cases) (f.ended h).0
            (false_from_ne_true (list_any (is_recv_on p) cases) (λ r. let g = (recv r).2 in cc)),
        sends ∙ or_from (some_call (is_send_on p) s.parked) (list_any (is_send_on p) cases) (f.ended h).1
            (false_from_ne_true (list_any (is_send_on p) cases) (λ r. let g = (send r).0 in cc)),
      );
      alone = alone_snoc p s.parked (record { pid = pid; cases = cases }) f.alone (λ r. sym (first-some (is_send_on p) s.parked) ∙ (recv r).0)
          (λ r. sym (first-some (is_recv_on p) s.parked) ∙ (send r).1);
    }

-- a close

pub any_more : {A : Type 0} (t u : A → Bool) (xs : List A) → ((x : A) → t x ≡ true → u x ≡ true) → list_any t xs ≡ true → list_any u xs ≡ true
any_more t u [] imp e = e
any_more t u (x ∷ xs) imp e = elim (or_cases (t x) (list_any t xs) e) [
  | inl l ↦ or_left (u x) (list_any u xs) (imp x l)
  | inr r ↦ or_right (u x) (list_any u xs) (any_more t u xs imp r)
]

-- a close leaves no such call
gone_on : (t u : Case → Bool) (calls : List OpenCall) → ((c : Case) → t c ≡ true → u c ≡ true)
    → some_call t (filter (λ call. not (list_any u call.cases)) calls) ≡ false
gone_on t u [] imp = refl
gone_on t u (call ∷ calls) imp = grind (arith, any_more t u call.cases imp, gone_on t u calls imp)

pub port-shut : (p : Port) (c : Channel) (calls : List OpenCall) → PortSound p c calls →
    PortSound p (shut c) (filter (λ call. not (list_any (is_on p) call.cases)) calls)
port-shut p c calls f =
    let kept : List OpenCall = filter (λ call. not (list_any (is_on p) call.cases)) calls in
    let recvs : some_call (is_recv_on p) kept ≡ false = gone_on (is_recv_on p) (is_on p) calls (λ k e. or_right (is_send_on p k) (is_recv_on p k) e) in
    let sends : some_call (is_send_on p) kept ≡ false = gone_on (is_send_on p) (is_on p) calls (λ k e. or_left (is_send_on p k) (is_recv_on p k) e) in
    record {
      received = f.received;
      fits = f.fits;
      receivers = λ h. absurd (let g : some_call (is_recv_on p) kept ≡ true = h in cc);
      senders = λ h. absurd (let g : some_call (is_send_on p) kept ≡ true = h in cc);
      ended = λ h. (recvs, sends);
      alone = (fewer-filter (λ call. not (list_any (is_on p) call.cases)) calls).alone p f.alone;
    }

-- a reopen

pub port-reopened : (p : Port) (c : Channel) (cap : ℕ) (calls : List OpenCall) → c.closed ≡ true → length c.sent ≤ c.received →
    PortSound p c calls → PortSound p (reopened cap c) calls
port-reopened p c cap calls over drained f =
    let none = f.ended over in
    record {
      received = f.received;
      fits = omega (arith, f.received, drained);
      receivers = λ h. omega (arith, f.received, drained);
      senders = λ h. absurd (let g = none.1 in let k : ⊥ = cc in k);
      ended = λ h. absurd (let k : ⊥ = cc in k);
      alone = f.alone;
    }

-- a make

-- nobody waits on a port that was not made
unmade : (edition : Edition) (n : ℕ) (t : Case → Bool) (calls : List OpenCall) → AllByRecursion (CallFits edition n) calls
    → ((c : Case) → t c ≡ true → nat_lt n (port_of c).0 ≡ true) → some_call t calls ≡ false
unmade edition n t [] a imp = refl
unmade edition n t (call ∷ calls) a imp = grind (arith, any_more, unmade edition n t calls a.1 imp)

alone-none : (p : Port) (calls : List OpenCall) → some_call (is_recv_on p) calls ≡ false → some_call (is_send_on p) calls ≡ false → Alone p calls
alone-none p [] r w = tt
alone-none p (call ∷ calls) r w =
    let r' = or_parts (list_any (is_recv_on p) call.cases) (some_call (is_recv_on p) calls) r in
    let w' = or_parts (list_any (is_send_on p) call.cases) (some_call (is_send_on p) calls) w in
    (λ e. w'.1, λ e. r'.1, alone-none p calls r'.1 w'.1)

pub port-fresh : (s : State) (q : Port) (cap : ℕ) → IsSound s → q.0 ≡ length s.channels + 1 →
    PortSound q (fresh cap) s.parked
port-fresh s q cap sound new = grind (arith, unmade, alone-none)
