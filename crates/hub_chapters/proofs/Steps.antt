-- One step after two states that are alike: the same answers, and again states that are alike.
use Rattle.hub_laws.proofs.Prelude.{◌≡◌, Bool, true, false, List, [], ◌∷◌, ◌++◌, refl, ap, ◌∙◌, sym, subst, Option, Some, None, ℕ, ◌+◌, ◌≤◌, ◌==◌}
use Rattle.hub_laws.proofs.Prelude.{◌||◌, ◌&&◌, not, cond, ◌%◌, ◌-◌}
use Rattle.hub_laws.proofs.Prelude.{length, arith, map, nat_lt, nat_le, filter, filter_map, list_any, list_any-append, map-append, slice_get}
use Rattle.hub_laws.proofs.Prelude.{slice_set, option_map, option_map_or, enumerate_from}
use Rattle.hub_laws.proofs.Prelude.{Port, Value, Case, Send, Recv, Pid, Event, Closed, Sent, Fault, Head, Entry, Step, Make, Call, Close, Exit}
use Rattle.hub_laws.proofs.Prelude.{Cancel, Start, Reopen, reopens, reopened, reopen_fault, MOST_PORTS, MOST_CAP}
use Rattle.hub_laws.proofs.Gone.{any-but}
use Rattle.hub_laws.proofs.Prelude.{Channel, State, OpenCall, Change, Firing, Ending, after_send, after_receive, shut, next_value, outcome_of}
use Rattle.hub_laws.proofs.Prelude.{with_sent, tells, fired, without, port_of}
use Rattle.hub_laws.proofs.Prelude.{first_with, is_recv_on, is_send_on, is_on, send_can, recv_can, can_proceed, ready, send_meets, send_fires}
use Rattle.hub_laws.proofs.Prelude.{recv_takes, recv_meets, fires, proceeds, chooses, calls}
use Rattle.hub_laws.proofs.Prelude.{closes, close_fault, effect, stalls, all_wait, has_gone, fault_of, answers, turn, refusal, admits}
use Rattle.hub_laws.proofs.Prelude.{moves, IsSound}
use Rattle.std.proofs.lemmas.List.{map-set}
use Rattle.std.specs.List.{list_all, range_with_len}
use Rattle.hub_base.specs.Head.{most_cases}
use Rattle.hub_base.specs.State.{with_channel}
use Rattle.hub_base.specs.Steps.{waits}
use Rattle.hub_base.specs.declared.event.What.TheVariants as what
use Rattle.hub_base.specs.declared.fault.Fault.TheVariants as fault
use Rattle.hub_laws.proofs.Deeds.{at}
use Rattle.hub_chapters.specs.Alike.{afresh, Alike}
use Rattle.hub_chapters.proofs.Buffers.{Like, closed-like, next-like, room-like, some-like, received-like, sent-like, with_sent-like, shut-like}
use Rattle.hub_chapters.proofs.Buffers.{drained-like, reopened-like}
use Rattle.hub_chapters.proofs.Buffers.{at-like, count-like}
use Rattle.hub_chapters.proofs.Stalling.{stalls_if}

-- a state with the head and the open calls of another
abbrev pub beside : State → List Pid → List Channel → State
beside s gone channels = record s { gone = gone; channels = channels }

-- no channel has received more than it sent
abbrev Fine : List Channel → Type 0
Fine cs = (p : Port) (c : Channel) → at cs p ≡ Some c → c.received ≤ length c.sent

-- the state and the one beside it are alike, and the channels of both are sound
pub record Twin (s : State) (k : List Pid) (ds : List Channel) : Type 0 where
  pub gone : (q : ℕ) → has_gone s q ≡ has_gone (beside s k ds) q
  pub channels : map afresh s.channels ≡ map afresh ds
  pub fine : Fine s.channels
  pub fine_too : Fine ds

-- two steps tell the same events, and lead to states alike
pub record SameChange (c d : Change) : Type 0 where
  pub events : c.events ≡ d.events
  pub alike : Alike c.state d.state

-- and so do two cases that fire
pub record SameFiring (f g : Firing) : Type 0 where
  pub outcome : f.outcome ≡ g.outcome
  pub ended : f.ended ≡ g.ended
  pub alike : Alike f.state g.state

-- or neither fires
abbrev pub SameFires : Option Firing → Option Firing → Type 0
SameFires None None = Unit
SameFires (Some f) (Some g) = SameFiring f g
SameFires f g = ⊥

twin-alike : (s : State) (k : List Pid) (ds : List Channel) → Twin s k ds → Alike s (beside s k ds)
twin-alike s k ds t = record { head = refl; gone = t.gone; parked = refl; channels = t.channels }

-- with these open calls
parked-alike : (s : State) (k : List Pid) (ds : List Channel) (calls : List OpenCall) → Twin s k ds →
    Alike (record s { parked = calls }) (record (beside s k ds) { parked = calls })
parked-alike s k ds calls t = record { head = refl; gone = t.gone; parked = refl; channels = t.channels }

-- and a channel written
written-alike : (s : State) (k : List Pid) (ds : List Channel) (calls : List OpenCall) (p : Port) (c d : Channel) → Twin s k ds → Like c d →
    Alike (with_channel (record s { parked = calls }) p c) (with_channel (record (beside s k ds) { parked = calls }) p d)
written-alike s k ds calls p c d t l = record {
  head = refl;
  gone = t.gone;
  parked = refl;
  channels = map-set afresh s.channels (p.0 - 1) c
      ∙ ap (λ (xs : List Channel). slice_set xs (p.0 - 1) (afresh c)) t.channels
      ∙ ap (λ (x : Channel). slice_set (map afresh ds) (p.0 - 1) x) l
      ∙ sym (map-set afresh ds (p.0 - 1) d);
}

-- Which cases can proceed

both : (o u : Option Channel) (f g : Channel → Bool) → option_map afresh o ≡ option_map afresh u → ((c d : Channel) → Like c d → f c ≡ g d) →
    option_map_or f o false ≡ option_map_or g u false
both None None f g e h = refl
both (Some c) (Some d) f g e h = h c d cc
both None (Some d) f g e h = absurd (let x : ⊥ = cc in x)
both (Some c) None f g e h = absurd (let x : ⊥ = cc in x)

send_can-like : (s : State) (k : List Pid) (ds : List Channel) (p : Port) (c d : Channel) → Like c d → send_can s p c ≡ send_can (beside s k ds) p d
send_can-like s k ds p c d l = rw (closed-like c d l, room-like c d l) refl

recv_can-like : (s : State) (k : List Pid) (ds : List Channel) (p : Port) (c d : Channel) → Like c d → recv_can s p c ≡ recv_can (beside s k ds) p d
recv_can-like s k ds p c d l = rw (closed-like c d l, some-like c d l) refl

can-like : (s : State) (k : List Pid) (ds : List Channel) → Twin s k ds → (c : Case) → can_proceed s c ≡ can_proceed (beside s k ds) c
can-like s k ds t (Send p v) =
    both (at s.channels p) (at ds p) (send_can s p) (send_can (beside s k ds) p) (at-like s.channels ds p t.channels) (send_can-like s k ds p)
can-like s k ds t (Recv p) =
    both (at s.channels p) (at ds p) (recv_can s p) (recv_can (beside s k ds) p) (at-like s.channels ds p t.channels) (recv_can-like s k ds p)

ready-like : (s : State) (k : List Pid) (ds : List Channel) (cases : List Case) → Twin s k ds → ready s cases ≡ ready (beside s k ds) cases
ready-like s k ds cases t = λ i. filter (λ x. can-like s k ds t x.1 i) (enumerate_from 0 cases)

-- A case that fires

send_meets-like : (s : State) (k : List Pid) (ds : List Channel) (p : Port) (c d : Channel) (o : Option Ending) → Twin s k ds → Like c d →
    SameFiring (send_meets s p c o) (send_meets (beside s k ds) p d o)
send_meets-like s k ds p c d None t l = record { outcome = refl; ended = refl; alike = written-alike s k ds s.parked p c d t l }
send_meets-like s k ds p c d (Some e) t l = record {
  outcome = refl;
  ended = ap (λ (o : Option Value). fired e.pid e.at.index (outcome_of o) ∷ []) (next-like c d l);
  alike = written-alike s k ds (without e.pid s.parked) p (after_receive c) (after_receive d) t (received-like c d l);
}

send_by : (s : State) (k : List Pid) (ds : List Channel) (p : Port) (c d : Channel) (b : Bool) (o : Option Ending) → Twin s k ds → Like c d →
    SameFiring (cond b (record { outcome = Closed; state = s; ended = [] }) (send_meets s p c o))
    (cond b (record { outcome = Closed; state = beside s k ds; ended = [] }) (send_meets (beside s k ds) p d o))
send_by s k ds p c d true o t l = record { outcome = refl; ended = refl; alike = twin-alike s k ds t }
send_by s k ds p c d false o t l = send_meets-like s k ds p c d o t l

send_fires-like : (s : State) (k : List Pid) (ds : List Channel) (p : Port) (v : Value) (c d : Channel) → Twin s k ds → Like c d →
    c.received ≤ length c.sent → d.received ≤ length d.sent → SameFiring (send_fires s p v c) (send_fires (beside s k ds) p v d)
send_fires-like s k ds p v c d t l h g =
    let o : Option Ending = first_with (is_recv_on p) s.parked in
    subst (λ (b : Bool). SameFiring (send_fires s p v c)
    (cond b (record { outcome = Closed; state = beside s k ds; ended = [] }) (send_meets (beside s k ds) p (after_send v d) o)))
    (closed-like c d l) (send_by s k ds p (after_send v c) (after_send v d) c.closed o t (sent-like v c d h g l))

recv_takes-like : (s : State) (k : List Pid) (ds : List Channel) (calls : List OpenCall) (p : Port) (c d : Channel) →
    (ended : List Event) (o : Option Value) → Twin s k ds → Like c d →
    SameFiring (recv_takes (record s { parked = calls }) p c ended o) (recv_takes (record (beside s k ds) { parked = calls }) p d ended o)
recv_takes-like s k ds calls p c d ended None t l = record { outcome = refl; ended = refl; alike = written-alike s k ds calls p c d t l }
recv_takes-like s k ds calls p c d ended (Some v) t l =
    record { outcome = refl; ended = refl; alike = written-alike s k ds calls p (after_receive c) (after_receive d) t (received-like c d l) }

recv_by : (s : State) (k : List Pid) (ds : List Channel) (calls : List OpenCall) (p : Port) (c d : Channel) (ended : List Event) → Twin s k ds → Like c d →
    SameFiring (recv_takes (record s { parked = calls }) p c ended (next_value c))
    (recv_takes (record (beside s k ds) { parked = calls }) p d ended (next_value d))
recv_by s k ds calls p c d ended t l =
    subst (λ (o : Option Value).
    SameFiring (recv_takes (record s { parked = calls }) p c ended (next_value c)) (recv_takes (record (beside s k ds) { parked = calls }) p d ended o))
    (next-like c d l) (recv_takes-like s k ds calls p c d ended (next_value c) t l)

recv_meets-like : (s : State) (k : List Pid) (ds : List Channel) (p : Port) (c d : Channel) (o : Option Ending) → Twin s k ds → Like c d →
    c.received ≤ length c.sent → d.received ≤ length d.sent → SameFiring (recv_meets s p c o) (recv_meets (beside s k ds) p d o)
recv_meets-like s k ds p c d None t l h g = recv_by s k ds s.parked p c d [] t l
recv_meets-like s k ds p c d (Some e) t l h g =
    recv_by s k ds (without e.pid s.parked) p (with_sent e.at.case c) (with_sent e.at.case d) (fired e.pid e.at.index Sent ∷ []) t
    (with_sent-like e.at.case c d h g l)

fires-like : (s : State) (k : List Pid) (ds : List Channel) (c : Case) (o u : Option Channel) → Twin s k ds → option_map afresh o ≡ option_map afresh u →
    o ≡ at s.channels (port_of c) → u ≡ at ds (port_of c) → SameFires (fires s c o) (fires (beside s k ds) c u)
fires-like s k ds c None None t e a b = tt
fires-like s k ds (Send p v) (Some c) (Some d) t e a b =
    let l : Like c d = cc in send_fires-like s k ds p v c d t l (t.fine p c (sym a)) (t.fine_too p d (sym b))
fires-like s k ds (Recv p) (Some c) (Some d) t e a b =
    let l : Like c d = cc in
    recv_meets-like s k ds p c d (first_with (is_send_on p) s.parked) t l (t.fine p c (sym a)) (t.fine_too p d (sym b))
fires-like s k ds c None (Some d) t e a b = absurd (let x : ⊥ = cc in x)
fires-like s k ds c (Some d) None t e a b = absurd (let x : ⊥ = cc in x)

-- A call

proceeds-like : (s : State) (k : List Pid) (ds : List Channel) (pid : Pid) (i : ℕ) (f g : Option Firing) → Twin s k ds → SameFires f g →
    SameChange (proceeds s pid i f) (proceeds (beside s k ds) pid i g)
proceeds-like s k ds pid i None None t x = record { events = refl; alike = twin-alike s k ds t }
proceeds-like s k ds pid i (Some f) (Some g) t x =
    record { events = ap (λ o. fired pid i o ∷ f.ended) x.outcome ∙ ap (λ es. fired pid i g.outcome ∷ es) x.ended; alike = x.alike }
proceeds-like s k ds pid i None (Some g) t x = absurd x
proceeds-like s k ds pid i (Some f) None t x = absurd x

waits-like : (s : State) (k : List Pid) (ds : List Channel) (pid : Pid) (cases : List Case) (default : Bool) → Twin s k ds →
    SameChange (waits s pid cases default) (waits (beside s k ds) pid cases default)
waits-like s k ds pid cases true t = record { events = refl; alike = twin-alike s k ds t }
waits-like s k ds pid cases false t = record { events = refl; alike = parked-alike s k ds (s.parked ++ record { pid = pid; cases = cases } ∷ []) t }

chooses-like : (s : State) (k : List Pid) (ds : List Channel) (pid : Pid) (cases : List Case) (default : Bool) (o : Option (ℕ × Case)) → Twin s k ds →
    SameChange (chooses s pid cases default o) (chooses (beside s k ds) pid cases default o)
chooses-like s k ds pid cases default None t = waits-like s k ds pid cases default t
chooses-like s k ds pid cases default (Some c) t =
    let o : Option Channel = at s.channels (port_of c.1) in
    let u : Option Channel = at ds (port_of c.1) in
    proceeds-like s k ds pid c.0 (fires s c.1 o) (fires (beside s k ds) c.1 u) t
    (fires-like s k ds c.1 o u t (at-like s.channels ds (port_of c.1) t.channels) refl refl)

calls-like : (s : State) (k : List Pid) (ds : List Channel) (pid : Pid) (cases : List Case) (default : Bool) (word : ℕ) → Twin s k ds →
    SameChange (calls s pid cases default word) (calls (beside s k ds) pid cases default word)
calls-like s k ds pid cases default word t =
    subst (λ (xs : List (ℕ × Case)). SameChange (calls s pid cases default word) (chooses (beside s k ds) pid cases default (slice_get xs (word % length xs))))
    (ready-like s k ds cases t) (chooses-like s k ds pid cases default (slice_get (ready s cases) (word % length (ready s cases))) t)

-- The other steps

closes-like : (s : State) (k : List Pid) (ds : List Channel) (pid : Pid) (p : Port) (o u : Option Channel) → Twin s k ds →
    option_map afresh o ≡ option_map afresh u →
    SameChange (closes s pid p o) (closes (beside s k ds) pid p u)
closes-like s k ds pid p None None t e = record { events = refl; alike = twin-alike s k ds t }
closes-like s k ds pid p (Some c) (Some d) t e = record {
  events = refl;
  alike = written-alike s k ds (filter (λ call. not (list_any (is_on p) call.cases)) s.parked) p (shut c) (shut d) t (shut-like c d cc);
}
closes-like s k ds pid p None (Some d) t e = absurd (let x : ⊥ = cc in x)
closes-like s k ds pid p (Some c) None t e = absurd (let x : ⊥ = cc in x)

reopens-like : (s : State) (k : List Pid) (ds : List Channel) (pid : Pid) (p : Port) (cap : ℕ) (o u : Option Channel) → Twin s k ds →
    option_map afresh o ≡ option_map afresh u →
    SameChange (reopens s pid p cap o) (reopens (beside s k ds) pid p cap u)
reopens-like s k ds pid p cap None None t e = record { events = refl; alike = twin-alike s k ds t }
reopens-like s k ds pid p cap (Some c) (Some d) t e =
    record { events = refl; alike = written-alike s k ds s.parked p (reopened cap c) (reopened cap d) t (reopened-like cap c d cc) }
reopens-like s k ds pid p cap None (Some d) t e = absurd (let x : ⊥ = cc in x)
reopens-like s k ds pid p cap (Some c) None t e = absurd (let x : ⊥ = cc in x)

gone-less : (xs ys : List Pid) (r q : ℕ) → list_any (λ g. g.0 == q) xs ≡ list_any (λ g. g.0 == q) ys →
    list_any (λ g. g.0 == q) (filter (λ g. not (g.0 == r)) xs) ≡ list_any (λ g. g.0 == q) (filter (λ g. not (g.0 == r)) ys)
gone-less xs ys r q e = any-but q r xs ∙ ap (λ b. b && not (r == q)) e ∙ sym (any-but q r ys)

gone-more : (xs ys : List Pid) (pid : Pid) (q : ℕ) → list_any (λ g. g.0 == q) xs ≡ list_any (λ g. g.0 == q) ys →
    list_any (λ g. g.0 == q) (xs ++ pid ∷ []) ≡ list_any (λ g. g.0 == q) (ys ++ pid ∷ [])
gone-more xs ys pid q e = grind (arith, list_any-append)

effect-like : (s : State) (k : List Pid) (ds : List Channel) (pid : Pid) (step : Step) → Twin s k ds →
    SameChange (effect s pid step) (effect (beside s k ds) pid step)
effect-like s k ds pid (Make cap) t = record {
  events = ap (λ n. tells pid (what.Made (record { 0 = n + 1 })) ∷ []) (count-like s.channels ds t.channels);
  alike = record {
    head = refl;
    gone = t.gone;
    parked = refl;
    channels = let new : List Channel = record { cap = cap; closed = false; sent = []; received = 0 } ∷ [] in
        map-append afresh s.channels new ∙ ap (λ xs. xs ++ map afresh new) t.channels ∙ sym (map-append afresh ds new);
  };
}
effect-like s k ds pid (Call cases default word) t = calls-like s k ds pid cases.items default word t
effect-like s k ds pid (Close p) t = closes-like s k ds pid p (at s.channels p) (at ds p) t (at-like s.channels ds p t.channels)
effect-like s k ds pid Exit t = record {
  events = refl;
  alike = record { head = refl; gone = λ q. gone-more s.gone k pid q (t.gone q); parked = refl; channels = t.channels };
}
effect-like s k ds pid (Cancel q) t = record { events = refl; alike = parked-alike s k ds (without q s.parked) t }
effect-like s k ds pid (Start r) t = record {
  events = refl;
  alike = record { head = refl; gone = λ q. gone-less s.gone k r.0 q (t.gone q); parked = refl; channels = t.channels };
}
effect-like s k ds pid (Reopen p cap) t =
    reopens-like s k ds pid p cap (at s.channels p) (at ds p) t (at-like s.channels ds p t.channels)

-- The stall rule

-- whether all wait, of hubs with this head, and these calls open
abbrev all_of : Head → (ℕ → Bool) → List OpenCall → Bool
all_of h gone calls = not (length calls == 0) && list_all (λ q. gone q || list_any (λ call. call.pid.0 == q) calls) (range_with_len 0 h.procs)

pub all_wait-like : (s t : State) → Alike s t → all_wait s ≡ all_wait t
all_wait-like s t a =
    ap (λ (h : Head). all_of h (has_gone s) s.parked) a.head
    ∙ ap (λ (cs : List OpenCall). all_of t.head (has_gone s) cs) a.parked
    ∙ (λ i. all_of t.head (λ q. a.gone q i) t.parked)

stalled-like : (c d : Change) (b : Bool) → SameChange c d →
    SameChange (stalls_if b c) (stalls_if b d)
stalled-like c d true x = record {
  events = ap (λ es. es ++ filter_map (λ call. Some (tells call.pid what.Stalled)) c.state.parked) x.events
      ∙ ap (λ (calls : List OpenCall). d.events ++ filter_map (λ call. Some (tells call.pid what.Stalled)) calls) x.alike.parked;
  alike = record { head = x.alike.head; gone = x.alike.gone; parked = refl; channels = x.alike.channels };
}
stalled-like c d false x = x

stalls-like : (c d : Change) → SameChange c d → SameChange (stalls c) (stalls d)
stalls-like c d x =
    subst (λ (b : Bool). SameChange (stalls c) (stalls_if b d))
    (all_wait-like c.state d.state x.alike) (stalled-like c d (all_wait c.state) x)

-- Faults

close_fault-like : (o u : Option Channel) → option_map afresh o ≡ option_map afresh u → close_fault o ≡ close_fault u
close_fault-like None None e = refl
close_fault-like (Some c) (Some d) e = ap (λ b. cond b (Some fault.AlreadyClosed) None) (closed-like c d cc)
close_fault-like None (Some d) e = absurd (let x : ⊥ = cc in x)
close_fault-like (Some c) None e = absurd (let x : ⊥ = cc in x)

reopen_fault-like : (o u : Option Channel) → option_map afresh o ≡ option_map afresh u → reopen_fault o ≡ reopen_fault u
reopen_fault-like None None e = refl
reopen_fault-like (Some c) (Some d) e =
    let l : Like c d = cc in
    ap (λ b. cond (b && nat_le (length c.sent) c.received) None (Some fault.InUse)) (closed-like c d l)
    ∙ ap (λ b. cond (d.closed && b) None (Some fault.InUse)) (drained-like c d l)
reopen_fault-like None (Some d) e = absurd (let x : ⊥ = cc in x)
reopen_fault-like (Some c) None e = absurd (let x : ⊥ = cc in x)

fault-like : (s : State) (k : List Pid) (ds : List Channel) (step : Step) → Twin s k ds → fault_of s step ≡ fault_of (beside s k ds) step
fault-like s k ds (Make cap) t =
    ap (λ n. cond (nat_lt MOST_CAP cap) (Some fault.BadCap) (cond (nat_le MOST_PORTS n) (Some fault.TooManyPorts) None)) (count-like s.channels ds t.channels)
fault-like s k ds (Call cases default word) t =
    ap (λ n. cond (nat_lt (most_cases s.head.edition) (length cases.items)) (Some fault.TooManyCases)
    (cond (list_any (λ c. nat_lt n (port_of c).0) cases.items) (Some fault.NoPort) None)) (count-like s.channels ds t.channels)
fault-like s k ds (Close p) t =
    ap (λ n. cond (nat_lt n p.0) (Some fault.NoPort) (close_fault (at s.channels p))) (count-like s.channels ds t.channels)
    ∙ ap (λ (o : Option Fault). cond (nat_lt (length ds) p.0) (Some fault.NoPort) o)
    (close_fault-like (at s.channels p) (at ds p) (at-like s.channels ds p t.channels))
fault-like s k ds Exit t = refl
fault-like s k ds (Cancel q) t = refl
fault-like s k ds (Start q) t = ap (λ b. cond b None (Some fault.NotGone)) (t.gone q.0)
fault-like s k ds (Reopen p cap) t =
    ap (λ n. cond (nat_lt n p.0) (Some fault.NoPort) (cond (nat_lt MOST_CAP cap) (Some fault.BadCap) (reopen_fault (at s.channels p))))
    (count-like s.channels ds t.channels)
    ∙ ap (λ (o : Option Fault). cond (nat_lt (length ds) p.0) (Some fault.NoPort) (cond (nat_lt MOST_CAP cap) (Some fault.BadCap) o))
    (reopen_fault-like (at s.channels p) (at ds p) (at-like s.channels ds p t.channels))

-- An entry

answers-like : (s : State) (k : List Pid) (ds : List Channel) (e : Entry) (o : Option Fault) → Twin s k ds →
    SameChange (answers s e o) (answers (beside s k ds) e o)
answers-like s k ds e None t = stalls-like (effect s e.pid e.step) (effect (beside s k ds) e.pid e.step) (effect-like s k ds e.pid e.step t)
answers-like s k ds e (Some f) t = record { events = refl; alike = twin-alike s k ds t }

turn-like : (s : State) (k : List Pid) (ds : List Channel) (e : Entry) → Twin s k ds → SameChange (turn s e) (turn (beside s k ds) e)
turn-like s k ds e t =
    subst (λ (o : Option Fault). SameChange (turn s e) (answers (beside s k ds) e o)) (fault-like s k ds e.step t)
    (answers-like s k ds e (fault_of s e.step) t)

admits-like : (s : State) (k : List Pid) (ds : List Channel) (e : Entry) (o : Option Fault) → Twin s k ds →
    SameChange (admits s e o) (admits (beside s k ds) e o)
admits-like s k ds e None t = turn-like s k ds e t
admits-like s k ds e (Some f) t = record { events = refl; alike = twin-alike s k ds t }

pub refusal-like : (s t : State) (pid : Pid) → Alike s t → refusal s pid ≡ refusal t pid
refusal-like s t pid a = rw (a.head, a.gone pid.0, a.parked) refl

twin-moves : (s : State) (k : List Pid) (ds : List Channel) (e : Entry) → Twin s k ds → SameChange (moves s e) (moves (beside s k ds) e)
twin-moves s k ds e t =
    subst (λ (o : Option Fault). SameChange (moves s e) (admits (beside s k ds) e o)) (refusal-like s (beside s k ds) e.pid (twin-alike s k ds t))
    (admits-like s k ds e (refusal s e.pid) t)

fine : (s : State) → IsSound s → Fine s.channels
fine s sound p c e = (sound.ports p c e).received

pub moves-like : (s t : State) (e : Entry) → IsSound s → IsSound t → Alike s t → SameChange (moves s e) (moves t e)
moves-like s t e sound sound' a =
    let twin : Twin s t.gone t.channels = record { gone = a.gone; channels = a.channels; fine = fine s sound; fine_too = fine t sound' } in
    let one : SameChange (moves s e) (moves (record { head = s.head; gone = t.gone; parked = s.parked; channels = t.channels }) e) =
    twin-moves s t.gone t.channels e twin in
    let two : SameChange (moves s e) (moves (record { head = t.head; gone = t.gone; parked = s.parked; channels = t.channels }) e) =
    subst (λ (h : Head). SameChange (moves s e) (moves (record { head = h; gone = t.gone; parked = s.parked; channels = t.channels }) e)) a.head one in
    subst (λ (calls : List OpenCall).
    SameChange (moves s e) (moves (record { head = t.head; gone = t.gone; parked = calls; channels = t.channels }) e)) a.parked two
