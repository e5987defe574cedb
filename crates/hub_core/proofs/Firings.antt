-- A case that fires on the lists fires as in the meaning.
use Rattle.std.proofs.Common.{◌≡◌, ◌+◌, ◌-◌, map, Bool, true, false, cond, List, [], ◌∷◌, length, refl, ap, ◌∙◌, sym, Option, Some, None}
use Rattle.std.specs.Prelude.{slice_get, slice_set}
use Rattle.std.proofs.lemmas.List.{length_push}
use Rattle.hub_base.specs.declared.value.Pid.{Pid}
use Rattle.hub_base.specs.declared.value.Port.{Port}
use Rattle.hub_base.specs.declared.value.Value.{Value}
use Rattle.hub_base.specs.declared.case.Case.{Case}
use Rattle.hub_base.specs.declared.case.Case.TheVariants.{Send, Recv}
use Rattle.hub_base.specs.declared.event.Outcome.TheVariants.{Sent, Closed}
use Rattle.hub_base.specs.State.{State, Channel, channel_at, with_channel}
use Rattle.hub_base.specs.Ready.{Ending, first_with, is_recv_on, is_send_on, without}
use Rattle.hub_base.specs.Steps.{after_send, after_receive, next_value, outcome_of, send_fires}
use Rattle.hub_base.specs.Steps.{send_meets, recv_fires, recv_meets, recv_takes, with_sent, fired}
use Rattle.hub_laws.specs.Sound.{IsSound, PortSound, some_call, CallFits}
use Rattle.hub_laws.proofs.Fires.{some_first}
use Rattle.hub_laws.proofs.Calls.{first-found}
use Rattle.hub_parts.specs.Records.{PortLists}
use Rattle.hub_parts.specs.Lists.{port_at, pushed, popped, still_open, ended_by}
use Rattle.hub_core.specs.declared.tally.Tally.{Tally}
use Rattle.hub_core.specs.Records.{MachineLists, one_handed, sent_tally, received_tally, handed_tally}
use Rattle.hub_core.specs.ListFirings.{send_on, send_to, recv_on, recv_from, oldest_on, take_value, let_in, fetch_on}
use Rattle.hub_core.specs.ListSteps.{with_board}
use Rattle.hub_core.specs.Follows.{lists_of, tally_of, Matches}
use Rattle.hub_core.specs.Agrees.{FiresAs}
use Rattle.hub_core.proofs.Endings.{open_calls-still_open}
use Rattle.hub_core.proofs.Ports.{port-lists_of, tally-tally_of, ports-set, ports-same, counts-set, counts-same, first-next_value, pushed-lists_of}
use Rattle.hub_core.proofs.Ports.{popped-lists_of, popped-drained, through-lists_of, next-through, shifted-lists_of, next-shifted, next_none}

sent-tally_of : (v : Value) (c : Channel) → sent_tally (tally_of c) ≡ tally_of (after_send v c)
sent-tally_of v c = ap (λ n. record { sent = n; received = c.received }) (sym (length_push c.sent v))

handed-tally_of : (v : Value) (c : Channel) → handed_tally (tally_of c) ≡ tally_of (after_receive (after_send v c))
handed-tally_of v c = ap (λ n. record { sent = n; received = c.received + 1 }) (sym (length_push c.sent v))

-- the port's channel is now d, and these are the ports and the counts
moved : (s : State) (m : MachineLists) (p : Port) (d : Channel) (ps : List PortLists) (ts : List Tally) → Matches s m
    → ps ≡ map lists_of (slice_set s.channels (p.0 - 1) d) → ts ≡ map tally_of (slice_set s.channels (p.0 - 1) d)
    → Matches (with_channel s p d) (with_board m (record m.board { ports = ps }) ts)
moved s m p d ps ts h ports counts = record { edition = h.edition; procs = h.procs; calls = h.calls; ports = ports; counts = counts; gone = h.gone }

-- a value went from a sender to a receiver: the call that waited has ended, and these are the ports
handed : (s : State) (m : MachineLists) (p : Port) (c : Channel) (u : Value) (pid : Pid) (ps : List PortLists) → Matches s m → channel_at s p ≡ Some c
    → ps ≡ map lists_of (slice_set s.channels (p.0 - 1) (after_receive (after_send u c)))
    → Matches (with_channel (record s { parked = without pid s.parked }) p (after_receive (after_send u c)))
    (with_board m (record m.board { waiting = still_open pid m.board.waiting; ports = ps }) (one_handed p m.counts))
handed s m p c u pid ps h e is = record {
  edition = h.edition;
  procs = h.procs;
  calls = open_calls-still_open pid m.board.waiting ∙ ap (without pid) h.calls;
  ports = is;
  counts = counts-set s m p (after_receive (after_send u c)) _ h (ap handed_tally (tally-tally_of s m p c h e) ∙ handed-tally_of u c);
  gone = h.gone;
}

-- ---- sends
send_to-as : (s : State) (m : MachineLists) (p : Port) (v : Value) (c : Channel) (o : Option Ending) → PortSound p c s.parked → Matches s m
    → channel_at s p ≡ Some c → o ≡ first_with (is_recv_on p) s.parked → FiresAs (send_meets s p (after_send v c) o) m (send_to m.board m.counts p v o)
send_to-as s m p v c None sound h e is = record {
  outcome = refl;
  ended = refl;
  state = moved s m p (after_send v c) _ _ h
      (ports-set s m p (after_send v c) _ h (ap (pushed v) (port-lists_of s m p c h e) ∙ pushed-lists_of v c sound.received))
      (counts-set s m p (after_send v c) _ h (ap sent_tally (tally-tally_of s m p c h e) ∙ sent-tally_of v c));
}
send_to-as s m p v c (Some x) sound h e is =
    let met : some_call (is_recv_on p) s.parked ≡ true = sym (some_first (is_recv_on p) s.parked (Some x) is) in
    let empty : c.received ≡ length c.sent = sound.receivers met in
    record {
      outcome = refl;
      ended = ap (λ o. fired x.pid x.at.index (outcome_of o) ∷ []) (sym (next-through v c empty));
      state = handed s m p c v x.pid _ h e (ports-same s m p c (after_receive (after_send v c)) h e (through-lists_of v c empty));
    }

send_by : (closed : Bool) (s : State) (m : MachineLists) (p : Port) (v : Value) (c : Channel) (o : Option Ending)
    → PortSound p c s.parked → Matches s m → channel_at s p ≡ Some c → o ≡ first_with (is_recv_on p) s.parked
    → FiresAs (cond closed (record { outcome = Closed; state = s; ended = [] }) (send_meets s p (after_send v c) o)) m
    (cond closed (record { outcome = Closed; board = m.board; counts = m.counts; ended = None }) (send_to m.board m.counts p v o))
send_by true s m p v c o sound h e is = record {
  outcome = refl;
  ended = refl;
  state = record { edition = h.edition; procs = h.procs; calls = h.calls; ports = h.ports; counts = h.counts; gone = h.gone };
}
send_by false s m p v c o sound h e is = send_to-as s m p v c o sound h e is

pub send-as : (s : State) (m : MachineLists) (p : Port) (v : Value) (c : Channel) → IsSound s → Matches s m → channel_at s p ≡ Some c
    → FiresAs (send_fires s p v c) m (send_on m.board m.counts p v)
send-as s m p v c sound h e =
    let same : (port_at m.board p).closed ≡ c.closed = ap (λ (q : PortLists). q.closed) (port-lists_of s m p c h e) in
    rw (same, h.calls) (send_by c.closed s m p v c (first_with (is_recv_on p) s.parked) (sound.ports p c e) h e refl)

-- ---- receives
take_value-as : (s : State) (m : MachineLists) (p : Port) (c : Channel) (o : Option Value) → PortSound p c s.parked → Matches s m
    → channel_at s p ≡ Some c → o ≡ next_value c → FiresAs (recv_takes s p c [] o) m (take_value m.board m.counts p o)
take_value-as s m p c None sound h e is = record {
  outcome = refl;
  ended = refl;
  state = moved s m p c _ _ h
      (ports-set s m p c _ h (ap popped (port-lists_of s m p c h e) ∙ popped-drained c (sym is) sound.received)) (counts-same s m p c c h e refl);
}
take_value-as s m p c (Some v) sound h e is = record {
  outcome = refl;
  ended = refl;
  state = moved s m p (after_receive c) _ _ h
      (ports-set s m p (after_receive c) _ h (ap popped (port-lists_of s m p c h e) ∙ popped-lists_of c))
      (counts-set s m p (after_receive c) _ h (ap received_tally (tally-tally_of s m p c h e)));
}

fetch_on-as : (s : State) (m : MachineLists) (p : Port) (c : Channel) (x : Ending) (u : Value) (o : Option Value) → PortSound p c s.parked
    → Matches s m → channel_at s p ≡ Some c → o ≡ next_value c → FiresAs (recv_takes (record s { parked = without x.pid s.parked }) p
    (after_send u c) (fired x.pid x.at.index Sent ∷ []) (next_value (after_send u c))) m (fetch_on (ended_by x.pid m.board) m.counts p x u o)
fetch_on-as s m p c x u None sound h e is =
    let empty : c.received ≡ length c.sent = next_none c (sym is) sound.received in
    rw (next-through u c empty) (record {
      outcome = refl;
      ended = refl;
      state = handed s m p c u x.pid _ h e (ports-set s m p (after_receive (after_send u c)) _ h
          (ap popped (port-lists_of s m p c h e) ∙ popped-drained c (sym is) sound.received ∙ sym (through-lists_of u c empty)));
    })
fetch_on-as s m p c x u (Some v) sound h e is =
    rw (next-shifted u c v (sym is)) (record {
      outcome = refl;
      ended = refl;
      state = handed s m p c u x.pid _ h e (ports-set s m p (after_receive (after_send u c)) _ h
          (ap (λ (q : PortLists). pushed u (popped q)) (port-lists_of s m p c h e) ∙ shifted-lists_of u c v (sym is)));
    })

first_at : (s : State) (m : MachineLists) (p : Port) (c : Channel) → Matches s m → channel_at s p ≡ Some c → oldest_on m.board p ≡ next_value c
first_at s m p c h e = ap (λ (q : PortLists). slice_get q.buffer 0) (port-lists_of s m p c h e) ∙ first-next_value c

let_in-as : (s : State) (m : MachineLists) (p : Port) (c : Channel) (x : Ending) (k : Case) → is_send_on p k ≡ true → PortSound p c s.parked
    → Matches s m → channel_at s p ≡ Some c → FiresAs (recv_takes (record s { parked = without x.pid s.parked }) p (with_sent k c)
    (fired x.pid x.at.index Sent ∷ []) (next_value (with_sent k c))) m (let_in (ended_by x.pid m.board) m.counts p x k)
let_in-as s m p c x (Send q u) is sound h e = fetch_on-as s m p c x u (oldest_on m.board p) sound h e (first_at s m p c h e)
let_in-as s m p c x (Recv q) is sound h e = cc

recv_from-as : (s : State) (m : MachineLists) (p : Port) (c : Channel) (o : Option Ending) → IsSound s → Matches s m
    → channel_at s p ≡ Some c → o ≡ first_with (is_send_on p) s.parked → FiresAs (recv_meets s p c o) m (recv_from m.board m.counts p o)
recv_from-as s m p c None sound h e is = rw (first_at s m p c h e) (take_value-as s m p c (next_value c) (sound.ports p c e) h e refl)
recv_from-as s m p c (Some x) sound h e is =
    let f = first-found (CallFits s.head.edition (length s.channels)) (is_send_on p) s.parked x sound.calls (sym is) in
    let_in-as s m p c x x.at.case f.passes (sound.ports p c e) h e

pub recv-as : (s : State) (m : MachineLists) (p : Port) (c : Channel) → IsSound s → Matches s m → channel_at s p ≡ Some c
    → FiresAs (recv_fires s p c) m (recv_on m.board m.counts p)
recv-as s m p c sound h e = rw h.calls (recv_from-as s m p c (first_with (is_send_on p) s.parked) sound h e refl)
