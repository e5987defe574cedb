-- What is known of a machine that some run leads to.
use Rattle.std.proofs.Common.{◌≡◌, ℕ, ◌+◌, ◌-◌, ◌==◌, ◌≤◌, ◌<◌, ◌^◌, ◌||◌, ◌&&◌, not, Bool, true, false, nat_lt}
use Rattle.std.proofs.Common.{List, [], ◌∷◌, length, length-append, ap, refl, ◌∙◌, sym, subst, Option, Some, None, arith}
use Rattle.std.specs.List.{list_any, range_with_len}
use Rattle.std.proofs.lemmas.List.Folds.{list_all_at}
use Rattle.std.proofs.lemmas.List.FromFn.{length-range_with_len, get_or-range_with_len}
use Rattle.std.proofs.lemmas.Grind.{common_steps}
use Rattle.std.proofs.lemmas.List.{length-map}
use Rattle.hub_base.specs.declared.head.Head.{Head}
use Rattle.hub_base.specs.declared.value.Pid.{Pid}
use Rattle.hub_base.specs.declared.value.Port.{Port}
use Rattle.hub_base.specs.declared.case.Case.{Case}
use Rattle.hub_base.specs.Entry.{Entry, Step}
use Rattle.hub_base.specs.declared.event.Event.{Event}
use Rattle.hub_base.specs.declared.event.What.TheVariants as what
use Rattle.hub_base.specs.declared.fault.Fault.{Fault}
use Rattle.hub_base.specs.declared.fault.Fault.TheVariants as fault
use Rattle.hub_base.specs.declared.head.Edition.{Edition}
use Rattle.hub_base.specs.declared.limits.TheConstants.{MOST_EVENTS, MOST_PROCS}
use Rattle.hub_base.specs.Head.{most_cases}
use Rattle.hub_base.specs.State.{State, Channel, channel_at}
use Rattle.hub_base.specs.Ready.{port_of}
use Rattle.hub_base.specs.Steps.{fault_of, effect, tells}
use Rattle.hub_base.specs.Runs.{state, kept}
use Rattle.hub_laws.specs.Sound.{IsSound, Apart}
use Rattle.std.proofs.lemmas.Bool.{or_parts}
use Rattle.hub_laws.proofs.Counts.{counts-law}
use Rattle.hub_laws.proofs.Rules.{state-sound, effect-sound}
use Rattle.hub_laws.proofs.Ready.{Admitted, admitted, none_false}
use Rattle.hub_laws.proofs.Sizes.{effect_size, room-law}
use Rattle.hub_parts.specs.Records.{Lists, Ticketed}
use Rattle.hub_parts.specs.Lists.{open_calls, IsMade}
use Rattle.hub_parts.specs.Keeps.{AllMade}
use Rattle.hub_core.specs.Records.{MachineLists, tally_at}
use Rattle.hub_core.specs.ListReady.{BufferFits}
use Rattle.hub_core.specs.ListKeeps.{CanCount, PortsKeep}
use Rattle.hub_core.specs.ListSteps.{ListChange, ArePresent, effect_on, fault_on, call_fault_on, is_unmade_on, refusal_of}
use Rattle.hub_core.specs.ListSteps.{gone_on, open_on, each_gone_or_open_on, all_wait_on, stalls_on, stalled_events}
use Rattle.hub_core.specs.ListSteps.{acts_by, acts_on, answers_on, turn_on}
use Rattle.hub_core.specs.Follows.{tally_of, Matches, Follows, IsReached}
use Rattle.hub_core.proofs.Ports.{port-lists_of, tally-tally_of}
use Rattle.hub_core.proofs.Readiness.{count-ports, get_within, length-buffer_of}
use Rattle.hub_core.proofs.Effects.{fault_on-as, effect_on-as}
use Rattle.hub_core.proofs.Stalls.{open_on-as, refusal_of-as, count-calls}
use Rattle.hub_laws.proofs.Limits.{gone-below}
use Rattle.hub_base.proofs.StepCounts.{steps-length}
use Rattle.hub_laws.proofs.Lasting.{procs-after}

-- ---- the ports
pub count-counts : (s : State) (m : MachineLists) → Matches s m → length m.counts ≡ length s.channels
count-counts s m h = ap length h.counts ∙ length-map s.channels tally_of

channel_made : (s : State) (m : MachineLists) (p : Port) → Matches s m → IsMade m.board p → (c : Channel) × (channel_at s p ≡ Some c)
channel_made s m p h made =
    let here : (p.0 == 0) ≡ false = grind (arith, common_steps, made.0) in
    let found = get_within s.channels (p.0 - 1) (omega (arith, made.0, made.1, count-ports s m h)) in
    (found.0, rw here found.1)

fits_by : (s : State) (m : MachineLists) (p : Port) (c : Channel) → IsSound s → Matches s m → channel_at s p ≡ Some c → BufferFits m.board p
fits_by s m p c sound h e = rw (port-lists_of s m p c h e) (omega (arith, length-buffer_of c, (sound.ports p c e).fits))

can_count : (head : Head) (es : List Entry) (m : MachineLists) (p : Port) (c : Channel) → Follows head es m → m.steps < 2 ^ 32 - 1
    → channel_at (state head es) p ≡ Some c → CanCount m.counts p
can_count head es m p c h few e =
    let within = counts-law head es p c e in
    let short = steps-length (kept head es) in
    let tally : tally_at m.counts p ≡ tally_of c = tally-tally_of (state head es) m p c h.matches e in
    record {
      sent = rw tally (omega (arith, within.sent, short, h.steps));
      received = rw tally (omega (arith, within.received, within.sent, short, h.steps));
    }

pub ports_keep : (m : MachineLists) → IsReached m → m.steps < 2 ^ 32 - 1 → PortsKeep m.board m.counts
ports_keep m r few =
    let s = state r.0 r.1 in
    record {
      count = count-counts s m r.2.matches ∙ sym (count-ports s m r.2.matches);
      fits = λ p made. let found = channel_made s m p r.2.matches made in fits_by s m p found.0 (state-sound r.0 r.1) r.2.matches found.1;
      counts = λ p made. let found = channel_made s m p r.2.matches made in can_count r.0 r.1 m p found.0 r.2 few found.1;
    }

-- ---- the open calls
pub calls_apart : (m : MachineLists) → IsReached m → Apart (open_calls m.board.waiting)
calls_apart m r = subst Apart (sym r.2.matches.calls) (state-sound r.0 r.1).apart

is_admitted : (m : MachineLists) (pid : Pid) (r : IsReached m) → refusal_of m.board m.gone pid ≡ None → Admitted (state r.0 r.1) pid
is_admitted m pid r h = admitted (state r.0 r.1) pid (sym (refusal_of-as (state r.0 r.1) m pid r.2.matches) ∙ h)

pub room_left : (m : MachineLists) (pid : Pid) → IsReached m → refusal_of m.board m.gone pid ≡ None → m.board.procs ≤ MOST_PROCS
    → length m.board.waiting < MOST_PROCS
room_left m pid r h few =
    let s = state r.0 r.1 in
    omega (arith, room-law s pid (state-sound r.0 r.1) (is_admitted m pid r h), count-calls s m r.2.matches, r.2.matches.procs)

-- who has exited is a process that there is
pub gone_here : (m : MachineLists) (q : ℕ) → IsReached m → gone_on m.gone q ≡ true → q < m.board.procs
gone_here m q r h =
    let there = gone-below r.0 r.1 q (sym (r.2.matches.gone q) ∙ h) in
    let procs : (state r.0 r.1).head.procs ≡ r.0.procs = procs-after r.0 r.1 in
    omega (arith, there, r.2.matches.procs, procs)

-- what is known behind a step, before the stall rule
pub record BeforeStall (m : MachineLists) (told : List Event) : Type 0 where
  pub apart : Apart (open_calls m.board.waiting)
  pub present : ArePresent m.board.waiting m.gone m.board.procs
  pub room : length told + length m.board.waiting ≤ MOST_EVENTS

before_stall : (m : MachineLists) (pid : Pid) (step : Step) → IsReached m → refusal_of m.board m.gone pid ≡ None
    → fault_on m.edition m.board m.gone step ≡ None → m.board.procs ≤ MOST_PROCS → length m.gone ≡ MOST_PROCS
    → BeforeStall (effect_on m pid step).machine (effect_on m pid step).events
before_stall m pid step r h fine few places =
    let s = state r.0 r.1 in
    let sound = state-sound r.0 r.1 in
    let adm = is_admitted m pid r h in
    let faultless : fault_of s step ≡ None = sym (fault_on-as s m step r.2.matches) ∙ fine in
    let same = effect_on-as s m pid step sound r.2.matches (omega (arith, adm.below, r.2.matches.procs)) faultless in
    let after = effect-sound s pid step sound adm faultless in
    record {
      apart = subst Apart (sym same.state.calls) after.apart;
      present = λ q waits.
          let there = after.present q (sym (open_on-as (effect s pid step).state (effect_on m pid step).machine q same.state) ∙ waits) in
          (omega (arith, there.0, same.state.procs), same.state.gone q ∙ there.1);
      room = omega (
        arith,
        effect_size s pid step sound,
        ap length same.events,
        count-calls (effect s pid step).state (effect_on m pid step).machine same.state,
        room-law s pid sound adm,
        r.2.matches.procs,
      );
    }

present_of : (m : MachineLists) → IsReached m → ArePresent m.board.waiting m.gone m.board.procs
present_of m r q waits =
    let s = state r.0 r.1 in
    let there = (state-sound r.0 r.1).present q (sym (open_on-as s m q r.2.matches) ∙ waits) in
    (omega (arith, there.0, r.2.matches.procs), r.2.matches.gone q ∙ there.1)

acts_before_stall : (m : MachineLists) (pid : Pid) (step : Step) (o : Option Fault) → o ≡ fault_on m.edition m.board m.gone step → IsReached m
    → refusal_of m.board m.gone pid ≡ None → m.board.procs ≤ MOST_PROCS → length m.gone ≡ MOST_PROCS
    → BeforeStall (acts_by m pid step o).machine (acts_by m pid step o).events
acts_before_stall m pid step None is r h few places = before_stall m pid step r h (sym is) few places
acts_before_stall m pid step (Some f) is r h few places =
    record { apart = calls_apart m r; present = present_of m r; room = omega (arith, room_left m pid r h few) }

-- the same, of the machine that a step left
pub before_stall_of : (m next : MachineLists) (pid : Pid) (step : Step) → IsReached m → refusal_of m.board m.gone pid ≡ None →
    m.board.procs ≤ MOST_PROCS → length m.gone ≡ MOST_PROCS → next ≡ (acts_on m pid step).machine → BeforeStall next (acts_on m pid step).events
before_stall_of m next pid step r h few places machine =
    rw machine (acts_before_stall m pid step (fault_on m.edition m.board m.gone step) refl r h few places)

-- ---- where a process may step, not all wait
zero-left : (n : ℕ) → 0 + n ≡ n
zero-left n = omega arith

and_false : (b : Bool) → (b && false) ≡ false
and_false true = refl
and_false false = refl

pub awake : (b : Lists) (gone : List Bool) (pid : Pid) → refusal_of b gone pid ≡ None → all_wait_on b gone ≡ false
awake b gone pid h =
    let there = none_false (not (nat_lt pid.0 b.procs)) fault.NoProcess _ h in
    let stays = none_false (gone_on gone pid.0) fault.Gone _ there.1 in
    let free = none_false (open_on b.waiting pid.0) fault.Busy None stays.1 in
    let below : pid.0 < b.procs = grind (arith, common_steps, there.0) in
    let each : each_gone_or_open_on b gone b.procs ≡ false =
    list_all_at (λ q. gone_on gone q || open_on b.waiting q) (range_with_len 0 b.procs) pid.0 0
    (omega (arith, below, length-range_with_len 0 b.procs))
    (ap (λ q. gone_on gone q || open_on b.waiting q) (get_or-range_with_len 0 b.procs pid.0 0 below ∙ zero-left pid.0)
    ∙ ap (λ g. g || open_on b.waiting pid.0) stays.0 ∙ free.0) in
    ap (λ e. not (length b.waiting == 0) && e) each ∙ and_false (not (length b.waiting == 0))

-- with those that end in a stall
stalls_few : (c : ListChange) → (waits : Bool) → waits ≡ all_wait_on c.machine.board c.machine.gone
    → length c.events + length c.machine.board.waiting ≤ MOST_EVENTS → length (stalls_on c).events ≤ MOST_EVENTS
stalls_few c true is room = rw (sym is) (omega (
  arith,
  room,
  length-append c.events (stalled_events c.machine.board.waiting),
  length-map c.machine.board.waiting (λ (w : Ticketed). tells w.call.pid what.Stalled),
))
stalls_few c false is room = rw (sym is) (omega (arith, room))

answers_few : (m : MachineLists) (e : Entry) (o : Option Fault) → o ≡ fault_on m.edition m.board m.gone e.step → IsReached m
    → refusal_of m.board m.gone e.pid ≡ None → m.board.procs ≤ MOST_PROCS → length m.gone ≡ MOST_PROCS
    → length (answers_on m e o).events ≤ MOST_EVENTS
answers_few m e None is r h few places =
    stalls_few (effect_on m e.pid e.step) _ refl (before_stall m e.pid e.step r h (sym is) few places).room
answers_few m e (Some f) is r h few places = omega arith

-- an admitted step has no more events than a list of them holds
pub turn_few : (m : MachineLists) (e : Entry) → IsReached m → refusal_of m.board m.gone e.pid ≡ None → m.board.procs ≤ MOST_PROCS
    → length m.gone ≡ MOST_PROCS → length (turn_on m e).events ≤ MOST_EVENTS
turn_few m e r h few places = answers_few m e (fault_on m.edition m.board m.gone e.step) refl r h few places

-- ---- the ports of a call that has no fault
named_by : (ports : ℕ) (cases : List Case) → list_any (λ c. nat_lt ports (port_of c).0) cases ≡ false → AllMade ports cases
named_by ports [] h = tt
named_by ports (c ∷ cases) h =
    let parts = or_parts (nat_lt ports (port_of c).0) (list_any (λ c. nat_lt ports (port_of c).0) cases) h in
    (grind (arith, common_steps, parts.0), named_by ports cases parts.1)

pub call_named : (edition : Edition) (b : Lists) (cases : List Case) → call_fault_on edition b cases ≡ None → AllMade (length b.ports) cases
call_named edition b cases h =
    named_by (length b.ports) cases (none_false (list_any (λ c. is_unmade_on b (port_of c)) cases) fault.NoPort None
    (none_false (nat_lt (most_cases edition) (length cases)) fault.TooManyCases _ h).1).0
