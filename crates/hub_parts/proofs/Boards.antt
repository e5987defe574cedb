-- What every board keeps, through each call.
use Rattle.std.proofs.Common.{◌≡◌, ◌≢◌, ℕ, ◌+◌, ◌-◌, ◌*◌, ◌<◌, ◌≤◌, ◌==◌, false, not, List, [], ◌∷◌, ◌++◌, length, set}
use Rattle.std.proofs.Common.{refl, ap, ◌∙◌, sym, arith, Option, Some, None, subst, inl, inr, length-append}
use Rattle.std.specs.List.{AllByRecursion}
use Rattle.std.proofs.lemmas.Bool.{ne_eqb, cases_eq, cases_lt}
use Rattle.std.proofs.lemmas.List.{length-set, get_or-set_same, get_or-set_other, get_or_append_left, get_or_push}
use Rattle.circular_buffer.specs.Buffer.{Buffer, buffer}
use Rattle.hub_base.specs.declared.value.Pid.{Pid}
use Rattle.hub_base.specs.declared.value.Port.{Port}
use Rattle.hub_base.specs.declared.case.Case.{Case}
use Rattle.hub_base.specs.declared.case.Case.TheVariants.{Send, Recv}
use Rattle.hub_base.specs.Ready.{port_of}
use Rattle.hub_base.specs.declared.limits.TheConstants.{CASE_PLACES, MOST_PORTS}
use Rattle.hub_base.proofs.Lists.{all_snoc, all_more}
use Rattle.hub_parts.specs.declared.wait_queue.TheConstants.{PLACES}
use Rattle.hub_parts.specs.declared.side.Side.{Side}
use Rattle.hub_parts.specs.declared.side.Side.TheVariants as side
use Rattle.hub_parts.specs.declared.wait_queue.Waiter.{Waiter}
use Rattle.hub_parts.specs.Records.{Ticketed, Calls, ChannelLists}
use Rattle.hub_parts.specs.Queues.{roomy, joined, taken, waiters, waiters_from, waiter_at}
use Rattle.hub_parts.specs.Lists.{with_call, ticketed, passes}
use Rattle.hub_parts.specs.Channels.{queue_of, channel_of, first_on, without_first, new_channel, with_queue, no_channel}
use Rattle.hub_parts.specs.Parking.{all_roomy, all_joined, CanJoin}
use Rattle.hub_parts.specs.Keeps.{QueueKeeps, CallsKeep, BoardKeeps, AllMade, Ascending, without_call}
use Rattle.hub_parts.proofs.Lists.{all_filter, length-filter-le}
use Rattle.hub_parts.proofs.Lines.{queue_with_cases, length-with_cases}
use Rattle.hub_parts.proofs.Endings.{ended_keeps, taken_keeps, none_keeps, ascending_filter}
use Rattle.hub_parts.proofs.Rooms.{Ready, ready_after, roomy_has, joined_after, parked_keeps, can_join}
use Rattle.hub_parts.proofs.Firsts.{Found, Tells, tells, found_first}

pub calls_ended : (pid : Pid) (c : Calls) (n : ℕ) → CallsKeep c n → CallsKeep (without_call pid c) n
calls_ended pid c n k =
    let keep = λ (w : Ticketed). not (w.call.pid.0 == pid.0) in
    record {
      counted = k.counted;
      few = omega (arith, length-filter-le keep c.waiting, k.few);
      small = all_filter (λ w. length w.call.cases ≤ CASE_PLACES) keep c.waiting k.small;
      made = all_filter (λ w. AllMade n w.call.cases) keep c.waiting k.made;
      ascending = ascending_filter keep c.waiting k.ascending;
      below = all_filter (λ w. w.ticket < c.next_ticket) keep c.waiting k.below;
    }

-- every queue where a call ended
pub queues_ended : (pid : Pid) (c : Calls) (cs : List ChannelLists) → BoardKeeps c cs → BoardKeeps (without_call pid c) cs
queues_ended pid c cs k = record {
  calls = calls_ended pid c (length cs) k.calls;
  queues = λ s p positive within. ended_keeps (passes p s) c (queue_of s (channel_of cs p)) pid k.calls.ascending (k.queues s p positive within);
}

changed_queue : (f : Buffer Waiter → Buffer Waiter) (s t : Side) (p : Port) (c : Calls) (ch : ChannelLists) → QueueKeeps (passes p t) c (queue_of t ch)
    → QueueKeeps (passes p s) c (f (queue_of s ch)) → QueueKeeps (passes p t) c (queue_of t (with_queue f s ch))
changed_queue f side.Send side.Send p c ch stay change = change
changed_queue f side.Send side.Recv p c ch stay change = stay
changed_queue f side.Recv side.Send p c ch stay change = stay
changed_queue f side.Recv side.Recv p c ch stay change = change

abbrev to_port : ℕ → Port
to_port n = record { 0 = n }

same_port : (p q : Port) → p.0 ≡ q.0 → p ≡ q
same_port p q e = ap to_port e

-- a board where one port changed, and each of its queues keeps what it kept
board_set : (q : Port) (ch : ChannelLists) (c : Calls) (cs : List ChannelLists) → 0 < q.0 → q.0 ≤ length cs
    → ((t : Side) → QueueKeeps (passes q t) c (queue_of t (channel_of cs q)) → QueueKeeps (passes q t) c (queue_of t ch))
    → BoardKeeps c cs → BoardKeeps c (set cs (q.0 - 1) ch)
board_set q ch c cs positive within keeps k =
    let long = length-set cs (q.0 - 1) ch in
    record {
      calls = rw long k.calls;
      queues = λ t p above inside0.
          let inside : p.0 ≤ length cs = rw long at inside0 in
          elim (cases_eq p.0 q.0) [
            | inl same ↦
                subst (λ r. QueueKeeps (passes r t) c (queue_of t (channel_of (set cs (q.0 - 1) ch) r))) (sym (same_port p q same))
                (rw (get_or-set_same cs (q.0 - 1) ch no_channel (omega arith)) (keeps t (k.queues t q positive within)))
            | inr ne ↦
                (let apart : p.0 - 1 ≢ q.0 - 1 = (λ e. ne (omega arith)) in
                rw (get_or-set_other cs (q.0 - 1) (p.0 - 1) ch no_channel apart) (k.queues t p above inside))
          ];
    }

-- a board where one queue changed
pub board_changed : (f : Buffer Waiter → Buffer Waiter) (s : Side) (q : Port) (c : Calls) (cs : List ChannelLists) → 0 < q.0 → q.0 ≤ length cs
    → BoardKeeps c cs → QueueKeeps (passes q s) c (f (queue_of s (channel_of cs q))) → BoardKeeps c (set cs (q.0 - 1) (with_queue f s (channel_of cs q)))
board_changed f s q c cs positive within k change =
    board_set q (with_queue f s (channel_of cs q)) c cs positive within (λ t kept. changed_queue f s t q c (channel_of cs q) kept change) k

same_queues : (t : Side) (q : Port) (c : Calls) (ch old : ChannelLists) → ch.senders ≡ old.senders → ch.receivers ≡ old.receivers
    → QueueKeeps (passes q t) c (queue_of t old) → QueueKeeps (passes q t) c (queue_of t ch)
same_queues side.Send q c ch old es er k = rw es k
same_queues side.Recv q c ch old es er k = rw er k

-- a board where one port changed, and no queue
pub board_lists : (q : Port) (ch : ChannelLists) (c : Calls) (cs : List ChannelLists) → 0 < q.0 → q.0 ≤ length cs
    → ch.senders ≡ (channel_of cs q).senders → ch.receivers ≡ (channel_of cs q).receivers → BoardKeeps c cs → BoardKeeps c (set cs (q.0 - 1) ch)
board_lists q ch c cs positive within es er k =
    board_set q ch c cs positive within (λ t kept. same_queues t q c ch (channel_of cs q) es er kept) k

-- no call has a case on a port that was not made
no_join : (s : Side) (p : Port) (n : ℕ) (c : Case) → (port_of c).0 ≤ n → n < p.0 → passes p s c ≡ false
no_join side.Send p n (Send q v) le more = ne_eqb q.0 p.0 (λ e. omega arith)
no_join side.Send p n (Recv q) le more = refl
no_join side.Recv p n (Send q v) le more = refl
no_join side.Recv p n (Recv q) le more = ne_eqb q.0 p.0 (λ e. omega arith)

no_waiters_from : (s : Side) (p : Port) (n : ℕ) (pid : Pid) (ticket i : ℕ) (cases : List Case) → AllMade n cases → n < p.0
    → waiters_from (passes p s) pid ticket i cases ≡ []
no_waiters_from s p n pid ticket i [] a more = refl
no_waiters_from s p n pid ticket i (c ∷ cases) a more = rw (no_join s p n c a.0 more) (no_waiters_from s p n pid ticket (i + 1) cases a.1 more)

no_waiters : (s : Side) (p : Port) (n : ℕ) (ws : List Ticketed) → AllByRecursion (λ w. AllMade n w.call.cases) ws → n < p.0 → waiters (passes p s) ws ≡ []
no_waiters s p n [] a more = refl
no_waiters s p n (w ∷ ws) a more = rw (no_waiters_from s p n w.call.pid w.ticket 0 w.call.cases a.0 more) (no_waiters s p n ws a.1 more)

fresh_queue : (s : Side) (cap procs : ℕ) → queue_of s (new_channel cap procs) ≡ buffer [] (PLACES * procs)
fresh_queue side.Send cap procs = refl
fresh_queue side.Recv cap procs = refl

-- a board with one more port
pub board_made : (cap : ℕ) (c : Calls) (cs : List ChannelLists) → BoardKeeps c cs → length cs < MOST_PORTS → BoardKeeps c (cs ++ new_channel cap c.procs ∷ [])
board_made cap c cs k fewer =
    let long = length-append cs (new_channel cap c.procs ∷ []) in
    record {
      calls = record {
        counted = omega (arith, long);
        few = k.calls.few;
        small = k.calls.small;
        made = all_more (λ w. AllMade (length cs) w.call.cases) (λ w. AllMade (length (cs ++ new_channel cap c.procs ∷ [])) w.call.cases) c.waiting
            (λ w made. all_more (λ q. (port_of q).0 ≤ length cs) (λ q. (port_of q).0 ≤ length (cs ++ new_channel cap c.procs ∷ [])) w.call.cases
            (λ q within. omega (arith, long)) made) k.calls.made;
        ascending = k.calls.ascending;
        below = k.calls.below;
      };
      queues = λ t p above inside.
          elim (cases_lt (p.0 - 1) (length cs)) [
            | inl less ↦ rw (get_or_append_left cs (new_channel cap c.procs ∷ []) no_channel (p.0 - 1) less) (k.queues t p above (omega arith))
            | inr more ↦
                (let at : length cs ≡ p.0 - 1 = omega (arith, long) in
                rw (get_or_push cs (new_channel cap c.procs) no_channel (p.0 - 1) at, fresh_queue t cap c.procs)
                (record {
                  live = sym (no_waiters t p (length cs) c.waiting k.calls.made (omega arith));
                  below = tt;
                  places = refl;
                  fits = omega arith;
                }))
          ];
    }

-- what a taking tells and leaves
pub taken_tells : (s : Side) (p : Port) (c : Calls) (cs : List ChannelLists) (o : Option Waiter) → 0 < p.0 → p.0 ≤ length cs
    → BoardKeeps c cs → o ≡ first_on s c.waiting (channel_of cs p) → Tells (passes p s) c.waiting o
taken_tells s p c cs o positive within k e =
    rw (e ∙ found_first (passes p s) c.waiting (queue_of s (channel_of cs p)).items (k.queues s p positive within).live)
    (tells (passes p s) c.waiting k.calls.ascending)

pub board_taken : (s : Side) (p : Port) (c : Calls) (cs : List ChannelLists) (entry : Waiter) → 0 < p.0 → p.0 ≤ length cs → BoardKeeps c cs
    → Some entry ≡ first_on s c.waiting (channel_of cs p)
    → BoardKeeps (without_call entry.pid c) (set cs (p.0 - 1) (without_first s c.waiting (channel_of cs p)))
board_taken s p c cs entry positive within k e =
    let found : Found (passes p s) c.waiting entry = taken_tells s p c cs (Some entry) positive within k e in
    board_changed (taken c.waiting) s p (without_call entry.pid c) cs positive within (queues_ended entry.pid c cs k)
    (taken_keeps (passes p s) c (queue_of s (channel_of cs p)) entry.pid entry k.calls.ascending (sym e) found.dies (k.queues s p positive within))

pub board_untaken : (s : Side) (p : Port) (c : Calls) (cs : List ChannelLists) → 0 < p.0 → p.0 ≤ length cs → BoardKeeps c cs
    → None ≡ first_on s c.waiting (channel_of cs p)
    → BoardKeeps c (set cs (p.0 - 1) (without_first s c.waiting (channel_of cs p)))
board_untaken s p c cs positive within k e =
    board_changed (taken c.waiting) s p c cs positive within k
    (none_keeps (passes p s) c (queue_of s (channel_of cs p)) (sym e) (k.queues s p positive within))

ascending_snoc : (ws : List Ticketed) (w : Ticketed) (n : ℕ) → n ≤ w.ticket → AllByRecursion (λ v. v.ticket < n) ws → Ascending ws → Ascending (ws ++ w ∷ [])
ascending_snoc [] w n le b a = (tt, tt)
ascending_snoc (v ∷ ws) w n le b a =
    let less : v.ticket < n = b.0 in
    (all_snoc (λ u. v.ticket < u.ticket) ws w a.0 (omega arith), ascending_snoc ws w n le b.1 a.1)

pub calls_opened : (pid : Pid) (ticket : ℕ) (cases : List Case) (c : Calls) (n : ℕ) → CallsKeep c n → c.next_ticket ≤ ticket → length cases ≤ CASE_PLACES
    → AllMade n cases → length (c.waiting ++ ticketed pid ticket cases ∷ []) ≤ c.procs → CallsKeep (with_call pid ticket cases c) n
calls_opened pid ticket cases c n k later small made few = record {
  counted = k.counted;
  few = few;
  small = all_snoc (λ w. length w.call.cases ≤ CASE_PLACES) c.waiting (ticketed pid ticket cases) k.small small;
  made = all_snoc (λ w. AllMade n w.call.cases) c.waiting (ticketed pid ticket cases) k.made made;
  ascending = ascending_snoc c.waiting (ticketed pid ticket cases) c.next_ticket later k.below k.ascending;
  below = all_snoc (λ w. w.ticket < ticket + 1) c.waiting (ticketed pid ticket cases)
      (all_more (λ w. w.ticket < c.next_ticket) (λ w. w.ticket < ticket + 1) c.waiting (λ w less. omega arith) k.below) (omega arith);
}

-- a queue after room was made for a call
queue_ready : (s : Side) (p : Port) (c : Calls) (cs : List ChannelLists) (cases : List Case) → 0 < p.0 → p.0 ≤ length cs → BoardKeeps c cs
    → 0 < c.procs → length cases ≤ CASE_PLACES → Ready (passes p s) c (queue_of s (channel_of (all_roomy c.waiting cs cases) p)) cases
queue_ready s p c cs cases positive within k free small =
    rw (queue_with_cases (λ i. roomy c.waiting) 0 cs cases s p positive within)
    (ready_after (passes p s) c 0 (queue_of s (channel_of cs p)) cases (k.queues s p positive within)
    (roomy_has (passes p s) c (queue_of s (channel_of cs p)) free k.calls.few k.calls.small (k.queues s p positive within)) small)

pub roomy_can_join : (pid : Pid) (ticket : ℕ) (c : Calls) (cs : List ChannelLists) (cases : List Case) → BoardKeeps c cs → 0 < c.procs
    → length cases ≤ CASE_PLACES → AllMade (length cs) cases → CanJoin pid ticket 0 (all_roomy c.waiting cs cases) cases
roomy_can_join pid ticket c cs cases k free small made =
    let long = length-with_cases (λ i. roomy c.waiting) 0 cs cases in
    can_join pid ticket 0 (all_roomy c.waiting cs cases) cases (subst (λ n. AllMade n cases) (sym long) made)
    (λ s p positive within. (queue_ready s p c cs cases positive (rw long at within) k free small).room)

pub board_parked : (pid : Pid) (ticket : ℕ) (c : Calls) (cs : List ChannelLists) (cases : List Case) → BoardKeeps c cs → 0 < c.procs
    → length cases ≤ CASE_PLACES → AllMade (length cs) cases → c.next_ticket ≤ ticket → length (c.waiting ++ ticketed pid ticket cases ∷ []) ≤ c.procs
    → BoardKeeps (with_call pid ticket cases c) (all_joined pid ticket 0 (all_roomy c.waiting cs cases) cases)
board_parked pid ticket c cs cases k free small made later few =
    let roomy_long = length-with_cases (λ i. roomy c.waiting) 0 cs cases in
    let long = length-with_cases (λ i. joined (waiter_at pid ticket i)) 0 (all_roomy c.waiting cs cases) cases in
    record {
      calls = rw (long, roomy_long) (calls_opened pid ticket cases c (length cs) k.calls later small made few);
      queues = λ s p positive within0.
          let within1 : p.0 ≤ length (all_roomy c.waiting cs cases) = rw long at within0 in
          let within : p.0 ≤ length cs = rw roomy_long at within1 in
          rw (
            queue_with_cases (λ i. joined (waiter_at pid ticket i)) 0 (all_roomy c.waiting cs cases) cases s p positive within1,
            joined_after (passes p s) pid ticket 0 (queue_of s (channel_of (all_roomy c.waiting cs cases) p)) cases,
          )
          (parked_keeps (passes p s) c (queue_of s (channel_of (all_roomy c.waiting cs cases) p)) pid ticket cases later
          (queue_ready s p c cs cases positive within k free small));
    }
