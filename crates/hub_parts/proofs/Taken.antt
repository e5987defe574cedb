-- What the calls of a board leave, as the code has it: a channel is read, changed and written back.
use Rattle.std.proofs.Common.{◌≡◌, ℕ, ◌-◌, ◌<◌, ◌≤◌, List, length, map, get_or, set, refl, ap, ◌∙◌, sym, arith, Option, Some, None, subst, true}
use Rattle.std.proofs.lemmas.List.{length-map, map-set, set-get_or, get_or_default}
use Rattle.circular_buffer.specs.Buffer.{Buffer}
use Rattle.hub_base.specs.declared.value.Pid.{Pid}
use Rattle.hub_base.specs.declared.value.Port.{Port}
use Rattle.hub_base.specs.declared.case.Case.{Case}
use Rattle.hub_base.specs.Ready.{first_with, is_on}
use Rattle.hub_parts.specs.declared.side.Side.{Side}
use Rattle.hub_parts.specs.declared.wait_queue.Waiter.{Waiter}
use Rattle.hub_parts.specs.Records.{Calls, ChannelLists, PortLists}
use Rattle.hub_parts.specs.Queues.{roomy, joined, taken, passed, waiter_at, case_at}
use Rattle.hub_parts.specs.Lists.{IsMade, with_call, with_port, port_at, parked, ended_by, passes, open_calls}
use Rattle.hub_parts.specs.Channels.{channel_of, queue_of, first_on, older_side, without_first, with_queue, no_channel}
use Rattle.hub_parts.specs.Parking.{all_roomy, all_joined}
use Rattle.hub_parts.specs.Keeps.{BoardKeeps, AllMade, without_call, board_lists as lists}
use Rattle.hub_parts.proofs.Lines.{lists_of, get_or-map, lists-with_queue, lists-with_cases}
use Rattle.hub_parts.proofs.Endings.{passed_keeps}
use Rattle.hub_parts.proofs.Firsts.{Found, Tells, older_call}
use Rattle.hub_parts.proofs.Boards.{board_changed, board_lists, board_taken, board_untaken, taken_tells}

pub within : (c : Calls) (cs : List ChannelLists) (p : Port) → IsMade (lists c cs) p → p.0 ≤ length cs
within c cs p made = let le : p.0 ≤ length (map lists_of cs) = made.1 in omega (arith, length-map cs lists_of)

pub all_within : (c : Calls) (cs : List ChannelLists) (cases : List Case) → AllMade (length (lists c cs).ports) cases → AllMade (length cs) cases
all_within c cs cases made = subst (λ n. AllMade n cases) (length-map cs lists_of) made

-- the channel that was read
pub read : (c : Calls) (cs : List ChannelLists) (p : Port) (old : ChannelLists) → IsMade (lists c cs) p → old ≡ get_or cs (p.0 - 1) old → old ≡ channel_of cs p
read c cs p old made at =
    let less : p.0 ≤ length cs = within c cs p made in
    let positive : 0 < p.0 = made.0 in
    at ∙ get_or_default cs (p.0 - 1) old no_channel (omega arith)

-- a port's lists changed, and no queue
pub lists_changed : (change : PortLists → PortLists) (p : Port) (c : Calls) (cs : List ChannelLists) (old ch : ChannelLists) → IsMade (lists c cs) p
    → old ≡ get_or cs (p.0 - 1) old → ch ≡ record { lists = change old.lists; senders = old.senders; receivers = old.receivers }
    → lists c (set cs (p.0 - 1) ch) ≡ with_port (lists c cs) p (change (port_at (lists c cs) p))
lists_changed change p c cs old ch made at e =
    ap (λ (ps : List PortLists). record { procs = c.procs; ports = ps; waiting = c.waiting; next_ticket = c.next_ticket })
    (map-set lists_of cs (p.0 - 1) ch
    ∙ ap (set (map lists_of cs) (p.0 - 1))
    (ap lists_of e ∙ ap change (ap lists_of (read c cs p old made at) ∙ sym (get_or-map lists_of cs (p.0 - 1) no_channel))))

pub kept_changed : (change : PortLists → PortLists) (p : Port) (c : Calls) (cs : List ChannelLists) (old ch : ChannelLists) → IsMade (lists c cs) p
    → old ≡ get_or cs (p.0 - 1) old → ch ≡ record { lists = change old.lists; senders = old.senders; receivers = old.receivers }
    → BoardKeeps c cs → BoardKeeps c (set cs (p.0 - 1) ch)
kept_changed change p c cs old ch made at e k =
    board_lists p ch c cs made.0 (within c cs p made)
    (ap (λ (d : ChannelLists). d.senders) e ∙ ap (λ (d : ChannelLists). d.senders) (read c cs p old made at))
    (ap (λ (d : ChannelLists). d.receivers) e ∙ ap (λ (d : ChannelLists). d.receivers) (read c cs p old made at))
    k

pub kept_taken : (s : Side) (p : Port) (c d : Calls) (cs : List ChannelLists) (old ch : ChannelLists) (entry : Waiter)
    → IsMade (lists c cs) p → old ≡ get_or cs (p.0 - 1) old → Some entry ≡ first_on s c.waiting old → ch ≡ without_first s c.waiting old
    → d ≡ without_call entry.pid c → BoardKeeps c cs → BoardKeeps d (set cs (p.0 - 1) ch)
kept_taken s p c d cs old ch entry made at found left ended k =
    let r = read c cs p old made at in
    rw (ended, left, r) (board_taken s p c cs entry made.0 (within c cs p made) k (rw r at found))

pub kept_untaken : (s : Side) (p : Port) (c : Calls) (cs : List ChannelLists) (old ch : ChannelLists) → IsMade (lists c cs) p
    → old ≡ get_or cs (p.0 - 1) old → None ≡ first_on s c.waiting old → ch ≡ without_first s c.waiting old → BoardKeeps c cs
    → BoardKeeps c (set cs (p.0 - 1) ch)
kept_untaken s p c cs old ch made at found left k =
    let r = read c cs p old made at in
    rw (left, r) (board_untaken s p c cs made.0 (within c cs p made) k (rw r at found))

same_lists : (f : Buffer Waiter → Buffer Waiter) (s : Side) (p : Port) (c : Calls) (cs : List ChannelLists) (old ch : ChannelLists)
    → IsMade (lists c cs) p → old ≡ get_or cs (p.0 - 1) old → ch ≡ with_queue f s old → map lists_of (set cs (p.0 - 1) ch) ≡ map lists_of cs
same_lists f s p c cs old ch made at left =
    map-set lists_of cs (p.0 - 1) ch
    ∙ ap (set (map lists_of cs) (p.0 - 1))
    (ap lists_of left ∙ lists-with_queue f s old ∙ ap lists_of (read c cs p old made at) ∙ sym (get_or-map lists_of cs (p.0 - 1) no_channel))
    ∙ set-get_or (map lists_of cs) (p.0 - 1) (lists_of no_channel)

pub lists_taken : (s : Side) (p : Port) (c d : Calls) (cs : List ChannelLists) (old ch : ChannelLists) (pid : Pid) → IsMade (lists c cs) p
    → old ≡ get_or cs (p.0 - 1) old → ch ≡ without_first s c.waiting old → d ≡ without_call pid c → lists d (set cs (p.0 - 1) ch) ≡ ended_by pid (lists c cs)
lists_taken s p c d cs old ch pid made at left ended =
    rw (ended, same_lists (taken c.waiting) s p c cs old ch made at left) refl

pub lists_untaken : (s : Side) (p : Port) (c : Calls) (cs : List ChannelLists) (old ch : ChannelLists) → IsMade (lists c cs) p
    → old ≡ get_or cs (p.0 - 1) old → ch ≡ without_first s c.waiting old → lists c (set cs (p.0 - 1) ch) ≡ lists c cs
lists_untaken s p c cs old ch made at left =
    rw (same_lists (taken c.waiting) s p c cs old ch made at left) refl

pub told : (s : Side) (p : Port) (c : Calls) (cs : List ChannelLists) (old : ChannelLists) (o : Option Waiter) → IsMade (lists c cs) p
    → old ≡ get_or cs (p.0 - 1) old → o ≡ first_on s c.waiting old → BoardKeeps c cs → Tells (passes p s) c.waiting o
told s p c cs old o made at found k = taken_tells s p c cs o made.0 (within c cs p made) k (rw (read c cs p old made at) at found)

some_is : {X : Type 0} (x y : X) → Some x ≡ Some y → x ≡ y
some_is x y e = cc

pub ending_told : (s : Side) (p : Port) (c : Calls) (entry : Waiter) (case : Case)
    → Found (passes p s) c.waiting entry → Some case ≡ case_at c.waiting entry.ticket entry.case
    → Some (record { pid = entry.pid; at = record { index = entry.case; case = case } }) ≡ first_with (passes p s) (open_calls c.waiting)
ending_told s p c entry case f e = let same : case ≡ f.case = some_is case f.case (e ∙ f.at) in rw same (sym f.first)

-- the case that is told is one of that side on that port
pub case_passes : (s : Side) (p : Port) (c : Calls) (entry : Waiter) (case : Case) → Found (passes p s) c.waiting entry
    → Some case ≡ case_at c.waiting entry.ticket entry.case → passes p s case ≡ true
case_passes s p c entry case f e = let same : case ≡ f.case = some_is case f.case (e ∙ f.at) in rw same f.passes

pub case_is : (s : Side) (p : Port) (c : Calls) (entry : Waiter) → Found (passes p s) c.waiting entry → None ≡ case_at c.waiting entry.ticket entry.case → ⊥
case_is s p c entry f e = let impossible : None ≡ Some f.case = e ∙ f.at in cc

-- the oldest call on the side that a channel tells is the oldest on the port
pub older_told : (s : Side) (p : Port) (c : Calls) (cs : List ChannelLists) (old : ChannelLists) → IsMade (lists c cs) p
    → old ≡ get_or cs (p.0 - 1) old → s ≡ older_side c.waiting old → BoardKeeps c cs
    → first_with (passes p s) (open_calls c.waiting) ≡ first_with (is_on p) (open_calls c.waiting)
older_told s p c cs old made at is k =
    older_call p c (channel_of cs p) k.calls.ascending (λ t. k.queues t p made.0 (within c cs p made)) s (rw (read c cs p old made at) at is)

pub lists_parked : (pid : Pid) (ticket : ℕ) (c d : Calls) (cs ds : List ChannelLists) (cases : List Case) → d ≡ with_call pid ticket cases c
    → ds ≡ all_joined pid ticket 0 (all_roomy c.waiting cs cases) cases → lists d ds ≡ parked pid ticket cases (lists c cs)
lists_parked pid ticket c d cs ds cases opened joins =
    rw (
      opened,
      joins,
      lists-with_cases (λ i. joined (waiter_at pid ticket i)) 0 (all_roomy c.waiting cs cases) cases,
      lists-with_cases (λ i. roomy c.waiting) 0 cs cases,
    ) refl

-- the dead entries of a queue were passed
pub kept_passed : (s : Side) (p : Port) (c : Calls) (cs : List ChannelLists) (old ch : ChannelLists) → IsMade (lists c cs) p
    → old ≡ get_or cs (p.0 - 1) old → ch ≡ with_queue (passed c.waiting) s old → BoardKeeps c cs → BoardKeeps c (set cs (p.0 - 1) ch)
kept_passed s p c cs old ch made at left k =
    let r = read c cs p old made at in
    rw (left, r)
    (board_changed (passed c.waiting) s p c cs made.0 (within c cs p made) k
    (passed_keeps (passes p s) c (queue_of s (channel_of cs p)) (k.queues s p made.0 (within c cs p made))))

pub lists_passed : (s : Side) (p : Port) (c : Calls) (cs : List ChannelLists) (old ch : ChannelLists) → IsMade (lists c cs) p
    → old ≡ get_or cs (p.0 - 1) old → ch ≡ with_queue (passed c.waiting) s old → lists c (set cs (p.0 - 1) ch) ≡ lists c cs
lists_passed s p c cs old ch made at left = rw (same_lists (passed c.waiting) s p c cs old ch made at left) refl
