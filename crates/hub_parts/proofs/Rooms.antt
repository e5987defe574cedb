-- Room for a call's entries, and what the queues keep when it joins.
use Rattle.std.proofs.Common.{◌≡◌, ℕ, ◌+◌, ◌-◌, ◌*◌, ◌<◌, ◌≤◌, ◌==◌, ◌&&◌, ◌||◌, Bool, true, false, cond, List, [], ◌∷◌, ◌++◌, length}
use Rattle.std.proofs.Common.{filter, refl, ap, ◌∙◌, sym, arith, subst, suc, eq-eqb, length-append, append_assoc, ltb}
use Rattle.std.specs.List.{AllByRecursion}
use Rattle.std.proofs.lemmas.Bool.{ne_eqb, ltb-false, le-ltb}
use Rattle.std.proofs.lemmas.Grind.{flat_map-append}
use Rattle.std.proofs.lemmas.List.{append-nil}
use Rattle.std.proofs.lemmas.List.Elements.{filter-append}
use Rattle.circular_buffer.specs.Buffer.{Buffer, buffer}
use Rattle.hub_base.specs.declared.value.Pid.{Pid}
use Rattle.hub_base.specs.declared.value.Port.{Port}
use Rattle.hub_base.specs.declared.case.Case.{Case}
use Rattle.hub_base.specs.declared.case.Case.TheVariants.{Send, Recv}
use Rattle.hub_base.specs.Ready.{port_of}
use Rattle.hub_base.specs.declared.limits.TheConstants.{CASE_PLACES}
use Rattle.hub_base.proofs.Lists.{all_append, all_more}
use Rattle.hub_parts.specs.declared.side.Side.{Side}
use Rattle.hub_parts.specs.declared.side.Side.TheVariants as side
use Rattle.hub_parts.specs.declared.wait_queue.Waiter.{Waiter}
use Rattle.hub_parts.specs.Records.{Ticketed, Calls, ChannelLists}
use Rattle.hub_parts.specs.Queues.{has_call, lives, live_of, roomy, joined, waiters, waiters_of, waiters_from, waiter_at}
use Rattle.hub_parts.specs.Lists.{with_call, ticketed, passes}
use Rattle.hub_parts.specs.Channels.{queue_of, channel_of}
use Rattle.hub_parts.specs.Parking.{with_case, CanJoin, CaseFits}
use Rattle.hub_parts.specs.Keeps.{QueueKeeps, AllMade}
use Rattle.hub_parts.proofs.Lists.{all_filter, length-filter-le}
use Rattle.hub_parts.proofs.Lines.{with_if, queue_after, queue_with_case, length-with_case}
use Rattle.hub_parts.proofs.Endings.{filter_within}

length-waiters_from : (test : Case → Bool) (pid : Pid) (ticket i : ℕ) (cases : List Case)
    → length (waiters_from test pid ticket i cases) ≡ length (filter test cases)
length-waiters_from test pid ticket i [] = refl
length-waiters_from test pid ticket i (c ∷ cases) =
    elim (test c) as (λ b. length (cond b (waiter_at pid ticket i ∷ waiters_from test pid ticket (i + 1) cases) (waiters_from test pid ticket (i + 1) cases))
    ≡ length (cond b (c ∷ filter test cases) (filter test cases)))
    [ true ↦ ap suc (length-waiters_from test pid ticket (i + 1) cases) | false ↦ length-waiters_from test pid ticket (i + 1) cases ]

most_waiters : (test : Case → Bool) (ws : List Ticketed) → AllByRecursion (λ w. length w.call.cases ≤ CASE_PLACES) ws
    → length (waiters test ws) ≤ CASE_PLACES * length ws
most_waiters test [] a = omega arith
most_waiters test (w ∷ ws) a =
    let here : length w.call.cases ≤ CASE_PLACES = a.0 in
    omega (
      arith,
      length-append (waiters_of test w) (waiters test ws),
      length-waiters_from test w.call.pid w.ticket 0 w.call.cases,
      length-filter-le test w.call.cases,
      most_waiters test ws a.1,
    )

-- the places for a call are free
pub HasPlaces : Buffer Waiter → Type 0
HasPlaces q = length q.items + CASE_PLACES ≤ q.capacity

roomy_step : (ws : List Ticketed) (q : Buffer Waiter) (b : Bool) → ltb (q.capacity - length q.items) CASE_PLACES ≡ b → length q.items ≤ q.capacity
    → length (live_of ws q.items) + CASE_PLACES ≤ q.capacity → HasPlaces (cond b (buffer (live_of ws q.items) q.capacity) q)
unfolding HasPlaces
roomy_step ws q true e fits few = few
roomy_step ws q false e fits few = omega (arith, ltb-false (q.capacity - length q.items) CASE_PLACES e)

pub roomy_has : (test : Case → Bool) (c : Calls) (q : Buffer Waiter) → 0 < c.procs → length c.waiting ≤ c.procs
    → AllByRecursion (λ w. length w.call.cases ≤ CASE_PLACES) c.waiting → QueueKeeps test c q → HasPlaces (roomy c.waiting q)
roomy_has test c q some few small k =
    let most : length (live_of c.waiting q.items) + CASE_PLACES ≤ q.capacity = omega (arith, ap length k.live, most_waiters test c.waiting small, k.places) in
    roomy_step c.waiting q (ltb (q.capacity - length q.items) CASE_PLACES) refl k.fits most

pub roomy_keeps : (test : Case → Bool) (c : Calls) (q : Buffer Waiter) → QueueKeeps test c q → QueueKeeps test c (roomy c.waiting q)
roomy_keeps test c q k =
    elim (ltb (q.capacity - length q.items) CASE_PLACES) as (λ b. QueueKeeps test c (cond b (buffer (live_of c.waiting q.items) q.capacity) q)) [
      | true ↦ record {
        live = filter_within (lives c.waiting) (lives c.waiting) q.items (λ e h. h) ∙ k.live;
        below = all_filter (λ entry. entry.ticket < c.next_ticket) (lives c.waiting) q.items k.below;
        places = k.places;
        fits = omega (arith, k.fits, length-filter-le (lives c.waiting) q.items);
      }
      | false ↦ k
    ]

-- where the places for a call are free, nothing is dropped
stays_roomy : (ws : List Ticketed) (q : Buffer Waiter) → HasPlaces q → roomy ws q ≡ q
unfolding HasPlaces
stays_roomy ws q h = rw (le-ltb (q.capacity - length q.items) CASE_PLACES (omega arith)) refl

stay_after : (ws : List Ticketed) (test : Case → Bool) (i : ℕ) (q : Buffer Waiter) (cases : List Case) → HasPlaces q
    → queue_after (λ i. roomy ws) test i q cases ≡ q
stay_after ws test i q [] h = refl
stay_after ws test i q (c ∷ cases) h =
    elim (test c) as (λ b. queue_after (λ i. roomy ws) test (i + 1) (with_if b (roomy ws) q) cases ≡ q) [
      | true ↦ ap (λ q. queue_after (λ i. roomy ws) test (i + 1) q cases) (stays_roomy ws q h) ∙ stay_after ws test (i + 1) q cases h
      | false ↦ stay_after ws test (i + 1) q cases h
    ]

pub record Ready (test : Case → Bool) (c : Calls) (q : Buffer Waiter) (cases : List Case) : Type 0 where
  pub keeps : QueueKeeps test c q
  pub room : length q.items + length (filter test cases) ≤ q.capacity

ready_step : (test : Case → Bool) (c : Calls) (i : ℕ) (q : Buffer Waiter) (case : Case) (cases : List Case) (b : Bool) → test case ≡ b → QueueKeeps test c q
    → HasPlaces (roomy c.waiting q) → suc (length cases) ≤ CASE_PLACES → Ready test c (queue_after (λ i. roomy c.waiting) test (i + 1) q cases) cases
    → Ready test c (queue_after (λ i. roomy c.waiting) test (i + 1) (with_if b (roomy c.waiting) q) cases) (case ∷ cases)
unfolding HasPlaces
ready_step test c i q case cases true e k h few ih =
    rw (stay_after c.waiting test (i + 1) (roomy c.waiting q) cases h) (record {
      keeps = roomy_keeps test c q k;
      room = rw e (omega (arith, h, length-filter-le test cases));
    })
ready_step test c i q case cases false e k h few ih = record { keeps = ih.keeps; room = rw e ih.room }

-- after room was made for the cases of a call
pub ready_after : (test : Case → Bool) (c : Calls) (i : ℕ) (q : Buffer Waiter) (cases : List Case) → QueueKeeps test c q
    → HasPlaces (roomy c.waiting q) → length cases ≤ CASE_PLACES → Ready test c (queue_after (λ i. roomy c.waiting) test i q cases) cases
ready_after test c i q [] k h few = record { keeps = k; room = omega (arith, k.fits) }
ready_after test c i q (case ∷ cases) k h few =
    ready_step test c i q case cases (test case) refl k h few (ready_after test c (i + 1) q cases k h (omega arith))

-- joining, seen at one queue
pub joined_after : (test : Case → Bool) (pid : Pid) (ticket i : ℕ) (q : Buffer Waiter) (cases : List Case)
    → queue_after (λ i. joined (waiter_at pid ticket i)) test i q cases ≡ buffer (q.items ++ waiters_from test pid ticket i cases) q.capacity
joined_after test pid ticket i q [] = rw (append-nil q.items) refl
joined_after test pid ticket i q (c ∷ cases) =
    elim (test c) as (λ b. queue_after (λ i. joined (waiter_at pid ticket i)) test (i + 1) (with_if b (joined (waiter_at pid ticket i)) q) cases ≡ buffer
    (q.items ++ cond b (waiter_at pid ticket i ∷ waiters_from test pid ticket (i + 1) cases) (waiters_from test pid ticket (i + 1) cases)) q.capacity) [
      | true ↦ joined_after test pid ticket (i + 1) (joined (waiter_at pid ticket i) q) cases ∙ rw append_assoc refl
      | false ↦ joined_after test pid ticket (i + 1) q cases
    ]

live_alone : (ws : List Ticketed) (w : Ticketed) (t : ℕ) (pid : Pid) → (w.ticket == t) ≡ false → has_call (ws ++ w ∷ []) t pid ≡ has_call ws t pid
live_alone [] w t pid e = rw e refl
live_alone (v ∷ ws) w t pid e = ap (λ b. ((v.ticket == t) && (v.call.pid.0 == pid.0)) || b) (live_alone ws w t pid e)

live_newest : (ws : List Ticketed) (w : Ticketed) → has_call (ws ++ w ∷ []) w.ticket w.call.pid ≡ true
live_newest [] w = rw (eq-eqb w.ticket w.ticket refl, eq-eqb w.call.pid.0 w.call.pid.0 refl) refl
live_newest (v ∷ ws) w =
    elim ((v.ticket == w.ticket) && (v.call.pid.0 == w.call.pid.0)) as (λ b. (b || has_call (ws ++ w ∷ []) w.ticket w.call.pid) ≡ true)
    [ true ↦ refl | false ↦ live_newest ws w ]

-- the entries that stood there know nothing of the new call
old_live : (ws : List Ticketed) (w : Ticketed) (n : ℕ) (items : List Waiter) → n ≤ w.ticket → AllByRecursion (λ entry. entry.ticket < n) items
    → live_of (ws ++ w ∷ []) items ≡ live_of ws items
old_live ws w n [] later a = refl
old_live ws w n (e ∷ items) later a =
    let less : e.ticket < n = a.0 in
    rw (live_alone ws w e.ticket e.pid (ne_eqb w.ticket e.ticket (λ same. omega arith)), old_live ws w n items later a.1) refl

new_live : (ws : List Ticketed) (w : Ticketed) (test : Case → Bool) (i : ℕ) (cases : List Case)
    → live_of (ws ++ w ∷ []) (waiters_from test w.call.pid w.ticket i cases) ≡ waiters_from test w.call.pid w.ticket i cases
new_live ws w test i [] = refl
new_live ws w test i (c ∷ cases) =
    elim (test c) as (λ b. live_of (ws ++ w ∷ [])
    (cond b (waiter_at w.call.pid w.ticket i ∷ waiters_from test w.call.pid w.ticket (i + 1) cases) (waiters_from test w.call.pid w.ticket (i + 1) cases))
    ≡ cond b (waiter_at w.call.pid w.ticket i ∷ waiters_from test w.call.pid w.ticket (i + 1) cases) (waiters_from test w.call.pid w.ticket (i + 1) cases)) [
      | true ↦ rw (live_newest ws w) (ap (λ es. waiter_at w.call.pid w.ticket i ∷ es) (new_live ws w test (i + 1) cases))
      | false ↦ new_live ws w test (i + 1) cases
    ]

new_below : (test : Case → Bool) (pid : Pid) (ticket i : ℕ) (cases : List Case)
    → AllByRecursion (λ e. e.ticket < ticket + 1) (waiters_from test pid ticket i cases)
new_below test pid ticket i [] = tt
new_below test pid ticket i (c ∷ cases) =
    elim (test c) as (λ b. AllByRecursion (λ e. e.ticket < ticket + 1)
    (cond b (waiter_at pid ticket i ∷ waiters_from test pid ticket (i + 1) cases) (waiters_from test pid ticket (i + 1) cases)))
    [ true ↦ (omega arith, new_below test pid ticket (i + 1) cases) | false ↦ new_below test pid ticket (i + 1) cases ]

pub parked_keeps : (test : Case → Bool) (c : Calls) (q : Buffer Waiter) (pid : Pid) (ticket : ℕ) (cases : List Case) → c.next_ticket ≤ ticket
    → Ready test c q cases → QueueKeeps test (with_call pid ticket cases c) (buffer (q.items ++ waiters_from test pid ticket 0 cases) q.capacity)
parked_keeps test c q pid ticket cases later r =
    let w = ticketed pid ticket cases in
    record {
      live =
          filter-append (lives (c.waiting ++ w ∷ [])) q.items (waiters_from test pid ticket 0 cases)
          ∙ rw (
            old_live c.waiting w c.next_ticket q.items later r.keeps.below,
            new_live c.waiting w test 0 cases,
            r.keeps.live,
            flat_map-append (waiters_of test) c.waiting (w ∷ []),
            append-nil (waiters_from test pid ticket 0 cases),
          ) refl;
      below = all_append (λ e. e.ticket < ticket + 1) q.items (waiters_from test pid ticket 0 cases)
          (all_more (λ e. e.ticket < c.next_ticket) (λ e. e.ticket < ticket + 1) q.items (λ e less. omega arith) r.keeps.below)
          (new_below test pid ticket 0 cases);
      places = r.keeps.places;
      fits = omega (arith, length-append q.items (waiters_from test pid ticket 0 cases), length-waiters_from test pid ticket 0 cases, r.room);
    }

-- where each queue has room for its cases, the cases join one by one
abbrev pub AllRoom : List ChannelLists → List Case → Type 0
AllRoom cs cases = (s : Side) (p : Port) → 0 < p.0 → p.0 ≤ length cs
    → length (queue_of s (channel_of cs p)).items + length (filter (passes p s) cases) ≤ (queue_of s (channel_of cs p)).capacity

counted : (b : Bool) (e : Waiter) (q : Buffer Waiter) (c : Case) (cases : List Case) → length q.items + length (cond b (c ∷ cases) cases) ≤ q.capacity
    → length (with_if b (joined e) q).items + length cases ≤ (with_if b (joined e) q).capacity
counted true e q c cases room = omega (arith, length-append q.items (e ∷ []))
counted false e q c cases room = room

place_for : (s : Side) (p : Port) (cs : List ChannelLists) (c : Case) (cases : List Case) → passes p s c ≡ true → p.0 ≤ length cs
    → AllRoom cs (c ∷ cases) → 0 < p.0 → length (queue_of s (channel_of cs p)).items < (queue_of s (channel_of cs p)).capacity
place_for s p cs c cases e within room positive = let r = rw e at (room s p positive within) in omega arith

case_fits : (cs : List ChannelLists) (c : Case) (cases : List Case) → (port_of c).0 ≤ length cs → AllRoom cs (c ∷ cases) → CaseFits cs c
case_fits cs (Send p v) cases within room = (within, place_for side.Send p cs (Send p v) cases (eq-eqb p.0 p.0 refl) within room)
case_fits cs (Recv p) cases within room = (within, place_for side.Recv p cs (Recv p) cases (eq-eqb p.0 p.0 refl) within room)

room_left : (cs : List ChannelLists) (e : Waiter) (c : Case) (cases : List Case) → AllRoom cs (c ∷ cases) → AllRoom (with_case (joined e) cs c) cases
room_left cs e c cases room s p positive within =
    let inside : p.0 ≤ length cs = rw (length-with_case (joined e) cs c) at within in
    rw (queue_with_case (joined e) cs c s p positive inside)
    (counted (passes p s c) e (queue_of s (channel_of cs p)) c (filter (passes p s) cases) (room s p positive inside))

pub can_join : (pid : Pid) (ticket i : ℕ) (cs : List ChannelLists) (cases : List Case) → AllMade (length cs) cases → AllRoom cs cases
    → CanJoin pid ticket i cs cases
can_join pid ticket i cs [] made room = tt
can_join pid ticket i cs (c ∷ cases) made room = (
  case_fits cs c cases made.0 room,
  can_join pid ticket (i + 1) (with_case (joined (waiter_at pid ticket i)) cs c) cases
      (subst (λ n. AllMade n cases) (sym (length-with_case (joined (waiter_at pid ticket i)) cs c)) made.1)
      (room_left cs (waiter_at pid ticket i) c cases room),
)
