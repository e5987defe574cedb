-- A change of the queues of a call's cases, seen at one queue.
use Rattle.std.proofs.Common.{◌≡◌, ◌≢◌, ℕ, ◌+◌, ◌-◌, ◌<◌, ◌≤◌, ◌==◌, Bool, true, false, cond, List, [], ◌∷◌}
use Rattle.std.proofs.Common.{length, drop, map, get_or, set, refl, ap, ◌∙◌, sym, subst, arith, add-one, drop-cons, eq-eqb, zero, suc, inl, inr}
use Rattle.std.proofs.lemmas.Bool.{cases_eq, ne_eqb, eqb-true, eqb-false}
use Rattle.std.proofs.lemmas.List.{length-set, get_or-set_same, get_or-set_other, map-set, set-get_or}
use Rattle.circular_buffer.specs.Buffer.{Buffer}
use Rattle.hub_base.specs.declared.value.Pid.{Pid}
use Rattle.hub_base.specs.declared.value.Port.{Port}
use Rattle.hub_base.specs.declared.case.Case.{Case}
use Rattle.hub_base.specs.declared.case.Case.TheVariants.{Send, Recv}
use Rattle.hub_base.specs.Ready.{port_of}
use Rattle.hub_parts.specs.declared.side.Side.{Side}
use Rattle.hub_parts.specs.declared.side.Side.TheVariants as side
use Rattle.hub_parts.specs.declared.wait_queue.Waiter.{Waiter}
use Rattle.hub_parts.specs.Records.{ChannelLists, PortLists}
use Rattle.hub_parts.specs.Channels.{queue_of, with_queue, channel_of, no_channel}
use Rattle.hub_parts.specs.Parking.{with_line, with_case, with_cases, CanJoin, CaseFits}
use Rattle.hub_parts.specs.Queues.{joined, waiter_at}
use Rattle.hub_parts.specs.Keeps.{AllMade}
use Rattle.hub_parts.specs.Lists.{passes}

abbrev Change : Type 0
Change = Buffer Waiter → Buffer Waiter

abbrev pub lists_of : ChannelLists → PortLists
lists_of c = c.lists

pub length-with_line : (f : Change) (s : Side) (p : Port) (cs : List ChannelLists) → length (with_line f s p cs) ≡ length cs
length-with_line f s p cs = elim (p.0 == 0) as (λ b. length (cond b cs (set cs (p.0 - 1) (with_queue f s (channel_of cs p)))) ≡ length cs) [
  | true ↦ refl
  | false ↦ length-set cs _ _
]

pub length-with_case : (f : Change) (cs : List ChannelLists) (c : Case) → length (with_case f cs c) ≡ length cs
length-with_case f cs (Send p v) = length-with_line f side.Send p cs
length-with_case f cs (Recv p) = length-with_line f side.Recv p cs

-- the case whose turn it is, and those behind it
next-drop : (cases : List Case) (i : ℕ) (d : Case) → i < length cases → drop i cases ≡ get_or cases i d ∷ drop (i + 1) cases
next-drop cases i d inside = rw (add-one) (drop-cons cases i d inside)

pub with_cases-next : (f : ℕ → Change) (i : ℕ) (cs : List ChannelLists) (cases : List Case) (d : Case) → i < length cases
    → with_cases f (i + 1) (with_case (f i) cs (get_or cases i d)) (drop (i + 1) cases) ≡ with_cases f i cs (drop i cases)
with_cases-next f i cs cases d inside = sym (ap (with_cases f i cs) (next-drop cases i d inside))

pub made-next : (n i : ℕ) (cases : List Case) (d : Case) → i < length cases → AllMade n (drop i cases)
    → ((port_of (get_or cases i d)).0 ≤ n) × AllMade n (drop (i + 1) cases)
made-next n i cases d inside made = subst (AllMade n) (next-drop cases i d inside) made

pub joins-next : (pid : Pid) (ticket i : ℕ) (cs : List ChannelLists) (cases : List Case) (d : Case) → i < length cases
    → CanJoin pid ticket i cs (drop i cases)
    → CaseFits cs (get_or cases i d) × CanJoin pid ticket (i + 1) (with_case (joined (waiter_at pid ticket i)) cs (get_or cases i d)) (drop (i + 1) cases)
joins-next pid ticket i cs cases d inside can = subst (CanJoin pid ticket i cs) (next-drop cases i d inside) can

pub length-with_cases : (f : ℕ → Change) (i : ℕ) (cs : List ChannelLists) (cases : List Case) → length (with_cases f i cs cases) ≡ length cs
length-with_cases f i cs [] = refl
length-with_cases f i cs (c ∷ cases) = length-with_cases f (i + 1) (with_case (f i) cs c) cases ∙ length-with_case (f i) cs c

pub lists-with_queue : (f : Change) (s : Side) (c : ChannelLists) → lists_of (with_queue f s c) ≡ lists_of c
lists-with_queue f side.Send c = refl
lists-with_queue f side.Recv c = refl

pub get_or-map : {A B : Type 0} (f : A → B) (xs : List A) (i : ℕ) (d : A) → get_or (map f xs) i (f d) ≡ f (get_or xs i d)
get_or-map f [] i d = refl
get_or-map f (x ∷ xs) zero d = refl
get_or-map f (x ∷ xs) (suc i) d = get_or-map f xs i d

lists-with_line : (f : Change) (s : Side) (p : Port) (cs : List ChannelLists) → map lists_of (with_line f s p cs) ≡ map lists_of cs
lists-with_line f s p cs = elim (p.0 == 0) as (λ b. map lists_of (cond b cs (set cs (p.0 - 1) (with_queue f s (channel_of cs p)))) ≡ map lists_of cs) [
  | true ↦ refl
  | false ↦
      map-set lists_of cs (p.0 - 1) (with_queue f s (channel_of cs p))
      ∙ ap (set (map lists_of cs) (p.0 - 1)) (lists-with_queue f s (channel_of cs p) ∙ sym (get_or-map lists_of cs (p.0 - 1) no_channel))
      ∙ set-get_or (map lists_of cs) (p.0 - 1) (lists_of no_channel)
]

lists-with_case : (f : Change) (cs : List ChannelLists) (c : Case) → map lists_of (with_case f cs c) ≡ map lists_of cs
lists-with_case f cs (Send p v) = lists-with_line f side.Send p cs
lists-with_case f cs (Recv p) = lists-with_line f side.Recv p cs

pub lists-with_cases : (f : ℕ → Change) (i : ℕ) (cs : List ChannelLists) (cases : List Case) → map lists_of (with_cases f i cs cases) ≡ map lists_of cs
lists-with_cases f i cs [] = refl
lists-with_cases f i cs (c ∷ cases) = lists-with_cases f (i + 1) (with_case (f i) cs c) cases ∙ lists-with_case (f i) cs c

other : (q p : ℕ) → (q == p) ≡ false → (q ≡ 0 → ⊥) → 0 < p → p - 1 ≢ q - 1
other q p e n positive = λ same. let ne = eqb-false q p e in ne (omega arith)

pub channel_other : (f : Change) (s : Side) (q p : Port) (cs : List ChannelLists) → (q.0 == p.0) ≡ false → 0 < p.0
    → channel_of (with_line f s q cs) p ≡ channel_of cs p
channel_other f s q p cs e positive =
    elim (cases_eq q.0 0) [
      | inl z ↦ rw (eq-eqb q.0 0 z) refl
      | inr n ↦ rw (ne_eqb q.0 0 n) (get_or-set_other cs (q.0 - 1) (p.0 - 1) _ no_channel (other q.0 p.0 e n positive))
    ]

pub channel_same : (f : Change) (s : Side) (q p : Port) (cs : List ChannelLists) → (q.0 == p.0) ≡ true → 0 < p.0 → p.0 ≤ length cs
    → channel_of (with_line f s q cs) p ≡ with_queue f s (channel_of cs p)
channel_same f s q p cs e positive within =
    let same : q.0 ≡ p.0 = eqb-true q.0 p.0 e in
    rw (same, ne_eqb p.0 0 (λ z. omega arith)) (get_or-set_same cs (p.0 - 1) (with_queue f s (channel_of cs p)) no_channel (omega arith))

abbrev pub with_if : Bool → Change → Buffer Waiter → Buffer Waiter
with_if true f q = f q
with_if false f q = q

senders_line : (f : Change) (b : Bool) (q p : Port) (cs : List ChannelLists) → (q.0 == p.0) ≡ b → 0 < p.0 → p.0 ≤ length cs
    → (channel_of (with_line f side.Send q cs) p).senders ≡ with_if b f (channel_of cs p).senders
senders_line f true q p cs e positive within = rw (channel_same f side.Send q p cs e positive within) refl
senders_line f false q p cs e positive within = rw (channel_other f side.Send q p cs e positive) refl

receivers_line : (f : Change) (b : Bool) (q p : Port) (cs : List ChannelLists) → (q.0 == p.0) ≡ b → 0 < p.0 → p.0 ≤ length cs
    → (channel_of (with_line f side.Recv q cs) p).receivers ≡ with_if b f (channel_of cs p).receivers
receivers_line f true q p cs e positive within = rw (channel_same f side.Recv q p cs e positive within) refl
receivers_line f false q p cs e positive within = rw (channel_other f side.Recv q p cs e positive) refl

senders_stay : (f : Change) (b : Bool) (q p : Port) (cs : List ChannelLists) → (q.0 == p.0) ≡ b → 0 < p.0 → p.0 ≤ length cs
    → (channel_of (with_line f side.Recv q cs) p).senders ≡ (channel_of cs p).senders
senders_stay f true q p cs e positive within = rw (channel_same f side.Recv q p cs e positive within) refl
senders_stay f false q p cs e positive within = rw (channel_other f side.Recv q p cs e positive) refl

receivers_stay : (f : Change) (b : Bool) (q p : Port) (cs : List ChannelLists) → (q.0 == p.0) ≡ b → 0 < p.0 → p.0 ≤ length cs
    → (channel_of (with_line f side.Send q cs) p).receivers ≡ (channel_of cs p).receivers
receivers_stay f true q p cs e positive within = rw (channel_same f side.Send q p cs e positive within) refl
receivers_stay f false q p cs e positive within = rw (channel_other f side.Send q p cs e positive) refl

-- a change at a case, seen at the queue of one side of a port
pub queue_with_case : (f : Change) (cs : List ChannelLists) (c : Case) (s : Side) (p : Port) → 0 < p.0 → p.0 ≤ length cs
    → queue_of s (channel_of (with_case f cs c) p) ≡ with_if (passes p s c) f (queue_of s (channel_of cs p))
queue_with_case f cs (Send q v) side.Send p positive within = senders_line f (q.0 == p.0) q p cs refl positive within
queue_with_case f cs (Recv q) side.Send p positive within = senders_stay f (q.0 == p.0) q p cs refl positive within
queue_with_case f cs (Send q v) side.Recv p positive within = receivers_stay f (q.0 == p.0) q p cs refl positive within
queue_with_case f cs (Recv q) side.Recv p positive within = receivers_line f (q.0 == p.0) q p cs refl positive within

-- the changes of those cases that pass
abbrev pub queue_after : (ℕ → Change) → (Case → Bool) → ℕ → Buffer Waiter → List Case → Buffer Waiter
queue_after f test i q [] = q
queue_after f test i q (c ∷ cases) = queue_after f test (i + 1) (with_if (test c) (f i) q) cases

pub queue_with_cases : (f : ℕ → Change) (i : ℕ) (cs : List ChannelLists) (cases : List Case) (s : Side) (p : Port) → 0 < p.0 → p.0 ≤ length cs
    → queue_of s (channel_of (with_cases f i cs cases) p) ≡ queue_after f (passes p s) i (queue_of s (channel_of cs p)) cases
queue_with_cases f i cs [] s p positive within = refl
queue_with_cases f i cs (c ∷ cases) s p positive within =
    queue_with_cases f (i + 1) (with_case (f i) cs c) cases s p positive (rw (length-with_case (f i) cs c) within)
    ∙ ap (λ q. queue_after f (passes p s) (i + 1) q cases) (queue_with_case (f i) cs c s p positive within)
