-- The ports of a checkpoint: each is made, filled, and closed where it was, while nobody has gone and no call is open.
use Rattle.hub_laws.proofs.Prelude.{◌≡◌, Bool, true, false, List, [], ◌∷◌, ◌++◌, refl, ap, ◌∙◌, Option, Some, None, ℕ, ◌+◌, ◌-◌, ◌≤◌, ◌<◌, cond}
use Rattle.hub_laws.proofs.Prelude.{length, arith, map, nat_lt}
use Rattle.hub_laws.proofs.Prelude.{append_assoc, append-nil, length-append, slice_set, AllByRecursion, lt-ltb}
use Rattle.hub_laws.proofs.Prelude.{Send, Make, Close, Closed, Head, Port, Value, Channel, State, Firing, MOST_CAP, MOST_PORTS, Edition}
use Rattle.hub_laws.proofs.Prelude.{refusal, fault_of, close_fault, after_send, shut, can_proceed, buffer_of, proceeds, send_meets, closes}
use Rattle.hub_base.specs.Lines.{by, call}
use Rattle.hub_base.specs.Head.{most_cases}
use Rattle.hub_base.specs.State.{with_channel}
use Rattle.hub_base.specs.declared.head.Edition.TheVariants.{One, Two, Three}
use Rattle.hub_base.specs.declared.fault.Fault.TheVariants as fault
use Rattle.hub_laws.proofs.Deeds.{at, fresh}
use Rattle.hub_laws.proofs.Does.{next_port}
use Rattle.hub_chapters.specs.Alike.{afresh}
use Rattle.hub_chapters.specs.Checkpoint.{send_again, port_again, ports_again}
use Rattle.hub_chapters.proofs.Leading.{Leads, leads-none, leads-more, leads-one, calls-one}

-- a hub with these channels, where nobody has gone and no call is open
abbrev pub quiet : Head → List Channel → State
quiet h cs = record { head = h; gone = []; parked = []; channels = cs }

-- port n, by its number
abbrev port : ℕ → Port
port n = record { 0 = n }

free : (h : Head) (cs : List Channel) → 1 ≤ h.procs → refusal (quiet h cs) (record { 0 = 0 }) ≡ None
free h cs some = rw (lt-ltb 0 h.procs (omega arith)) refl

-- A make

make_fine : (h : Head) (cs : List Channel) (cap : ℕ) → cap ≤ MOST_CAP → length cs < MOST_PORTS → fault_of (quiet h cs) (Make cap) ≡ None
make_fine h cs cap few room = grind arith

make_leads : (h : Head) (cs : List Channel) (cap : ℕ) → 1 ≤ h.procs → cap ≤ MOST_CAP → length cs < MOST_PORTS →
    Leads (quiet h cs) (by 0 (Make cap) ∷ []) (quiet h (cs ++ fresh cap ∷ []))
make_leads h cs cap some few room =
    leads-one (quiet h cs) (quiet h (cs ++ fresh cap ∷ [])) (by 0 (Make cap)) (free h cs some) (make_fine h cs cap few room) refl refl

-- the last channel

set_last : (cs : List Channel) (c d : Channel) → slice_set (cs ++ c ∷ []) (length cs) d ≡ cs ++ d ∷ []
set_last [] c d = refl
set_last (x ∷ cs) c d = ap (λ xs. x ∷ xs) (set_last cs c d)

write_last : (h : Head) (cs : List Channel) (c d : Channel) (n : ℕ) → n ≡ length cs + 1 →
    with_channel (quiet h (cs ++ c ∷ [])) (port n) d ≡ quiet h (cs ++ d ∷ [])
write_last h cs c d n is =
    let i : n - 1 ≡ length cs = omega arith in
    ap (λ k. quiet h (slice_set (cs ++ c ∷ []) k d)) i ∙ ap (λ xs. quiet h xs) (set_last cs c d)

-- A send into its buffer

few_cases : (edition : Edition) → nat_lt (most_cases edition) 1 ≡ false
few_cases One = refl
few_cases Two = refl
few_cases Three = refl

is_made : (cs : List Channel) (c : Channel) (n : ℕ) → n ≡ length cs + 1 → nat_lt (length (cs ++ c ∷ [])) n ≡ false
is_made cs c n is = let l = length-append cs (c ∷ []) in grind arith

send_fine : (h : Head) (cs : List Channel) (c : Channel) (n : ℕ) (v : Value) → n ≡ length cs + 1 →
    fault_of (quiet h (cs ++ c ∷ [])) (call (Send (port n) v ∷ []) false 0) ≡ None
send_fine h cs c n v is = rw (few_cases h.edition, is_made cs c n is) refl

send_goes : (h : Head) (cs : List Channel) (c : Channel) (n : ℕ) (v : Value) → n ≡ length cs + 1 → c.closed ≡ false → c.received ≡ 0 → length c.sent < c.cap →
    can_proceed (quiet h (cs ++ c ∷ [])) (Send (port n) v) ≡ true
send_goes h cs c n v is open_ none room =
    let e : at (cs ++ c ∷ []) (port n) ≡ Some c = (next_port cs c (port n) is).1 in
    let r : nat_lt (length c.sent - c.received) c.cap ≡ true = lt-ltb (length c.sent - c.received) c.cap (omega arith) in
    rw e (rw (open_, r) refl)

send_leads : (h : Head) (cs : List Channel) (c : Channel) (n : ℕ) (v : Value) → 1 ≤ h.procs → n ≡ length cs + 1 → c.closed ≡ false → c.received ≡ 0 →
    length c.sent < c.cap → Leads (quiet h (cs ++ c ∷ [])) (send_again n v ∷ []) (quiet h (cs ++ after_send v c ∷ []))
send_leads h cs c n v some is live none room =
    let s : State = quiet h (cs ++ c ∷ []) in
    let one = calls-one s (record { 0 = 0 }) (Send (port n) v) c (send_goes h cs c n v is live none room) (next_port cs c (port n) is).1 in
    leads-one s (quiet h (cs ++ after_send v c ∷ [])) (send_again n v) (free h (cs ++ c ∷ []) some) (send_fine h cs c n v is)
    (ap (λ x. x.state) one
    ∙ ap (λ b.
    let refused : Firing = record { outcome = Closed; state = s; ended = [] } in
    (proceeds s (record { 0 = 0 }) 0 (Some (cond b refused (send_meets s (port n) (after_send v c) None)))).state) live
    ∙ write_last h cs c (after_send v c) n is)
    refl

fill_leads : (h : Head) (cs : List Channel) (cap : ℕ) (xs vs : List Value) (n : ℕ) → 1 ≤ h.procs → n ≡ length cs + 1 → length xs + length vs ≤ cap →
    Leads (quiet h (cs ++ record { cap = cap; closed = false; sent = xs; received = 0 } ∷ [])) (map (send_again n) vs)
    (quiet h (cs ++ record { cap = cap; closed = false; sent = xs ++ vs; received = 0 } ∷ []))
fill_leads h cs cap xs [] n some is room = rw append-nil (leads-none _)
fill_leads h cs cap xs (v ∷ vs) n some is room =
    let c : Channel = record { cap = cap; closed = false; sent = xs; received = 0 } in
    let l = length-append xs (v ∷ []) in
    let first = send_leads h cs c n v some is refl refl (omega arith) in
    let rest = fill_leads h cs cap (xs ++ v ∷ []) vs n some is (omega arith) in
    let e : (xs ++ v ∷ []) ++ vs ≡ xs ++ v ∷ vs = append_assoc xs (v ∷ []) vs in
    let last = rw e at rest in
    leads-more (quiet h (cs ++ c ∷ [])) (quiet h (cs ++ after_send v c ∷ []))
    (quiet h (cs ++ record { cap = cap; closed = false; sent = xs ++ v ∷ vs; received = 0 } ∷ []))
    (send_again n v ∷ []) (map (send_again n) vs) first last

-- A close

close_leads : (h : Head) (cs : List Channel) (c : Channel) (n : ℕ) → 1 ≤ h.procs → n ≡ length cs + 1 → c.closed ≡ false →
    Leads (quiet h (cs ++ c ∷ [])) (by 0 (Close (port n)) ∷ []) (quiet h (cs ++ shut c ∷ []))
close_leads h cs c n some is live =
    let s : State = quiet h (cs ++ c ∷ []) in
    let e : at (cs ++ c ∷ []) (port n) ≡ Some c = (next_port cs c (port n) is).1 in
    leads-one s (quiet h (cs ++ shut c ∷ [])) (by 0 (Close (port n))) (free h (cs ++ c ∷ []) some)
    (ap (λ b. cond b (Some fault.NoPort) (close_fault (at (cs ++ c ∷ []) (port n)))) (is_made cs c n is)
    ∙ ap (λ (o : Option Channel). close_fault o) e
    ∙ ap (λ b. cond b (Some fault.AlreadyClosed) None) live)
    (ap (λ (o : Option Channel). (closes s (record { 0 = 0 }) (port n) o).state) e ∙ write_last h cs c (shut c) n is)
    refl

-- A port

port_leads : (h : Head) (cs : List Channel) (cap : ℕ) (b : Bool) (vs : List Value) (n : ℕ) → 1 ≤ h.procs → n ≡ length cs + 1 → cap ≤ MOST_CAP →
    length cs < MOST_PORTS → length vs ≤ cap →
    Leads (quiet h cs) (by 0 (Make cap) ∷ map (send_again n) vs ++ (cond b (by 0 (Close (port n)) ∷ []) []))
    (quiet h (cs ++ record { cap = cap; closed = b; sent = vs; received = 0 } ∷ []))
port_leads h cs most b vs n some is few room fits =
    let filled : State = quiet h (cs ++ record { cap = most; closed = false; sent = vs; received = 0 } ∷ []) in
    let made = make_leads h cs most some few room in
    let filled_so = fill_leads h cs most [] vs n some is (omega arith) in
    leads-more (quiet h cs) (quiet h (cs ++ fresh most ∷ [])) (quiet h (cs ++ record { cap = most; closed = b; sent = vs; received = 0 } ∷ []))
    (by 0 (Make most) ∷ []) (map (send_again n) vs ++ (cond b (by 0 (Close (port n)) ∷ []) [])) made
    (leads-more (quiet h (cs ++ fresh most ∷ [])) filled (quiet h (cs ++ record { cap = most; closed = b; sent = vs; received = 0 } ∷ []))
    (map (send_again n) vs) (cond b (by 0 (Close (port n)) ∷ []) []) filled_so (ends b))
  where
    ends : (b : Bool) → Leads (quiet h (cs ++ record { cap = most; closed = false; sent = vs; received = 0 } ∷ [])) (cond b (by 0 (Close (port n)) ∷ []) [])
        (quiet h (cs ++ record { cap = most; closed = b; sent = vs; received = 0 } ∷ []))
    ends true = close_leads h cs (record { cap = most; closed = false; sent = vs; received = 0 }) n some is refl
    ends false = leads-none (quiet h (cs ++ record { cap = most; closed = false; sent = vs; received = 0 } ∷ []))

-- All ports

-- a channel within the limits
pub record Within (c : Channel) : Type 0 where
  pub few : c.cap ≤ MOST_CAP
  pub fits : length (buffer_of c) ≤ c.cap

pub ports-lead : (h : Head) (cs ds : List Channel) (n : ℕ) → (1 ≤ length ds → 1 ≤ h.procs) → n ≡ length cs + 1 → length cs + length ds ≤ MOST_PORTS →
    AllByRecursion Within ds → Leads (quiet h cs) (ports_again n ds) (quiet h (cs ++ map afresh ds))
ports-lead h cs [] n some is room all = rw append-nil (leads-none (quiet h cs))
ports-lead h cs (d ∷ ds) n some is room all =
    let there : 1 ≤ h.procs = some (omega arith) in
    let l = length-append cs (afresh d ∷ []) in
    let first = port_leads h cs d.cap d.closed (buffer_of d) n there is all.0.few (omega arith) all.0.fits in
    let rest = ports-lead h (cs ++ afresh d ∷ []) ds (n + 1) (λ _. there) (omega arith) (omega arith) all.1 in
    let e : (cs ++ afresh d ∷ []) ++ map afresh ds ≡ cs ++ afresh d ∷ map afresh ds = append_assoc cs (afresh d ∷ []) (map afresh ds) in
    let last = rw e at rest in
    leads-more (quiet h cs) (quiet h (cs ++ afresh d ∷ [])) (quiet h (cs ++ afresh d ∷ map afresh ds)) (port_again n d) (ports_again (n + 1) ds) first last
