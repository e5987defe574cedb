-- The open calls of a checkpoint: each is made again, in order of arrival, and waits.
use Rattle.hub_laws.proofs.Prelude.{◌≡◌, Bool, true, false, List, [], ◌∷◌, ◌++◌, refl, ap, ◌∙◌, sym, subst, Option, Some, None, ℕ, ◌-◌, ◌==◌, ◌||◌}
use Rattle.hub_laws.proofs.Prelude.{◌&&◌, not, length, arith, map}
use Rattle.hub_laws.proofs.Prelude.{append_assoc, append-nil, list_any, list_any-append, nat_lt, lt-ltb, or_cases, or_left, or_right, or_from, inl}
use Rattle.hub_laws.proofs.Prelude.{inr, false_from_ne_true, AllByRecursion, is_some, option_map_or}
use Rattle.hub_laws.proofs.Prelude.{Case, Send, Recv, Port, Channel, State, OpenCall, has_gone, channel_at}
use Rattle.hub_laws.proofs.Prelude.{can_proceed, send_can, recv_can, first_with, is_recv_on, is_send_on, all_wait, IsSound, PortSound, Apart, Alone}
use Rattle.hub_laws.proofs.Prelude.{is_among, some_call, CallFits}
use Rattle.std.specs.List.{list_all, range_with_len}
use Rattle.hub_base.specs.Head.{most_cases}
use Rattle.hub_laws.proofs.Calls.{differ-sym, first-some, same_number}
use Rattle.hub_chapters.specs.Checkpoint.{call_again}
use Rattle.hub_chapters.proofs.Leading.{Leads, leads-none, leads-more, leads-one, calls-none}

-- What is known of a call in the midst of the open calls

apart_mid : (xs ys : List OpenCall) (y : OpenCall) → Apart (xs ++ y ∷ ys) → is_among y.pid.0 xs ≡ false
apart_mid [] ys y a = refl
apart_mid (x ∷ xs) ys y a = grind (arith, list_any-append, differ-sym, apart_mid xs ys y a.1)

all_mid : (P : OpenCall → Type 0) (xs ys : List OpenCall) (y : OpenCall) → AllByRecursion P (xs ++ y ∷ ys) → P y
all_mid P [] ys y a = a.0
all_mid P (x ∷ xs) ys y a = all_mid P xs ys y a.1

any_mid : (test : OpenCall → Bool) (xs ys : List OpenCall) (y : OpenCall) → test y ≡ true → list_any test (xs ++ y ∷ ys) ≡ true
any_mid test [] ys y e = or_left (test y) (list_any test ys) e
any_mid test (x ∷ xs) ys y e = or_right (test x) (list_any test (xs ++ y ∷ ys)) (any_mid test xs ys y e)

any_front : (test : OpenCall → Bool) (xs ys : List OpenCall) → list_any test xs ≡ true → list_any test (xs ++ ys) ≡ true
any_front test xs ys e = list_any-append test xs ys ∙ or_left (list_any test xs) (list_any test ys) e

-- those before it could not meet it
abbrev NeverMeets : Port → (Case → Bool) → (Case → Bool) → Type 0
NeverMeets p theirs mine = (x : OpenCall) (xs : List OpenCall) → Alone p (x ∷ xs) → list_any theirs x.cases ≡ true → some_call mine xs ≡ false

alone : (p : Port) (theirs mine : Case → Bool) → NeverMeets p theirs mine → (xs ys : List OpenCall) (y : OpenCall) → Alone p (xs ++ y ∷ ys) →
    list_any mine y.cases ≡ true → some_call theirs xs ≡ false
alone p theirs mine apart [] ys y a e = refl
alone p theirs mine apart (x ∷ xs) ys y a e =
    let later = any_mid (λ c. list_any mine c.cases) xs ys y e in
    or_from (list_any theirs x.cases) (some_call theirs xs)
    (false_from_ne_true (list_any theirs x.cases) (λ r. let none = apart x (xs ++ y ∷ ys) a r in cc)) (alone p theirs mine apart xs ys y a.2 e)

-- None of its cases can proceed

-- a state with these calls open
abbrev pub with_calls : State → List OpenCall → State
with_calls s calls = record s { parked = calls }

-- what is known of a port where the calls that wait are xs, then y, then ys
abbrev Here : State → List OpenCall → OpenCall → List OpenCall → Type 0
Here s xs y ys = (p : Port) (c : Channel) → channel_at s p ≡ Some c → PortSound p c (xs ++ y ∷ ys)

-- a call waits on a port that is open then, and none that waits before it meets it
waits : (p : Port) (theirs mine : Case → Bool) → NeverMeets p theirs mine → (xs ys : List OpenCall) (y : OpenCall) (c : Channel) → Alone p (xs ++ y ∷ ys) →
    (c.closed ≡ true → some_call mine (xs ++ y ∷ ys) ≡ false) → list_any mine y.cases ≡ true →
    (some_call mine (xs ++ y ∷ ys) ≡ true) × (c.closed ≡ false) × (is_some (first_with theirs xs) ≡ false)
waits p theirs mine apart xs ys y c a ended e =
    let all = any_mid (λ x. list_any mine x.cases) xs ys y e in
    (all, false_from_ne_true c.closed (λ h. let none = ended h in cc), first-some theirs xs ∙ alone p theirs mine apart xs ys y a e)

send_stuck : (s : State) (xs ys : List OpenCall) (y : OpenCall) (p : Port) (c : Channel) → PortSound p c (xs ++ y ∷ ys) →
    list_any (is_send_on p) y.cases ≡ true → send_can (with_calls s xs) p c ≡ false
send_stuck s xs ys y p c f e =
    let w = waits p (is_recv_on p) (is_send_on p) (λ x zs a. a.0) xs ys y c f.alone (λ h. (f.ended h).1) e in
    let size = f.senders w.0 in
    let full : nat_lt (length c.sent - c.received) c.cap ≡ false = grind arith in
    rw (w.1, w.2, full) refl

recv_stuck : (s : State) (xs ys : List OpenCall) (y : OpenCall) (p : Port) (c : Channel) → PortSound p c (xs ++ y ∷ ys) →
    list_any (is_recv_on p) y.cases ≡ true → recv_can (with_calls s xs) p c ≡ false
recv_stuck s xs ys y p c f e =
    let w = waits p (is_send_on p) (is_recv_on p) (λ x zs a. a.1) xs ys y c f.alone (λ h. (f.ended h).0) e in
    let size = f.receivers w.0 in
    let empty : nat_lt c.received (length c.sent) ≡ false = grind arith in
    rw (w.1, w.2, empty) refl

or_false : (f : Channel → Bool) (o : Option Channel) → ((c : Channel) → o ≡ Some c → f c ≡ false) → option_map_or f o false ≡ false
or_false f None h = refl
or_false f (Some c) h = h c refl

-- one of its cases
case_stuck : (s : State) (xs ys : List OpenCall) (y : OpenCall) → Here s xs y ys → (k : Case) → ((t : Case → Bool) → t k ≡ true → list_any t y.cases ≡ true) →
    can_proceed (with_calls s xs) k ≡ false
case_stuck s xs ys y here (Send p v) one =
    or_false (send_can (with_calls s xs) p) (channel_at s p) (λ c e. send_stuck s xs ys y p c (here p c e) (one (is_send_on p) (same_number p.0)))
case_stuck s xs ys y here (Recv p) one =
    or_false (recv_can (with_calls s xs) p) (channel_at s p) (λ c e. recv_stuck s xs ys y p c (here p c e) (one (is_recv_on p) (same_number p.0)))

none_of : (f : Case → Bool) (all cs : List Case) → ((k : Case) → ((t : Case → Bool) → t k ≡ true → list_any t all ≡ true) → f k ≡ false) →
    ((t : Case → Bool) → list_any t cs ≡ true → list_any t all ≡ true) → list_any f cs ≡ false
none_of f all [] each part = refl
none_of f all (k ∷ ks) each part =
    or_from (f k) (list_any f ks) (each k (λ t e. part t (or_left (t k) (list_any t ks) e)))
    (none_of f all ks each (λ t e. part t (or_right (t k) (list_any t ks) e)))

stuck : (s : State) (xs ys : List OpenCall) (y : OpenCall) → Here s xs y ys → list_any (can_proceed (with_calls s xs)) y.cases ≡ false
stuck s xs ys y here = none_of (can_proceed (with_calls s xs)) y.cases y.cases (case_stuck s xs ys y here) (λ t e. e)

-- Not everyone waits

and_false : (a b : Bool) → (a && b) ≡ false → a ≡ true → b ≡ false
and_false a b h e = grind arith

all_more : (f g : ℕ → Bool) (qs : List ℕ) → ((q : ℕ) → f q ≡ true → g q ≡ true) → list_all f qs ≡ true → list_all g qs ≡ true
all_more f g [] h e = refl
all_more f g (q ∷ qs) h e = grind (arith, all_more f g qs h)

awake_part : (s : State) (xs ys : List OpenCall) (y : OpenCall) → all_wait (with_calls s (xs ++ y ∷ ys)) ≡ false →
    all_wait (with_calls s (xs ++ y ∷ [])) ≡ false
awake_part s xs ys y h =
    let some : not (length (xs ++ y ∷ ys) == 0) ≡ true = longer xs ys in
    let not_all =
    and_false (not (length (xs ++ y ∷ ys) == 0)) (list_all (λ q. has_gone s q || is_among q (xs ++ y ∷ ys)) (range_with_len 0 s.head.procs)) h some in
    let e : (xs ++ y ∷ []) ++ ys ≡ xs ++ y ∷ ys = append_assoc xs (y ∷ []) ys in
    false_from_ne_true (all_wait (with_calls s (xs ++ y ∷ []))) (λ w.
    let all = and_true (not (length (xs ++ y ∷ []) == 0)) (list_all (λ q. has_gone s q || is_among q (xs ++ y ∷ [])) (range_with_len 0 s.head.procs)) w in
    let more = all_more (λ q. has_gone s q || is_among q (xs ++ y ∷ [])) (λ q. has_gone s q || is_among q (xs ++ y ∷ ys)) (range_with_len 0 s.head.procs)
    (λ q t. elim (or_cases (has_gone s q) (is_among q (xs ++ y ∷ [])) t) [
      | inl l ↦ or_left (has_gone s q) (is_among q (xs ++ y ∷ ys)) l
      | inr r ↦ or_right (has_gone s q) (is_among q (xs ++ y ∷ ys)) (ap (is_among q) (sym e) ∙ any_front (λ c. c.pid.0 == q) (xs ++ y ∷ []) ys r)
    ]) all in
    cc)
  where
    longer : (xs ys : List OpenCall) → not (length (xs ++ y ∷ ys) == 0) ≡ true
    longer [] ys = grind arith
    longer (x ∷ xs) ys = grind arith

    and_true : (a b : Bool) → (a && b) ≡ true → b ≡ true
    and_true a b h = grind arith

-- One more waits

pub park_leads : (s : State) (xs ys : List OpenCall) (y : OpenCall) → IsSound (with_calls s (xs ++ y ∷ ys)) → all_wait (with_calls s (xs ++ y ∷ ys)) ≡ false →
    Leads (with_calls s xs) (call_again y ∷ []) (with_calls s (xs ++ y ∷ []))
park_leads s xs ys y sound awake =
    let there = sound.present y.pid.0 (any_mid (λ c. c.pid.0 == y.pid.0) xs ys y (same_number y.pid.0)) in
    let idle = apart_mid xs ys y sound.apart in
    let fits = all_mid (CallFits s.head.edition (length s.channels)) xs ys y sound.calls in
    let few : nat_lt (most_cases s.head.edition) (length y.cases) ≡ false = let f = fits.few in grind arith in
    leads-one (with_calls s xs) (with_calls s (xs ++ y ∷ [])) (call_again y) (rw (lt-ltb y.pid.0 s.head.procs there.0, there.1, idle) refl)
    (rw (few, fits.made) refl)
    (ap (λ x. x.state) (calls-none (with_calls s xs) y.pid y.cases (stuck s xs ys y sound.ports)))
    (awake_part s xs ys y awake)

pub parks-lead : (s : State) (xs ys : List OpenCall) → IsSound (with_calls s (xs ++ ys)) → all_wait (with_calls s (xs ++ ys)) ≡ false →
    Leads (with_calls s xs) (map call_again ys) (with_calls s (xs ++ ys))
parks-lead s xs [] sound awake = rw append-nil (leads-none (with_calls s xs))
parks-lead s xs (y ∷ ys) sound awake =
    let e : (xs ++ y ∷ []) ++ ys ≡ xs ++ y ∷ ys = append_assoc xs (y ∷ []) ys in
    let first = park_leads s xs ys y sound awake in
    let rest = parks-lead s (xs ++ y ∷ []) ys (subst (λ (cs : List OpenCall). IsSound (with_calls s cs)) (sym e) sound)
    (ap (λ (cs : List OpenCall). all_wait (with_calls s cs)) e ∙ awake) in
    let last = subst (λ (cs : List OpenCall). Leads (with_calls s (xs ++ y ∷ [])) (map call_again ys) (with_calls s cs)) e rest in
    leads-more (with_calls s xs) (with_calls s (xs ++ y ∷ [])) (with_calls s (xs ++ y ∷ ys)) (call_again y ∷ []) (map call_again ys) first last
