-- What a channel's buffer says of it: which tests of the rules read, and what each thing that a step does to it leaves.
use Rattle.hub_laws.proofs.Prelude.{◌≡◌, Bool, true, false, List, [], ◌∷◌, ◌++◌, refl, ap, ◌∙◌, sym, None, ℕ, zero, suc, ◌+◌, ◌≤◌, ◌-◌, ◌==◌, cond}
use Rattle.hub_laws.proofs.Prelude.{length, arith, add-one, map, nat_lt, drop, length-drop, length-map, slice_get, option_map, Port, Value, Case, Channel}
use Rattle.hub_laws.proofs.Prelude.{Send, Recv, buffer_of, after_send, after_receive, shut, reopened, next_value, with_sent, nat_le, not}
use Rattle.hub_laws.proofs.Deeds.{at}
use Rattle.hub_chapters.specs.Alike.{afresh}

-- two channels are alike
abbrev pub Like : Channel → Channel → Type 0
Like c d = afresh c ≡ afresh d

pub cap-like : (c d : Channel) → Like c d → c.cap ≡ d.cap
cap-like c d l = ap (λ (x : Channel). x.cap) l

pub closed-like : (c d : Channel) → Like c d → c.closed ≡ d.closed
closed-like c d l = ap (λ (x : Channel). x.closed) l

pub buffer-like : (c d : Channel) → Like c d → buffer_of c ≡ buffer_of d
buffer-like c d l = ap (λ (x : Channel). x.sent) l

-- how many values it holds
pub length-like : (c d : Channel) → Like c d → length c.sent - c.received ≡ length d.sent - d.received
length-like c d l = sym (length-drop c.received c.sent) ∙ ap length (buffer-like c d l) ∙ length-drop d.received d.sent

-- the oldest of them
first_dropped : (n : ℕ) (xs : List Value) → slice_get xs n ≡ slice_get (drop n xs) 0
first_dropped zero xs = refl
first_dropped (suc n) [] = refl
first_dropped (suc n) (x ∷ xs) = first_dropped n xs

pub next-like : (c d : Channel) → Like c d → next_value c ≡ next_value d
next-like c d l = first_dropped c.received c.sent ∙ ap (λ (xs : List Value). slice_get xs 0) (buffer-like c d l) ∙ sym (first_dropped d.received d.sent)

pub room-like : (c d : Channel) → Like c d → nat_lt (length c.sent - c.received) c.cap ≡ nat_lt (length d.sent - d.received) d.cap
room-like c d l = ap (λ n. nat_lt n c.cap) (length-like c d l) ∙ ap (λ n. nat_lt (length d.sent - d.received) n) (cap-like c d l)

some_left : (n m : ℕ) → nat_lt n m ≡ nat_lt 0 (m - n)
some_left n m = grind arith

pub some-like : (c d : Channel) → Like c d → nat_lt c.received (length c.sent) ≡ nat_lt d.received (length d.sent)
some-like c d l = some_left c.received (length c.sent) ∙ ap (λ n. nat_lt 0 n) (length-like c d l) ∙ sym (some_left d.received (length d.sent))

drained_test : (n m : ℕ) → nat_le m n ≡ not (nat_lt 0 (m - n))
drained_test n m = grind arith

pub drained-like : (c d : Channel) → Like c d → nat_le (length c.sent) c.received ≡ nat_le (length d.sent) d.received
drained-like c d l =
    drained_test c.received (length c.sent) ∙ ap (λ n. not (nat_lt 0 n)) (length-like c d l) ∙ sym (drained_test d.received (length d.sent))

-- after a reopen
pub reopened-like : (cap : ℕ) (c d : Channel) → Like c d → Like (reopened cap c) (reopened cap d)
reopened-like cap c d l = ap (λ (x : Channel). record { cap = cap; closed = false; sent = x.sent; received = 0 }) l

-- after a receive
drop_one : (n : ℕ) (xs : List Value) → drop (suc n) xs ≡ drop 1 (drop n xs)
drop_one zero [] = refl
drop_one zero (x ∷ xs) = refl
drop_one (suc n) [] = refl
drop_one (suc n) (x ∷ xs) = drop_one n xs

drop_more : (n : ℕ) (xs : List Value) → drop (n + 1) xs ≡ drop 1 (drop n xs)
drop_more n xs = ap (λ m. drop m xs) (add-one n) ∙ drop_one n xs

pub received-afresh : (c : Channel) → afresh (after_receive c) ≡ record { cap = c.cap; closed = c.closed; sent = drop 1 (buffer_of c); received = 0 }
received-afresh c = ap (λ (xs : List Value). record { cap = c.cap; closed = c.closed; sent = xs; received = 0 }) (drop_more c.received c.sent)

pub received-like : (c d : Channel) → Like c d → Like (after_receive c) (after_receive d)
received-like c d l =
    received-afresh c
    ∙ ap (λ (x : Channel). record { cap = x.cap; closed = x.closed; sent = drop 1 x.sent; received = 0 }) l
    ∙ sym (received-afresh d)

-- after a send
drop_within : (n : ℕ) (xs ys : List Value) → n ≤ length xs → drop n (xs ++ ys) ≡ drop n xs ++ ys
drop_within zero xs ys h = refl
drop_within (suc n) [] ys h = absurd (omega arith)
drop_within (suc n) (x ∷ xs) ys h = drop_within n xs ys (omega arith)

pub sent-afresh : (v : Value) (c : Channel) → c.received ≤ length c.sent →
    afresh (after_send v c) ≡ record { cap = c.cap; closed = c.closed; sent = buffer_of c ++ v ∷ []; received = 0 }
sent-afresh v c h = ap (λ (xs : List Value). record { cap = c.cap; closed = c.closed; sent = xs; received = 0 }) (drop_within c.received c.sent (v ∷ []) h)

pub sent-like : (v : Value) (c d : Channel) → c.received ≤ length c.sent → d.received ≤ length d.sent → Like c d → Like (after_send v c) (after_send v d)
sent-like v c d h k l =
    sent-afresh v c h
    ∙ ap (λ (x : Channel). record { cap = x.cap; closed = x.closed; sent = x.sent ++ v ∷ []; received = 0 }) l
    ∙ sym (sent-afresh v d k)

pub with_sent-like : (k : Case) (c d : Channel) → c.received ≤ length c.sent → d.received ≤ length d.sent → Like c d → Like (with_sent k c) (with_sent k d)
with_sent-like (Send p v) c d h g l = sent-like v c d h g l
with_sent-like (Recv p) c d h g l = l

-- after a close
pub shut-like : (c d : Channel) → Like c d → Like (shut c) (shut d)
shut-like c d l = ap (λ (x : Channel). record { cap = x.cap; closed = true; sent = x.sent; received = 0 }) l

-- in lists
get_afresh : (cs : List Channel) (i : ℕ) → slice_get (map afresh cs) i ≡ option_map afresh (slice_get cs i)
get_afresh [] i = refl
get_afresh (c ∷ cs) zero = refl
get_afresh (c ∷ cs) (suc i) = get_afresh cs i

pub at-afresh : (cs : List Channel) (p : Port) → at (map afresh cs) p ≡ option_map afresh (at cs p)
at-afresh cs p = by (p.0 == 0)
  where
    by : (b : Bool) → cond b None (slice_get (map afresh cs) (p.0 - 1)) ≡ option_map afresh (cond b None (slice_get cs (p.0 - 1)))
    by true = refl
    by false = get_afresh cs (p.0 - 1)

pub at-like : (cs ds : List Channel) (p : Port) → map afresh cs ≡ map afresh ds → option_map afresh (at cs p) ≡ option_map afresh (at ds p)
at-like cs ds p l = sym (at-afresh cs p) ∙ ap (λ xs. at xs p) l ∙ at-afresh ds p

pub count-like : (cs ds : List Channel) → map afresh cs ≡ map afresh ds → length cs ≡ length ds
count-like cs ds l = sym (length-map cs afresh) ∙ ap length l ∙ length-map ds afresh
