-- A port's lists and its channel, and what one write leaves of both.
use Rattle.std.proofs.Common.{◌≡◌, ℕ, zero, suc, ◌+◌, ◌-◌, ◌==◌, ◌≤◌, Bool, true, false, cond, List, [], ◌∷◌, ◌++◌}
use Rattle.std.proofs.Common.{length, map, drop, get_or, refl, ap, ◌∙◌, sym, Option, Some, None, arith, unwrap_or}
use Rattle.std.specs.Prelude.{slice_get, slice_set}
use Rattle.std.proofs.lemmas.List.{map-set, drop-append-le, drop-drop, drop_all, length_push}
use Rattle.std.proofs.lemmas.Option.{unwrap_or-slice_get, slice_get_within}
use Rattle.std.proofs.Math.ListN.{get_or-map}
use Rattle.std.proofs.Math.Seq.{map-set_same}
use Rattle.hub_base.specs.declared.value.Port.{Port}
use Rattle.hub_base.specs.declared.value.Value.{Value}
use Rattle.hub_base.specs.State.{State, Channel, channel_at, buffer_of}
use Rattle.hub_base.specs.Steps.{after_send, after_receive, next_value}
use Rattle.hub_parts.specs.Records.{PortLists}
use Rattle.hub_parts.specs.Lists.{port_at, pushed, popped}
use Rattle.hub_core.specs.declared.tally.Tally.{Tally}
use Rattle.hub_core.specs.Records.{MachineLists, tally_at, with_tally}
use Rattle.hub_core.specs.Follows.{lists_of, tally_of, Matches}

abbrev blank : Channel
blank = record { cap = 0; closed = false; sent = []; received = 0 }

some_else : {A : Type 0} (t : Bool) (o : Option A) (x : A) → cond t None o ≡ Some x → o ≡ Some x
some_else true o x e = cc
some_else false o x e = e

channel_get : (s : State) (p : Port) (c : Channel) → channel_at s p ≡ Some c → get_or s.channels (p.0 - 1) blank ≡ c
channel_get s p c e =
    sym (unwrap_or-slice_get s.channels (p.0 - 1) blank) ∙ ap (λ o. unwrap_or o blank) (some_else (p.0 == 0) (slice_get s.channels (p.0 - 1)) c e)

pub port-lists_of : (s : State) (m : MachineLists) (p : Port) (c : Channel) → Matches s m → channel_at s p ≡ Some c → port_at m.board p ≡ lists_of c
port-lists_of s m p c h e = rw h.ports (get_or-map lists_of s.channels (p.0 - 1) blank) ∙ ap lists_of (channel_get s p c e)

pub tally-tally_of : (s : State) (m : MachineLists) (p : Port) (c : Channel) → Matches s m → channel_at s p ≡ Some c → tally_at m.counts p ≡ tally_of c
tally-tally_of s m p c h e = rw h.counts (get_or-map tally_of s.channels (p.0 - 1) blank) ∙ ap tally_of (channel_get s p c e)

-- ---- writes
pub ports-set : (s : State) (m : MachineLists) (p : Port) (d : Channel) (q : PortLists) → Matches s m → q ≡ lists_of d
    → slice_set m.board.ports (p.0 - 1) q ≡ map lists_of (slice_set s.channels (p.0 - 1) d)
ports-set s m p d q h is = ap (λ ps. slice_set ps (p.0 - 1) q) h.ports ∙ ap (λ r. slice_set (map lists_of s.channels) (p.0 - 1) r) is
    ∙ sym (map-set lists_of s.channels (p.0 - 1) d)

pub ports-same : (s : State) (m : MachineLists) (p : Port) (c d : Channel) → Matches s m → channel_at s p ≡ Some c → lists_of d ≡ lists_of c
    → m.board.ports ≡ map lists_of (slice_set s.channels (p.0 - 1) d)
ports-same s m p c d h e same = h.ports ∙ sym (map-set_same lists_of s.channels (p.0 - 1) d blank (same ∙ ap lists_of (sym (channel_get s p c e))))

pub counts-set : (s : State) (m : MachineLists) (p : Port) (d : Channel) (t : Tally) → Matches s m → t ≡ tally_of d
    → with_tally m.counts p t ≡ map tally_of (slice_set s.channels (p.0 - 1) d)
counts-set s m p d t h is = ap (λ ts. slice_set ts (p.0 - 1) t) h.counts ∙ ap (λ r. slice_set (map tally_of s.channels) (p.0 - 1) r) is
    ∙ sym (map-set tally_of s.channels (p.0 - 1) d)

pub counts-same : (s : State) (m : MachineLists) (p : Port) (c d : Channel) → Matches s m → channel_at s p ≡ Some c → tally_of d ≡ tally_of c
    → m.counts ≡ map tally_of (slice_set s.channels (p.0 - 1) d)
counts-same s m p c d h e same = h.counts ∙ sym (map-set_same tally_of s.channels (p.0 - 1) d blank (same ∙ ap tally_of (sym (channel_get s p c e))))

-- ---- a channel's buffer
pub get_seam : {A : Type 0} (xs : List A) (x : A) → slice_get (xs ++ x ∷ []) (length xs) ≡ Some x
get_seam [] x = refl
get_seam (y ∷ ys) x = get_seam ys x

get_before : {A : Type 0} (xs : List A) (x v : A) (i : ℕ) → slice_get xs i ≡ Some v → slice_get (xs ++ x ∷ []) i ≡ Some v
get_before [] x v i e = cc
get_before (y ∷ ys) x v zero e = e
get_before (y ∷ ys) x v (suc i) e = get_before ys x v i e

pub get-drop : {A : Type 0} (n : ℕ) (xs : List A) → slice_get (drop n xs) 0 ≡ slice_get xs n
get-drop zero [] = refl
get-drop zero (x ∷ xs) = refl
get-drop (suc n) [] = refl
get-drop (suc n) (x ∷ xs) = get-drop n xs

get_nothing : {A : Type 0} (xs : List A) (i : ℕ) → slice_get xs i ≡ None → length xs ≤ i
get_nothing [] i e = omega arith
get_nothing (x ∷ xs) zero e = cc
get_nothing (x ∷ xs) (suc i) e = omega (arith, get_nothing xs i e)

-- the lists with this buffer
abbrev with_buffer : Channel → List Value → PortLists
with_buffer c xs = record { cap = c.cap; closed = c.closed; buffer = xs }

-- the oldest value in the buffer is the next to be received
pub first-next_value : (c : Channel) → slice_get (lists_of c).buffer 0 ≡ next_value c
first-next_value c = get-drop c.received c.sent

pub pushed-lists_of : (v : Value) (c : Channel) → c.received ≤ length c.sent → pushed v (lists_of c) ≡ lists_of (after_send v c)
pushed-lists_of v c h = ap (with_buffer c) (sym (drop-append-le c.received c.sent (v ∷ []) h))

pub popped-lists_of : (c : Channel) → popped (lists_of c) ≡ lists_of (after_receive c)
popped-lists_of c = ap (with_buffer c) (drop-drop 1 c.received c.sent)

-- nothing to receive: nothing leaves the buffer
pub popped-drained : (c : Channel) → next_value c ≡ None → c.received ≤ length c.sent → popped (lists_of c) ≡ lists_of c
popped-drained c e fits =
    let all : c.received ≡ length c.sent = omega (arith, get_nothing c.sent c.received e) in
    let none : buffer_of c ≡ [] = drop_all c.received c.sent (omega (arith, all)) in
    ap (with_buffer c) (ap (drop 1) none ∙ sym none)

-- a value goes through an empty buffer
pub through-lists_of : (v : Value) (c : Channel) → c.received ≡ length c.sent → lists_of (after_receive (after_send v c)) ≡ lists_of c
through-lists_of v c h =
    ap (with_buffer c) (rw h (drop_all _ (c.sent ++ v ∷ []) (omega (arith, length_push c.sent v)) ∙ sym (drop_all _ c.sent (omega arith))))

pub next-through : (v : Value) (c : Channel) → c.received ≡ length c.sent → next_value (after_send v c) ≡ Some v
next-through v c h = rw h (get_seam c.sent v)

-- the oldest value leaves, and a new one comes in behind the others
pub shifted-lists_of : (u : Value) (c : Channel) (v : Value) → next_value c ≡ Some v
    → pushed u (popped (lists_of c)) ≡ lists_of (after_receive (after_send u c))
shifted-lists_of u c v e =
    let some : c.received + 1 ≤ length c.sent = omega (arith, slice_get_within c.sent c.received v e) in
    ap (pushed u) (popped-lists_of c) ∙ ap (with_buffer c) (sym (drop-append-le (c.received + 1) c.sent (u ∷ []) some))

pub next-shifted : (u : Value) (c : Channel) (v : Value) → next_value c ≡ Some v → next_value (after_send u c) ≡ Some v
next-shifted u c v e = get_before c.sent u v c.received e

pub next_none : (c : Channel) → next_value c ≡ None → c.received ≤ length c.sent → c.received ≡ length c.sent
next_none c e fits = omega (arith, get_nothing c.sent c.received e)
