-- The channel of a port, after one channel or one more was written.
use Rattle.hub_laws.proofs.Prelude.{◌≡◌, Bool, true, false, List, [], ◌∷◌, refl, ap, ◌∙◌, sym, Some, None, ℕ, ◌==◌, zero, suc, cond, length, arith, ◌-◌, ◌<◌}
use Rattle.hub_laws.proofs.Prelude.{length-set, common_steps, get_or-set_same, slice_get_within, slice_get-get_or, slice_get, slice_set, Port, State, Channel}
use Rattle.hub_laws.proofs.Prelude.{channel_at}

pub above_zero : (n : ℕ) → (n == 0) ≡ false → 0 < n
above_zero n e = grind arith

pub record Made (s : State) (p : Port) (c : Channel) : Type 0 where
  pub number : 0 < p.0
  pub channel : slice_get s.channels (p.0 - 1) ≡ Some c

made_by : (b : Bool) (s : State) (p : Port) (c : Channel) → b ≡ (p.0 == 0) → cond b None (slice_get s.channels (p.0 - 1)) ≡ Some c → Made s p c
made_by true s p c is e = cc
made_by false s p c is e = record { number = above_zero p.0 (sym is); channel = e }

pub made : (s : State) (p : Port) (c : Channel) → channel_at s p ≡ Some c → Made s p c
made s p c e = made_by (p.0 == 0) s p c refl e

pub at_made : (s : State) (p : Port) (c : Channel) → Made s p c → channel_at s p ≡ Some c
at_made s p c m = let b : (p.0 == 0) ≡ false = grind (arith, common_steps, m.number) in rw b m.channel

pub same_port : (p q : Port) → p.0 ≡ q.0 → p ≡ q
same_port p q h = let f : ℕ → Port = λ n. record { 0 = n } in ap f h

-- the channel that was written stands there
get_set : (xs : List Channel) (i : ℕ) (c d : Channel) → slice_get xs i ≡ Some c → slice_get (slice_set xs i d) i ≡ Some d
get_set xs i c d e =
    let within : i < length xs = slice_get_within xs i c e in
    slice_get-get_or (slice_set xs i d) i d (omega (arith, length-set xs i d)) ∙ ap (λ x. Some x) (get_or-set_same xs i d d within)

pub written : (s t : State) (p : Port) (c d : Channel) → t.channels ≡ slice_set s.channels (p.0 - 1) d → channel_at s p ≡ Some c → channel_at t p ≡ Some d
written s t p c d is e = let m = made s p c e in at_made t p d (record { number = m.number; channel = rw is (get_set s.channels (p.0 - 1) c d m.channel) })

pub get_set_other : (xs : List Channel) (i j : ℕ) (d : Channel) → (i ≡ j → ⊥) → slice_get (slice_set xs i d) j ≡ slice_get xs j
get_set_other [] i j d h = refl
get_set_other (y ∷ ys) zero zero d h = absurd (h refl)
get_set_other (y ∷ ys) zero (suc j) d h = refl
get_set_other (y ∷ ys) (suc i) zero d h = refl
get_set_other (y ∷ ys) (suc i) (suc j) d h = get_set_other ys i j d (λ e. h (ap suc e))
