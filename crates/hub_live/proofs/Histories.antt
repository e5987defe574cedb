-- The entries of each process in a journal that grows.
use Rattle.std.proofs.Common.{◌≡◌, ◌≢◌, ◌==◌, ℕ, Bool, false, cond, List, [], ◌∷◌, ◌++◌, refl, subst, ne_eqb, eq-eqb}
use Rattle.std.specs.List.{list_any}
use Rattle.hub_laws.proofs.Replies.{own-others}
use Rattle.hub_live.specs.Prelude.{Entry, own}

none_of : (p : ℕ) (e : Entry) → (e.pid.0 == p) ≡ false → list_any (λ x. x.pid.0 == p) (e ∷ []) ≡ false
none_of p e other = rw other refl

-- an entry of another leaves the entries of a process
pub own_other : (p : ℕ) (es : List Entry) (e : Entry) → e.pid.0 ≢ p → own p (es ++ e ∷ []) ≡ own p es
own_other p es e apart = own-others p es (e ∷ []) (none_of p e (ne_eqb e.pid.0 p apart))

-- a journal in which no process has an entry is empty
pub own_none : (es : List Entry) → ((p : ℕ) → own p es ≡ []) → es ≡ []
own_none [] none = refl
own_none (e ∷ es) none = absurd (cc (subst (λ (b : Bool). cond b (e ∷ own e.pid.0 es) (own e.pid.0 es) ≡ []) (eq-eqb e.pid.0 e.pid.0 refl) (none e.pid.0)))
