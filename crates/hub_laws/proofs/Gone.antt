-- Who has exited after a step: an exit adds its caller to them, and a start takes its process from them.
use Rattle.hub_laws.proofs.Prelude.{◌≡◌, Bool, true, false, List, [], ◌∷◌, refl, ap, ◌∙◌, sym, ℕ, ◌==◌, cond, not, ◌&&◌, ◌||◌, filter, list_any, inl, inr, ◌⊎◌}
use Rattle.hub_laws.proofs.Prelude.{eqb-true, and-true, or-false, and-false, Pid, Step, Exit, Start, Make, Call, Close, Cancel, Reopen, is_exit, is_start_of}
use Rattle.hub_laws.proofs.Account.{with_leaver}
use Rattle.hub_laws.proofs.Calls.{any_snoc, differ-sym}

-- a process among these, but for one

either : (a b : Bool) → (b && not a) ≡ ((a || b) && not a)
either true true = refl
either true false = refl
either false true = refl
either false false = refl

other : (a b c : Bool) → (a ≡ true → c ≡ false) → (a || (b && not c)) ≡ ((a || b) && not c)
other true b c h = rw (h refl) refl
other false b c h = refl

but_by : (q r : ℕ) (g : Pid) (gs : List Pid) (b : Bool) → b ≡ (g.0 == r) →
    list_any (λ x. x.0 == q) (filter (λ x. not (x.0 == r)) gs) ≡ (list_any (λ x. x.0 == q) gs && not (r == q)) →
    list_any (λ x. x.0 == q) (cond (not b) (g ∷ filter (λ x. not (x.0 == r)) gs) (filter (λ x. not (x.0 == r)) gs))
    ≡ (((g.0 == q) || list_any (λ x. x.0 == q) gs) && not (r == q))
but_by q r g gs true is rest =
    let same : g.0 ≡ r = eqb-true g.0 r (sym is) in
    rest ∙ rw same (either (r == q) (list_any (λ (x : Pid). x.0 == q) gs))
but_by q r g gs false is rest =
    let differs = λ (h : (g.0 == q) ≡ true). let d : (r == g.0) ≡ false = differ-sym g.0 r (sym is) in let n : g.0 ≡ q = eqb-true g.0 q h in rw n at d in
    ap (λ b. (g.0 == q) || b) rest ∙ other (g.0 == q) (list_any (λ (x : Pid). x.0 == q) gs) (r == q) differs

pub any-but : (q r : ℕ) (gone : List Pid) →
    list_any (λ x. x.0 == q) (filter (λ x. not (x.0 == r)) gone) ≡ (list_any (λ x. x.0 == q) gone && not (r == q))
any-but q r [] = refl
any-but q r (g ∷ gs) = but_by q r g gs (g.0 == r) refl (any-but q r gs)

-- after a step

as_before : (g : Bool) → g ≡ ((g && true) || false)
as_before true = refl
as_before false = refl

pub leaves-by : (q : ℕ) (gone : List Pid) (pid : Pid) (step : Step) →
    list_any (λ g. g.0 == q) (with_leaver gone pid step)
    ≡ ((list_any (λ g. g.0 == q) gone && not (is_start_of q step)) || (is_exit step && (pid.0 == q)))
leaves-by q gone pid Exit =
    any_snoc (λ (g : Pid). g.0 == q) gone pid ∙ ap (λ b. b || (pid.0 == q)) (sym (and-true (list_any (λ (g : Pid). g.0 == q) gone)))
leaves-by q gone pid (Start r) = any-but q r.0 gone ∙ sym (or-false (list_any (λ (g : Pid). g.0 == q) gone && not (r.0 == q)))
leaves-by q gone pid (Make cap) = as_before (list_any (λ (g : Pid). g.0 == q) gone)
leaves-by q gone pid (Call cases default word) = as_before (list_any (λ (g : Pid). g.0 == q) gone)
leaves-by q gone pid (Close p) = as_before (list_any (λ (g : Pid). g.0 == q) gone)
leaves-by q gone pid (Cancel r) = as_before (list_any (λ (g : Pid). g.0 == q) gone)
leaves-by q gone pid (Reopen p cap) = as_before (list_any (λ (g : Pid). g.0 == q) gone)

-- a process that was there and did not exit is there still
pub still-here : (g b x y : Bool) → g ≡ false → (x ≡ false) ⊎ (y ≡ false) → ((g && not b) || (x && y)) ≡ false
still-here g b x y here (inl l) = rw (here, l) refl
still-here g b x y here (inr r) = rw (here, r) (and-false x)
