-- Those that stay where open calls end: of a process with one open call, that call ends with its event.
use Rattle.std.proofs.Common.{◌≡◌, ◌==◌, ◌&&◌, ◌||◌, ℕ, Bool, true, false, cond, not, List, [], ◌∷◌, filter, refl, ap, ◌∙◌, sym, arith}
use Rattle.std.proofs.lemmas.Bool.{eqb-true}
use Rattle.hub_base.specs.State.{OpenCall}
use Rattle.hub_base.specs.Ready.{without}
use Rattle.hub_laws.specs.Sound.{Apart, is_among}
use Rattle.hub_laws.specs.Replies.{is_told}
use Rattle.hub_laws.proofs.Calls.{fewer-filter}
use Rattle.hub_laws.proofs.Leaving.{Ended, event_of, events_of, Takes, here, later, Leave, nobody, next, without_head}

filter-true : {A : Type 0} (xs : List A) → xs ≡ filter (λ x. true) xs
filter-true [] = refl
filter-true (x ∷ xs) = ap (λ l. x ∷ l) (filter-true xs)

pub filter-both : {A : Type 0} (p q : A → Bool) (xs : List A) → filter p (filter q xs) ≡ filter (λ x. q x && p x) xs
filter-both p q [] = refl
filter-both {A = A} p q (x ∷ xs) = by (q x) (p x) refl refl (filter-both p q xs)
  where
    by : (a b : Bool) → a ≡ q x → b ≡ p x → filter p (filter q xs) ≡ filter (λ x. q x && p x) xs →
        filter p (cond a (x ∷ filter q xs) (filter q xs)) ≡ cond (a && b) (x ∷ filter (λ x. q x && p x) xs) (filter (λ x. q x && p x) xs)
    by false b is so rest = rest
    by true true is so rest = ap (λ c. cond c (x ∷ filter p (filter q xs)) (filter p (filter q xs))) (sym so) ∙ ap (λ l. x ∷ l) rest
    by true false is so rest = ap (λ c. cond c (x ∷ filter p (filter q xs)) (filter p (filter q xs))) (sym so) ∙ rest

-- a call that is taken out is one of those
takes-among : (call : OpenCall) (calls kept : List OpenCall) → Takes call calls kept → is_among call.pid.0 calls ≡ true
takes-among call calls kept (here rest) = grind arith
takes-among call calls kept (later c cs ks t) = let h = takes-among call cs ks t in grind arith

pub takes-without : (call : OpenCall) (calls kept : List OpenCall) → Takes call calls kept → Apart calls → kept ≡ without call.pid calls
takes-without call calls kept (here rest) apart = sym (without_head call rest apart.0)
takes-without call calls kept (later c cs ks t) apart =
    by (c.pid.0 == call.pid.0) refl (takes-without call cs ks t apart.1) (takes-among call cs ks t)
  where
    by : (b : Bool) → b ≡ (c.pid.0 == call.pid.0) → ks ≡ without call.pid cs → is_among call.pid.0 cs ≡ true →
        c ∷ ks ≡ cond (not b) (c ∷ without call.pid cs) (without call.pid cs)
    by false is rest mine = ap (λ l. c ∷ l) rest
    by true is rest mine =
        let same : c.pid.0 ≡ call.pid.0 = eqb-true c.pid.0 call.pid.0 (sym is) in
        let none : is_among call.pid.0 cs ≡ false = ap (λ k. is_among k cs) (sym same) ∙ apart.0 in
        cc

-- those stay whose processes are told nothing
pub leave-filter : (xs : List Ended) (calls kept : List OpenCall) → Leave xs calls kept → Apart calls →
    kept ≡ filter (λ call. not (is_told call.pid.0 (events_of xs))) calls
leave-filter xs calls kept (nobody cs) apart = filter-true cs
leave-filter xs calls kept (next y ys cs rest ks t l) apart =
    let out : rest ≡ without y.call.pid cs = takes-without y.call cs rest t apart in
    let fewer = fewer-filter (λ call. not (call.pid.0 == y.call.pid.0)) cs in
    leave-filter ys rest ks l (rw out (fewer.apart apart))
    ∙ ap (filter (λ call. not (is_told call.pid.0 (events_of ys)))) out
    ∙ filter-both (λ call. not (is_told call.pid.0 (events_of ys))) (λ call. not (call.pid.0 == y.call.pid.0)) cs
    ∙ same cs
  where
    one : (a b c : Bool) → c ≡ a → (not a && not b) ≡ not (c || b)
    one true true true is = refl
    one true false true is = refl
    one false b false is = refl
    one true b false is = cc
    one false b true is = cc

    turned : (a b : ℕ) → (b == a) ≡ (a == b)
    turned a b = grind arith

    same : (cs : List OpenCall) → filter (λ call. not (call.pid.0 == y.call.pid.0) && not (is_told call.pid.0 (events_of ys))) cs
        ≡ filter (λ call. not (is_told call.pid.0 (event_of y ∷ events_of ys))) cs
    same [] = refl
    same (c ∷ cs) =
        ap (λ b. cond b (c ∷ filter (λ call. not (call.pid.0 == y.call.pid.0) && not (is_told call.pid.0 (events_of ys))) cs)
        (filter (λ call. not (call.pid.0 == y.call.pid.0) && not (is_told call.pid.0 (events_of ys))) cs))
        (one (c.pid.0 == y.call.pid.0) (is_told c.pid.0 (events_of ys)) (y.call.pid.0 == c.pid.0) (turned c.pid.0 y.call.pid.0))
        ∙ ap (λ l. cond (not (is_told c.pid.0 (event_of y ∷ events_of ys))) (c ∷ l) l) (same cs)
