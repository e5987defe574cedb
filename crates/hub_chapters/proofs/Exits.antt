-- The exits of a checkpoint: while no call is open those that have gone exit, in order of their numbers.
use Rattle.hub_laws.proofs.Prelude.{◌≡◌, Bool, true, false, List, [], ◌∷◌, ◌++◌, refl, sym, None, ℕ, ◌+◌, ◌≤◌, ◌<◌, ◌==◌, cond, zero, suc, arith, map}
use Rattle.hub_laws.proofs.Prelude.{append_assoc, append-nil, filter, list_any, lt-ltb, eqb-true}
use Rattle.hub_laws.proofs.Prelude.{Head, Pid, Channel, State, refusal}
use Rattle.std.specs.List.{range_with_len}
use Rattle.hub_laws.proofs.Calls.{any_snoc}
use Rattle.hub_base.specs.Notation.{exit}
use Rattle.hub_chapters.proofs.Leading.{Leads, leads-none, leads-more, leads-one}

-- a hub where these have gone, and no call is open
abbrev pub left : Head → List Channel → List Pid → State
left h cs gone = record { head = h; gone = gone; parked = []; channels = cs }

abbrev pub pid_of : ℕ → Pid
pid_of q = record { 0 = q }

abbrev pub among : ℕ → List Pid → Bool
among q gone = list_any (λ g. g.0 == q) gone

free : (h : Head) (cs : List Channel) (gone : List Pid) (q : ℕ) → q < h.procs → among q gone ≡ false → refusal (left h cs gone) (pid_of q) ≡ None
free h cs gone q below here = rw (lt-ltb q h.procs below, here) refl

exit_leads : (h : Head) (cs : List Channel) (gone : List Pid) (q : ℕ) → q < h.procs → among q gone ≡ false →
    Leads (left h cs gone) (exit q ∷ []) (left h cs (gone ++ pid_of q ∷ []))
exit_leads h cs gone q below here = leads-one (left h cs gone) (left h cs (gone ++ pid_of q ∷ [])) (exit q) (free h cs gone q below here) refl refl refl

-- none of number a and above
abbrev Before : ℕ → List Pid → Type 0
Before a gone = (q : ℕ) → a ≤ q → among q gone ≡ false

before_more : (a : ℕ) (gone : List Pid) → Before a gone → Before (a + 1) (gone ++ pid_of a ∷ [])
before_more a gone b q h = let k = b q (omega arith) in grind (arith, any_snoc)

pub exits-lead : (h : Head) (cs : List Channel) (test : ℕ → Bool) (n a : ℕ) (gone : List Pid) → a + n ≤ h.procs → Before a gone →
    Leads (left h cs gone) (map exit (filter test (range_with_len a n))) (left h cs (gone ++ map pid_of (filter test (range_with_len a n))))
exits-lead h cs test zero a gone room b = rw append-nil (leads-none (left h cs gone))
exits-lead h cs test (suc n) a gone room b =
    by (test a) (exits-lead h cs test n (a + 1) (gone ++ pid_of a ∷ []) (omega arith) (before_more a gone b))
    (exits-lead h cs test n (a + 1) gone (omega arith) (λ q h. b q (omega arith)))
  where
    qs : List ℕ
    qs = filter test (range_with_len (a + 1) n)

    by : (b : Bool) → Leads (left h cs (gone ++ pid_of a ∷ [])) (map exit qs) (left h cs ((gone ++ pid_of a ∷ []) ++ map pid_of qs)) →
        Leads (left h cs gone) (map exit qs) (left h cs (gone ++ map pid_of qs)) →
        Leads (left h cs gone) (map exit (cond b (a ∷ qs) qs)) (left h cs (gone ++ map pid_of (cond b (a ∷ qs) qs)))
    by true rest other =
        let first = exit_leads h cs gone a (omega arith) (b a (omega arith)) in
        let e : (gone ++ pid_of a ∷ []) ++ map pid_of qs ≡ gone ++ pid_of a ∷ map pid_of qs = append_assoc gone (pid_of a ∷ []) (map pid_of qs) in
        let last = rw e at rest in
        leads-more (left h cs gone) (left h cs (gone ++ pid_of a ∷ [])) (left h cs (gone ++ pid_of a ∷ map pid_of qs)) (exit a ∷ []) (map exit qs) first last
    by false rest other = other

-- Who has gone then

found_there : (test : ℕ → Bool) (n a q : ℕ) → a ≤ q → q < a + n → test q ≡ true → among q (map pid_of (filter test (range_with_len a n))) ≡ true
found_there test zero a q lo hi e = absurd (omega arith)
found_there test (suc n) a q lo hi e = grind (arith, found_there test n (a + 1) q)

found_by : (test : ℕ → Bool) (n a q : ℕ) → among q (map pid_of (filter test (range_with_len a n))) ≡ true → test q ≡ true
found_by test zero a q e = absurd (let g : ⊥ = cc in g)
found_by test (suc n) a q e = grind (arith, eqb-true, found_by test n (a + 1) q)

pub gone-same : (test : ℕ → Bool) (n q : ℕ) → (test q ≡ true → q < n) → among q (map pid_of (filter test (range_with_len 0 n))) ≡ test q
gone-same test n q below = by (test q) (among q (map pid_of (filter test (range_with_len 0 n)))) refl refl
  where
    by : (b c : Bool) → b ≡ test q → c ≡ among q (map pid_of (filter test (range_with_len 0 n))) → c ≡ b
    by true true x y = refl
    by false false x y = refl
    by true false x y = let l = found_there test n 0 q (omega arith) (let b = below (sym x) in omega arith) (sym x) in cc
    by false true x y = let l = found_by test n 0 q (sym y) in cc
