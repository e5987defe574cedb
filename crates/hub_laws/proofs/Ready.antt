-- The cases of a call that can proceed, and why an entry is admitted.
use Rattle.hub_laws.proofs.Prelude.{◌≡◌, Bool, true, false, List, [], ◌∷◌, refl, subst, Option, Some, None, ℕ, zero, suc, ◌+◌, cond, not, length, arith}
use Rattle.hub_laws.proofs.Prelude.{filter, inl, inr, ◌<◌, nat_lt, ◌%◌, or_parts, or_cases, slice_get-get_or, list_any, enumerate_from, option_map_or}
use Rattle.hub_laws.proofs.Prelude.{slice_get, Case, Fault, Pid, Port, can_proceed, is_recv_on, is_send_on, send_can, recv_can, State, Channel, channel_at}
use Rattle.hub_laws.proofs.Prelude.{refusal, has_gone, is_waiting}
use Rattle.hub_laws.proofs.Calls.{StandsAt}
use Rattle.hub_laws.proofs.Fires.{is_recv, is_send}

pub ready_none : (xs : List (ℕ × Case)) (word : ℕ) → slice_get xs (word % length xs) ≡ None → xs ≡ []
ready_none [] word e = refl
ready_none (x ∷ xs) word e =
    let some = slice_get-get_or (x ∷ xs) (word % length (x ∷ xs)) x (omega arith) in
    absurd (let g : ⊥ = cc in g)

-- where no case is listed none can proceed
pub none_can : (i : ℕ) (can : Case → Bool) (cases : List Case) → filter (λ x. can x.1) (enumerate_from i cases) ≡ [] → list_any can cases ≡ false
none_can i can [] e = refl
none_can i can (c ∷ cs) e = grind (arith, none_can (i + 1) can cs)

-- a listed case can proceed, and stands in its place
pub record Chosen (can : Case → Bool) (i : ℕ) (cases : List Case) (x : ℕ × Case) : Type 0 where
  pub ready : can x.1 ≡ true
  pub stands : StandsAt i cases (record { index = x.0; case = x.1 })

chosen_later : (can : Case → Bool) (i : ℕ) (c : Case) (cs : List Case) (x : ℕ × Case) → Chosen can (i + 1) cs x → Chosen can i (c ∷ cs) x
chosen_later can i c cs x h = record { ready = h.ready; stands = (suc h.stands.0, omega (arith, h.stands.1), h.stands.2) }

chosen_by : (b : Bool) (can : Case → Bool) (i k : ℕ) (c : Case) (cs : List Case) (x : ℕ × Case) → b ≡ can c
    → slice_get (cond b ((i, c) ∷ filter (λ x. can x.1) (enumerate_from (i + 1) cs)) (filter (λ x. can x.1) (enumerate_from (i + 1) cs))) k ≡ Some x
    → ((j : ℕ) → slice_get (filter (λ x. can x.1) (enumerate_from (i + 1) cs)) j ≡ Some x → Chosen can (i + 1) cs x) → Chosen can i (c ∷ cs) x
chosen_by true can i zero c cs x is e rest = grind arith
chosen_by true can i (suc k) c cs x is e rest = chosen_later can i c cs x (rest k e)
chosen_by false can i k c cs x is e rest = chosen_later can i c cs x (rest k e)

pub chosen : (can : Case → Bool) (i k : ℕ) (cases : List Case) (x : ℕ × Case)
    → slice_get (filter (λ x. can x.1) (enumerate_from i cases)) k ≡ Some x → Chosen can i cases x
chosen can i k [] x e = cc
chosen can i k (c ∷ cs) x e = chosen_by (can c) can i k c cs x refl e (λ j. chosen can (i + 1) j cs x)

-- where none passes one test and some pass another, one passes this alone
passes_one : {A : Type 0} (t u : A → Bool) (xs : List A) → list_any t xs ≡ false → list_any u xs ≡ true → (x : A) × (u x ≡ true) × (t x ≡ false)
passes_one t u [] none some = cc
passes_one t u (x ∷ xs) none some =
    let f = or_parts (t x) (list_any t xs) none in
    elim (or_cases (u x) (list_any u xs) some) [ inl l ↦ (x, l, f.0) | inr r ↦ passes_one t u xs f.1 r ]

-- where no case of a call can proceed, neither can such a case
pub no_recv : (s : State) (p : Port) (c : Channel) (cases : List Case) → channel_at s p ≡ Some c → list_any (can_proceed s) cases ≡ false
    → list_any (is_recv_on p) cases ≡ true → recv_can s p c ≡ false
no_recv s p c cases e none some =
    let k = passes_one (can_proceed s) (is_recv_on p) cases none some in
    let g : option_map_or (recv_can s p) (channel_at s p) false ≡ false = subst (λ x. can_proceed s x ≡ false) (is_recv p k.0 k.1) k.2 in
    rw e at g

pub no_send : (s : State) (p : Port) (c : Channel) (cases : List Case) → channel_at s p ≡ Some c → list_any (can_proceed s) cases ≡ false
    → list_any (is_send_on p) cases ≡ true → send_can s p c ≡ false
no_send s p c cases e none some =
    let k = passes_one (can_proceed s) (is_send_on p) cases none some in
    let g : option_map_or (send_can s p) (channel_at s p) false ≡ false = subst (λ x. can_proceed s x ≡ false) (is_send p k.0 k.1).1 k.2 in
    rw e at g

-- an entry that is admitted
pub record Admitted (s : State) (pid : Pid) : Type 0 where
  pub below : pid.0 < s.head.procs
  pub here : has_gone s pid.0 ≡ false
  pub free : is_waiting s pid.0 ≡ false

pub none_false : {A : Type 0} (t : Bool) (x : A) (o : Option A) → cond t (Some x) o ≡ None → (t ≡ false) × (o ≡ None)
none_false true x o e = cc
none_false false x o e = (refl, e)

below : (a b : ℕ) → not (nat_lt a b) ≡ false → a < b
below a b e = grind arith

pub admitted : (s : State) (pid : Pid) → refusal s pid ≡ None → Admitted s pid
admitted s pid h = grind arith

-- a fact of what follows an entry, where it is admitted and where it is not
pub by-refusal : (P : Option Fault → Type 0) (s : State) (pid : Pid) → (refusal s pid ≡ None → P None) →
    ((f : Fault) → refusal s pid ≡ Some f → P (Some f)) → P (refusal s pid)
by-refusal P s pid adm ref = grind arith
