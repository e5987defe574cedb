-- Entries that are all admitted, and lead from one state to another.
use Rattle.hub_laws.proofs.Prelude.{◌≡◌, true, false, List, [], ◌∷◌, ◌++◌, refl, ap, ◌∙◌, Option, Some, None, ℕ, ◌%◌, ◌+◌, cond, length, filter}
use Rattle.hub_laws.proofs.Prelude.{list_any, enumerate_from, slice_get, or_parts}
use Rattle.hub_laws.proofs.Prelude.{Entry, Fault, Case, Pid, Channel, State, Change, admits, answers, refusal, fault_of, effect, stalls, all_wait}
use Rattle.hub_laws.proofs.Prelude.{state_after, kept_after, keeps}
use Rattle.hub_laws.proofs.Prelude.{can_proceed, port_of, channel_at, calls, chooses, proceeds, fires}
use Rattle.hub_base.specs.Steps.{waits}
use Rattle.hub_laws.proofs.Longer.{state_after-append, kept_after-append}
use Rattle.hub_chapters.proofs.Stalling.{stalls_if}

-- each of these entries is admitted, and they lead there
pub record Leads (s : State) (es : List Entry) (t : State) : Type 0 where
  pub legal : kept_after s es ≡ es
  pub there : state_after s es ≡ t

pub leads-none : (s : State) → Leads s [] s
leads-none s = record { legal = refl; there = refl }

pub leads-more : (s t u : State) (es fs : List Entry) → Leads s es t → Leads t fs u → Leads s (es ++ fs) u
leads-more s t u es fs a b = record {
  legal = kept_after-append s es fs
      ∙ ap (λ xs. xs ++ kept_after (state_after s es) fs) a.legal
      ∙ ap (λ (x : State). es ++ kept_after x fs) a.there
      ∙ ap (λ xs. es ++ xs) b.legal;
  there = state_after-append s es fs ∙ ap (λ (x : State). state_after x fs) a.there ∙ b.there;
}

-- a step after which some process does not wait
stay : (c : Change) → all_wait c.state ≡ false → (stalls c).state ≡ c.state
stay c h =
    ap (λ b. (stalls_if b c).state) h

pub leads-one : (s t : State) (e : Entry) → refusal s e.pid ≡ None → fault_of s e.step ≡ None → (effect s e.pid e.step).state ≡ t →
    all_wait t ≡ false → Leads s (e ∷ []) t
leads-one s t e free fine is awake = record {
  legal = ap (λ (o : Option Fault). keeps o e []) free;
  there = ap (λ (o : Option Fault). (admits s e o).state) free
      ∙ ap (λ (o : Option Fault). (answers s e o).state) fine
      ∙ stay (effect s e.pid e.step) (ap all_wait is ∙ awake)
      ∙ is;
}

-- A call of one case that can proceed
pub calls-one : (s : State) (pid : Pid) (k : Case) (c : Channel) → can_proceed s k ≡ true → channel_at s (port_of k) ≡ Some c →
    calls s pid (k ∷ []) false 0 ≡ proceeds s pid 0 (fires s k (Some c))
calls-one s pid k c can is =
    ap (λ b. let xs : List (ℕ × Case) = cond b ((0, k) ∷ []) [] in chooses s pid (k ∷ []) false (slice_get xs (0 % length xs))) can
    ∙ ap (λ (o : Option Channel). proceeds s pid 0 (fires s k o)) is

-- A call of which none can
none_ready : (s : State) (i : ℕ) (cases : List Case) → list_any (can_proceed s) cases ≡ false → filter (λ x. can_proceed s x.1) (enumerate_from i cases) ≡ []
none_ready s i [] h = refl
none_ready s i (k ∷ ks) h = let f = or_parts (can_proceed s k) (list_any (can_proceed s) ks) h in rw f.0 (none_ready s (i + 1) ks f.1)

pub calls-none : (s : State) (pid : Pid) (cases : List Case) → list_any (can_proceed s) cases ≡ false → calls s pid cases false 0 ≡ waits s pid cases false
calls-none s pid cases h = ap (λ (xs : List (ℕ × Case)). chooses s pid cases false (slice_get xs (0 % length xs))) (none_ready s 0 cases h)
