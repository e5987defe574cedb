-- How entries are counted, and how one goes on from those before it.
use Rattle.std.proofs.Common.{◌≡◌, ℕ, ◌+◌, Bool, true, false, cond, List, [], ◌∷◌, ◌++◌, refl, ap, ◌∙◌, sym, arith, Some}
use Rattle.std.proofs.Common.{None, Result, Ok}
use Rattle.hub_base.specs.Entry.{Entry}
use Rattle.hub_base.specs.declared.read_fault.Kind.{Kind}
use Rattle.hub_base.specs.declared.read_fault.Kind.TheVariants.{TooLong}
use Rattle.hub_base.specs.Reading.{over, counted, is_exit}
use Rattle.hub_base.specs.Text.{fault_of_entry, steps_of}
use Rattle.hub_base.proofs.StepCounts.{steps-snoc}
use Rattle.hub_replay.specs.Running.{steps_after}

within-by : (b : Bool) (n m : ℕ) → cond b None (Some n) ≡ Some m → (b ≡ false) × (m ≡ n)
within-by true n m h = cc
within-by false n m h = (refl, cc)

beyond-by : (b : Bool) (n : ℕ) → cond b None (Some n) ≡ None → b ≡ true
beyond-by true n h = refl
beyond-by false n h = cc

count-by : (exit : Bool) (n : ℕ) → cond exit n (n + 1) ≡ n + cond exit 0 1
count-by true n = omega arith
count-by false n = refl

-- an entry that is not one too many
pub record Counted (entries : List Entry) (e : Entry) (steps : ℕ) : Type 0 where
  pub fits : over (steps_of entries) e ≡ false
  pub counted : steps ≡ steps_of (entries ++ e ∷ [])

pub entry-counts : (entries : List Entry) (e : Entry) (before steps : ℕ) → before ≡ steps_of entries → steps_after before e ≡ Some steps
    → Counted entries e steps
entry-counts entries e before steps is after =
    let both = within-by (over (steps_of entries) e) (counted (steps_of entries) e) steps (ap (λ n. steps_after n e) (sym is) ∙ after) in
    record {
      fits = both.0;
      counted = both.1 ∙ count-by (is_exit e.step) (steps_of entries) ∙ sym (steps-snoc entries e);
    }

-- one that is
pub entry-beyond : (entries : List Entry) (e : Entry) (before : ℕ) (said : Result Entry Kind) → before ≡ steps_of entries
    → steps_after before e ≡ None → said ≡ Ok e → fault_of_entry (steps_of entries) said ≡ Some TooLong
entry-beyond entries e before said is after read =
    let many = beyond-by (over (steps_of entries) e) (counted (steps_of entries) e) (ap (λ n. steps_after n e) (sym is) ∙ after) in
    ap (fault_of_entry (steps_of entries)) read ∙ ap (λ b. cond b (Some TooLong) None) many
