-- The case that was chosen by its number can proceed, and stands at that number.
use Rattle.std.proofs.Common.{◌≡◌, ℕ, zero, suc, ◌%◌, ◌≤◌, true, List, [], ◌∷◌, length, map, ap, ◌∙◌, sym, subst, Option, None, Some, arith}
use Rattle.std.specs.Prelude.{slice_get}
use Rattle.std.specs.Option.{option_map}
use Rattle.std.proofs.lemmas.List.{length-map}
use Rattle.std.proofs.lemmas.Option.{slice_get-map}
use Rattle.hub_base.specs.declared.case.Case.{Case}
use Rattle.hub_base.specs.Ready.{port_of}
use Rattle.hub_laws.proofs.Ready.{chosen}
use Rattle.hub_parts.specs.Keeps.{AllMade}
use Rattle.hub_parts.specs.Records.{Lists}
use Rattle.hub_core.specs.ListReady.{can_on, ready_on, number_of, chosen_on}

pub record ChosenAt (b : Lists) (cases : List Case) (word index : ℕ) : Type 0 where
  pub case : Case
  pub is : chosen_on b cases word ≡ Some (index, case)
  pub stands : slice_get cases index ≡ Some case
  pub can : can_on b case ≡ true

numbered : (o : Option (ℕ × Case)) (index : ℕ) → Some index ≡ option_map number_of o → (k : Case) × (o ≡ Some (index, k))
numbered None index h = cc
numbered (Some x) index h = let same : index ≡ x.0 = cc in (x.1, ap (λ n. Some (n, x.1)) (sym same))

pub chosen_at : (b : Lists) (cases : List Case) (word index : ℕ) (ready : List ℕ) → ready ≡ map number_of (ready_on b cases)
    → Some index ≡ slice_get ready (word % length ready) → ChosenAt b cases word index
chosen_at b cases word index ready is h =
    let all = ready_on b cases in
    let named = numbered (chosen_on b cases word) index (h ∙ ap (λ xs. slice_get xs (word % length xs)) is
    ∙ ap (λ n. slice_get (map number_of all) (word % n)) (length-map all number_of) ∙ slice_get-map number_of all (word % length all)) in
    let found = chosen (can_on b) 0 (word % length all) cases (index, named.0) named.1 in
    let place : index ≡ found.stands.0 = omega (arith, found.stands.1) in
    record { case = named.0; is = named.1; stands = ap (slice_get cases) place ∙ found.stands.2; can = found.ready }

-- so it is on a port that was made, where all are
pub made_at : (n : ℕ) (cases : List Case) (index : ℕ) (k : Case) → AllMade n cases → slice_get cases index ≡ Some k → (port_of k).0 ≤ n
made_at n [] index k made h = cc
made_at n (c ∷ cases) zero k made h = let same : c ≡ k = cc in subst (λ (x : Case). (port_of x).0 ≤ n) same made.0
made_at n (c ∷ cases) (suc index) k made h = made_at n cases index k made.1 h
