-- What is asked of cases that come from C, in one pass or in two.
use Rattle.std.proofs.Common.{◌≡◌, ◌∙◌, ℕ, Bool, true, false, List, [], ◌∷◌, ap, refl, subst, sym, length, map, take}
use Rattle.std.specs.Prelude.{◌&&◌, nat_le}
use Rattle.std.specs.List.{list_all}
use Rattle.hub_base.specs.declared.limits.TheConstants.{CASE_PLACES}
use Rattle.hub_base.specs.Value.{bytes_of}
use Rattle.hub_base.specs.declared.case.Case.{Case}
use Rattle.hub_base.specs.declared.head.Edition.{Edition}
use Rattle.hub_base.specs.declared.head.Head.{Head}
use Rattle.hub_base.specs.Head.{has_case, has_value}
use Rattle.hub_base.specs.Notation.{select}
use Rattle.std.proofs.lemmas.Bool.{and_parts}
use Rattle.hub_session.specs.declared.session.Session.{Session}
use Rattle.hub_session.specs.declared.structs.CaseC.{CaseC}
use Rattle.hub_session.specs.declared.structs.ToldC.{ToldC}
use Rattle.hub_session.specs.Hubs.{head_in}
use Rattle.hub_session.specs.Steps.{ServesIn, StepsSaid}
use Rattle.hub_session.specs.Structs.{are_cases, are_cases_of, call_of, case_in, is_case, is_true, is_value, suits}
use Rattle.hub_session.specs.Tells.{bad_call}

and_across : (x y a b : Bool) → ((x && y) && (a && b)) ≡ ((x && a) && (y && b))
and_across true true a b = refl
and_across true false true b = refl
and_across true false false b = refl
and_across false y a b = refl

all_split : (edition : Edition) (cases : List CaseC)
    → list_all (suits edition) cases ≡ (list_all is_case cases && list_all (has_case edition) (map case_in cases))
all_split edition [] = refl
all_split edition (c ∷ cases) =
    ap (λ rest. suits edition c && rest) (all_split edition cases)
    ∙ and_across (is_case c) (has_case edition (case_in c)) (list_all is_case cases) (list_all (has_case edition) (map case_in cases))

-- both are asked of the cases of a call
pub cases_split : (edition : Edition) (cases : List CaseC)
    → are_cases_of edition cases ≡ (are_cases cases && list_all (has_case edition) (map case_in cases))
cases_split edition cases =
    ap (λ all. nat_le (length cases) CASE_PLACES && all) (all_split edition cases)
    ∙ by (nat_le (length cases) CASE_PLACES) (list_all is_case cases) (list_all (has_case edition) (map case_in cases))
  where
    by : (x y z : Bool) → (x && (y && z)) ≡ ((x && y) && z)
    by true y z = refl
    by false y z = refl

-- a hub of another edition, or cases that are none: nothing is done
pub refused_so : (was : Session) (pid : ℕ) (cases : List CaseC) (default word : ℕ) (told : ToldC)
    → are_cases_of (head_in was.hub).edition cases ≡ false → told ≡ bad_call → StepsSaid was (call_of pid cases default word) was told
refused_so was pid cases default word told not_so is =
    by (are_cases cases) (list_all (has_case (head_in was.hub).edition) (map case_in cases)) refl refl
    (sym (cases_split (head_in was.hub).edition cases) ∙ not_so)
  where
    by : (one all : Bool) → are_cases cases ≡ one → list_all (has_case (head_in was.hub).edition) (map case_in cases) ≡ all
        → (one && all) ≡ false → StepsSaid was (call_of pid cases default word) was told
    by false all none others not_both = rw none (refl, is)
    by true false one none not_both = rw (one, none) (refl, is)
    by true true one all not_both = cc

both_asked : (edition : Edition) (cases : List CaseC) → are_cases_of edition cases ≡ true
    → (are_cases cases ≡ true) × (list_all (has_case edition) (map case_in cases) ≡ true)
both_asked edition cases so =
    and_parts (are_cases cases) (list_all (has_case edition) (map case_in cases)) (sym (cases_split edition cases) ∙ so)

-- a step that the hub's edition has
served_so : (was now : Session) (pid : ℕ) (cases : List CaseC) (default word : ℕ) (told : ToldC)
    → are_cases_of (head_in was.hub).edition cases ≡ true
    → ServesIn was (select pid word (map case_in cases) (is_true default)) now told → StepsSaid was (call_of pid cases default word) now told
served_so was now pid cases default word told so serves =
    let both = both_asked (head_in was.hub).edition cases so in
    rw (both.0, both.1) serves

-- what was asked by the edition in a head that was read is so by the hub's own
pub asked_so : {b : Bool} (was : Session) (cases : List CaseC) (read : Head) (asked : Bool) → read ≡ head_in was.hub
    → asked ≡ are_cases_of read.edition cases → asked ≡ b → are_cases_of (head_in was.hub).edition cases ≡ b
asked_so was cases read asked same is so = ap (λ (h : Head). are_cases_of h.edition cases) (sym same) ∙ sym is ∙ so

-- the cases that were read of these structs are ones that the hub's edition has
pub read_fit : (was : Session) (cases : List CaseC) (items : List Case) → are_cases_of (head_in was.hub).edition cases ≡ true
    → items ≡ map case_in cases → list_all (has_case (head_in was.hub).edition) items ≡ true
read_fit was cases items so same =
    ap (list_all (has_case (head_in was.hub).edition)) same ∙ (both_asked (head_in was.hub).edition cases so).1

-- the step of those cases is the one that was asked for
pub read_served : (was now : Session) (pid : ℕ) (cases : List CaseC) (default word : ℕ) (told : ToldC) (items : List Case)
    → are_cases_of (head_in was.hub).edition cases ≡ true → items ≡ map case_in cases
    → ServesIn was (select pid word items (is_true default)) now told → StepsSaid was (call_of pid cases default word) now told
read_served was now pid cases default word told items so same serves =
    served_so was now pid cases default word told so
    (subst (λ (xs : List Case). ServesIn was (select pid word xs (is_true default)) now told) same serves)

-- a case that sends bytes is one of each edition that has them
pub suits_bytes : (edition : Edition) (c : CaseC) (bytes : List ℕ) → is_true c.sends ≡ true → is_true c.value.is_bytes ≡ true
    → is_value c.value ≡ true → bytes ≡ take c.value.length c.value.bytes → has_value edition (bytes_of bytes) ≡ suits edition c
suits_bytes edition c bytes sends is few read = rw (sends, is, few) (ap (λ (bs : List ℕ). has_value edition (bytes_of bs)) read)
