-- Pieces that are appended one behind the other.
use Rattle.std.proofs.Common.{◌≡◌, ℕ, ◌+◌, ◌<◌, ◌≤◌, Result, Ok, Err, List, [], ◌∷◌, ◌++◌, length, take, drop, get_or, codes, ap, refl, ◌∙◌, sym, subst, arith}
use Rattle.std.proofs.Common.{append_assoc, append-nil, length-append, add-one}
use Rattle.std.proofs.lemmas.Grind.{flat_map-append}
use Rattle.std.proofs.lemmas.List.{take_all, take-append-drop}
use Rattle.std.proofs.lemmas.List.Concat.{flat_map-cons}
use Rattle.std.proofs.Math.Seq.{take-suc}
use Rattle.std.specs.Global.{Vec}
use Rattle.std.specs.List.{flat_map}
use Rattle.std.specs.Prelude.{if◌then◌else◌, is_ok, IsOk}
use Rattle.std.specs.Result.{IsErr}
use Rattle.std.specs.Vec.{vec_capacity}
use Rattle.hub_base.specs.declared.case.Case.{Case}
use Rattle.hub_base.specs.Lines.{case_field}
use Rattle.hub_text.specs.Writing.{Appends, HasRoomFor, spaced_cases}

-- all of some bytes was appended, or none of them
pub appends-all : {E : Type 0} (old new : Vec ℕ) (text : List ℕ) (r : Result (Unit {0}) E)
    → new.items ≡ (if is_ok r then old.items ++ text else old.items) → vec_capacity old ≤ vec_capacity new → (HasRoomFor old text → IsOk r)
    → Appends old new text r
appends-all old new text (Ok done) items capacity room = record { ok = items; err = tt; capacity = capacity; succeeds = room }
appends-all old new text (Err e) items capacity room =
    record { ok = tt; err = ([], items ∙ sym (append-nil old.items)); capacity = capacity; succeeds = room }

-- a piece behind one that is all there
pub appends-then : {E : Type 0} {a b c : Vec ℕ} {x y : List ℕ} {done : Unit {0}} {r : Result (Unit {0}) E} → Appends {E = E} a b x (Ok done)
    → Appends {E = E} b c y r → Appends {E = E} a c (x ++ y) r
appends-then {E} {a} {b} {c} {x} {y} {done} {r} first next = by r next where
  by : (r : Result (Unit {0}) E) → Appends b c y r → Appends a c (x ++ y) r
  by (Ok more) next = record {
    ok = next.ok ∙ ap (λ t. t ++ y) first.ok ∙ append_assoc a.items x y;
    err = tt;
    capacity = omega (arith, first.capacity, next.capacity);
    succeeds = λ room. refl;
  }
  by (Err e) next = record {
    ok = tt;
    err = (x ++ next.err.0, next.err.1 ∙ ap (λ t. t ++ next.err.0) first.ok ∙ append_assoc a.items x next.err.0);
    capacity = omega (arith, first.capacity, next.capacity);
    succeeds = λ room. next.succeeds (omega (arith, room, first.capacity, ap length first.ok, length-append a.items x, length-append x y));
  }

-- a refusal leaves a part of what was to be appended, whatever was to stand behind that
pub appends-part : {E : Type 0} {a b : Vec ℕ} {x : List ℕ} {e : E} (y : List ℕ) (r : Result (Unit {0}) E) → Appends {E = E} a b x (Err e) → IsErr r
    → Appends {E = E} a b (x ++ y) r
appends-part {E} {a} {b} {x} {e} y (Ok done) first refused = cc
appends-part {E} {a} {b} {x} {e} y (Err f) first refused = record {
  ok = tt;
  err = first.err;
  capacity = first.capacity;
  succeeds = λ room. first.succeeds (omega (arith, room, length-append x y));
}

module _ {X : Type 0} (f : X → List ℕ) (xs : List X) (i : ℕ) where
  one-more : (d : X) → i < length xs → flat_map f (take (i + 1) xs) ≡ flat_map f (take i xs) ++ f (get_or xs i d)
  one-more d inside = ap (flat_map f) (rw (add-one) (take-suc xs i d inside)) ∙ flat_map-append f (take i xs) (get_or xs i d ∷ [])
      ∙ ap (λ t. flat_map f (take i xs) ++ t) (flat_map-cons f (get_or xs i d) [] ∙ append-nil (f (get_or xs i d)))

  -- the text of one more element
  pub each-more : {E : Type 0} {a b c : Vec ℕ} {x : X} {done : Unit {0}} {r : Result (Unit {0}) E} (d : X) → i < length xs → x ≡ get_or xs i d
      → Appends {E = E} a b (flat_map f (take i xs)) (Ok done) → Appends {E = E} b c (f x) r → Appends {E = E} a c (flat_map f (take (i + 1) xs)) r
  each-more {E} {a} {b} {c} {x} {done} {r} d inside is so one =
      subst (λ t. Appends {E = E} a c t r) (sym (one-more d inside)) (appends-then so (subst (λ y. Appends {E = E} b c (f y) r) is one))

  -- of all of them
  pub each-done : {E : Type 0} {a b : Vec ℕ} {r : Result (Unit {0}) E} → length xs ≤ i → Appends {E = E} a b (flat_map f (take i xs)) r
      → Appends {E = E} a b (flat_map f xs) r
  each-done {E} {a} {b} {r} past so = subst (λ ys. Appends a b (flat_map f ys) r) (take_all i xs past) so

  -- of some of them
  pub each-part : {E : Type 0} {a b : Vec ℕ} {e : E} (r : Result (Unit {0}) E) → Appends {E = E} a b (flat_map f (take (i + 1) xs)) (Err e) → IsErr r
      → Appends {E = E} a b (flat_map f xs) r
  each-part {E} {a} {b} {e} r so refused = subst (λ t. Appends a b t r) whole (appends-part (flat_map f (drop (i + 1) xs)) r so refused) where
    whole : flat_map f (take (i + 1) xs) ++ flat_map f (drop (i + 1) xs) ≡ flat_map f xs
    whole = sym (flat_map-append f (take (i + 1) xs) (drop (i + 1) xs)) ∙ ap (flat_map f) (take-append-drop (i + 1) xs)

-- a case field behind a space
abbrev pub spaced_case : Case → List ℕ
spaced_case c = codes " " ++ case_field c

-- the cases behind their spaces are each of them behind its own
pub spaced-flat : (cs : List Case) → flat_map spaced_case cs ≡ spaced_cases cs
spaced-flat [] = refl
spaced-flat (c ∷ cs) = flat_map-cons spaced_case c cs ∙ ap (λ t. spaced_case c ++ t) (spaced-flat cs)
