-- The arrows of a port, one receive after the other.
use Rattle.std.proofs.Common.{◌≡◌, ◌≤◌, ◌<◌, ◌+◌, ◌∙◌, ℕ, Bool, true, false, cond, List, [], ◌∷◌, ◌++◌, length, drop, get_or, map, filter}
use Rattle.std.proofs.Common.{refl, ap, sym, add-one, append-nil, append_assoc, is_some, Option, None, Some}
use Rattle.std.specs.List.{cons_option, filter_map}
use Rattle.std.proofs.Math.Seq.{drop-cons}
use Rattle.std.proofs.lemmas.List.{drop_all}
use Rattle.hub_base.specs.declared.value.Port.{Port}
use Rattle.hub_base.specs.declared.value.Value.{Value}
use Rattle.hub_base.specs.declared.case.Case.{Case}
use Rattle.hub_base.specs.declared.event.Outcome.{Outcome}
use Rattle.hub_base.specs.Entry.{Entry}
use Rattle.hub_story.specs.declared.moved.Moved.{Moved}
use Rattle.hub_story.specs.declared.moved.Passage.{Passage}
use Rattle.hub_story.specs.declared.told.Told.{Told}
use Rattle.hub_story.specs.declared.window.Window.{Window}
use Rattle.hub_story.specs.Passing.{beside, moved_by}
use Rattle.hub_picture.specs.declared.arrows.Arrow.{Arrow}
use Rattle.hub_picture.specs.Drawings.{arrow_on, arrows_on, crosses}

-- what is told at a place, and behind it
pub moved-next : (pick : Option Case → Outcome → Option Value) (es : List Entry) (ts : List Told) (i : ℕ) (d : Told) (o : Option Moved) → i < length ts →
    o ≡ moved_by pick es (get_or ts i d) →
    filter_map (moved_by pick es) (drop i ts) ≡ cons_option o (filter_map (moved_by pick es) (drop (i + 1) ts))
moved-next pick es ts i d o below is =
    ap (filter_map (moved_by pick es)) (drop-cons ts i d below)
    ∙ ap (λ k. cons_option (moved_by pick es (get_or ts i d)) (filter_map (moved_by pick es) (drop k ts))) (sym (add-one i))
    ∙ ap (λ m. cons_option m (filter_map (moved_by pick es) (drop (i + 1) ts))) (sym is)

-- what an option has, by the test of it
pub is-some : {A : Type 0} (o : Option A) → is_some o ≡ true → (x : A) × (o ≡ Some x)
is-some None is = absurd cc
is-some (Some x) is = (x, refl)

pub is-none : {A : Type 0} (o : Option A) → is_some o ≡ false → o ≡ None
is-none None is = refl
is-none (Some x) is = absurd cc

pub moved-none : (pick : Option Case → Outcome → Option Value) (es : List Entry) (ts : List Told) (i : ℕ) → length ts ≤ i →
    filter_map (moved_by pick es) (drop i ts) ≡ []
moved-none pick es ts i past = ap (filter_map (moved_by pick es)) (drop_all i ts past)

-- ---- the arrows so far, and those that are left
none-beside : (xs : List Moved) → beside xs [] ≡ []
none-beside [] = refl
none-beside (x ∷ xs) = refl

one-arrow : (w : Window) (p : Port) (m : Passage) (ms : List Passage) → arrows_on w p (m ∷ ms) ≡ arrows_on w p (m ∷ []) ++ arrows_on w p ms
one-arrow w p m ms = by (crosses w m)
  where
    by : (b : Bool) → map (arrow_on p) (cond b (m ∷ filter (crosses w) ms) (filter (crosses w) ms))
        ≡ map (arrow_on p) (cond b (m ∷ []) []) ++ arrows_on w p ms
    by true = refl
    by false = refl

-- no send is left, and no receive
pub no-receive-left : (w : Window) (p : Port) (arrows text : List Arrow) (xs ys : List Moved) → ys ≡ [] →
    arrows ++ arrows_on w p (beside xs ys) ≡ text → arrows ≡ text
no-receive-left w p arrows text xs ys none so =
    sym (ap (λ l. arrows ++ arrows_on w p (beside xs l)) none ∙ ap (λ l. arrows ++ arrows_on w p l) (none-beside xs) ∙ append-nil arrows) ∙ so

-- one of each
pub next-arrow : (w : Window) (p : Port) (arrows new text : List Arrow) (x y : Moved) (xs ys xs-left ys-left : List Moved) →
    new ≡ arrows ++ arrows_on w p (record { sent = x; received = y } ∷ []) → xs ≡ x ∷ xs-left → ys ≡ y ∷ ys-left →
    arrows ++ arrows_on w p (beside xs ys) ≡ text → new ++ arrows_on w p (beside xs-left ys-left) ≡ text
next-arrow w p arrows new text x y xs ys xs-left ys-left is sent received so =
    let m : Passage = record { sent = x; received = y } in
    let rest : List Passage = beside xs-left ys-left in
    ap (λ l. l ++ arrows_on w p rest) is ∙ append_assoc arrows (arrows_on w p (m ∷ [])) (arrows_on w p rest)
    ∙ ap (λ l. arrows ++ l) (sym (one-arrow w p m rest))
    ∙ sym (ap (λ l. arrows ++ arrows_on w p (beside l ys)) sent ∙ ap (λ l. arrows ++ arrows_on w p (beside (x ∷ xs-left) l)) received) ∙ so

-- a thing that tells of no receive
pub same-arrows : (w : Window) (p : Port) (arrows text : List Arrow) (xs ys ys-left : List Moved) → ys ≡ ys-left →
    arrows ++ arrows_on w p (beside xs ys) ≡ text → arrows ++ arrows_on w p (beside xs ys-left) ≡ text
same-arrows w p arrows text xs ys ys-left same so = sym (ap (λ l. arrows ++ arrows_on w p (beside xs l)) same) ∙ so
