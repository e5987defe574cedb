-- A table into which ways are taken one by one tells the first of each entry.
use Rattle.std.proofs.Common.{◌≡◌, ◌<◌, ◌+◌, ◌==◌, ℕ, zero, suc, Bool, true, false, List, [], ◌∷◌, ◌++◌, length, replicate, refl, ap, ◌∙◌, sym, arith}
use Rattle.std.proofs.Common.{Option, None, Some, is_some, slice_index_or, slice_set, append-nil, append_assoc, find}
use Rattle.std.specs.List.{fold}
use Rattle.std.specs.Option.{option_map, option_or}
use Rattle.std.specs.Prelude.{cond}
use Rattle.std.proofs.lemmas.Bool.{eqb-true, eqb-false}
use Rattle.std.proofs.lemmas.List.{get_or-set_same, get_or-set_other, length-set, length-replicate}
use Rattle.std.proofs.lemmas.List.Folds.{find-append}
use Rattle.std.proofs.lemmas.List.Sums.{fold-append}
use Rattle.std.proofs.lemmas.Option.{slice_get-get_or}
use Rattle.hub_base.specs.Entry.{Entry}
use Rattle.hub_story.specs.declared.told.Told.{Told}
use Rattle.hub_story.specs.Partners.{AreIn, partner_in, with_way, ways_of, ways_from}

-- so many places, each of which tells the first way of its entry
record Tells (pairs : List (ℕ × ℕ)) (count : ℕ) (table : List (Option ℕ)) : Type 0 where
  pub length : length table ≡ count
  pub each : (place : ℕ) → place < count → slice_index_or table place None ≡ partner_in pairs place

or-none : {A : Type 0} (o : Option A) → o ≡ option_or o None
or-none None = refl
or-none (Some x) = refl

map-or : {A B : Type 0} (f : A → B) (o p : Option A) → option_map f (option_or o p) ≡ option_or (option_map f o) (option_map f p)
map-or f None p = refl
map-or f (Some x) p = refl

way-with : (table : List (Option ℕ)) (from to place : ℕ) → place < length table →
    slice_index_or (with_way table (from, to)) place None ≡ option_or (slice_index_or table place None) (partner_in ((from, to) ∷ []) place)
way-with table from to place below = by (from == place) (slice_index_or table from None) refl refl
  where
    by : (own : Bool) (o : Option ℕ) → own ≡ (from == place) → o ≡ slice_index_or table from None →
        slice_index_or (cond (is_some o) table (slice_set table from (Some to))) place None
        ≡ option_or (slice_index_or table place None) (option_map (λ (w : ℕ × ℕ). w.1) (cond own (Some (from, to)) None))
    by false (Some x) own is = or-none (slice_index_or table place None)
    by false None own is =
        get_or-set_other table from place (Some to) None (λ e. eqb-false from place (sym own) (sym e)) ∙ or-none (slice_index_or table place None)
    by true (Some x) own is =
        let same : from ≡ place = eqb-true from place (sym own) in
        let here : slice_index_or table place None ≡ Some x = ap (λ k. slice_index_or table k None) (sym same) ∙ sym is in
        here ∙ ap (λ o. option_or o (Some to)) (sym here)
    by true None own is =
        let same : from ≡ place = eqb-true from place (sym own) in
        let here : slice_index_or table place None ≡ None = ap (λ k. slice_index_or table k None) (sym same) ∙ sym is in
        ap (λ k. slice_index_or (slice_set table k (Some to)) place None) same ∙ get_or-set_same table place (Some to) None below
        ∙ ap (λ o. option_or o (Some to)) (sym here)

length-way : (table : List (Option ℕ)) (w : ℕ × ℕ) → length (with_way table w) ≡ length table
length-way table w = by (is_some (slice_index_or table w.0 None))
  where
    by : (b : Bool) → length (cond b table (slice_set table w.0 (Some w.1))) ≡ length table
    by true = refl
    by false = length-set table w.0 (Some w.1)

one-more : (done : List (ℕ × ℕ)) (count : ℕ) (table : List (Option ℕ)) (w : ℕ × ℕ) → Tells done count table → Tells (done ++ w ∷ []) count (with_way table w)
one-more done count table w so = record {
  length = length-way table w ∙ so.length;
  each = λ place few.
      way-with table w.0 w.1 place (omega (arith, few, so.length))
      ∙ ap (λ o. option_or o (partner_in (w ∷ []) place)) (so.each place few)
      ∙ sym (map-or (λ w. w.1) (find (λ w. w.0 == place) done) (find (λ w. w.0 == place) (w ∷ [])))
      ∙ sym (ap (option_map (λ w. w.1)) (find-append (λ w. w.0 == place) done (w ∷ [])));
}

all-more : (done pairs : List (ℕ × ℕ)) (count : ℕ) (table : List (Option ℕ)) → Tells done count table → Tells (done ++ pairs) count (fold with_way table pairs)
all-more done [] count table so = rw (append-nil done) so
all-more done (w ∷ ws) count table so =
    rw (sym (append_assoc done (w ∷ []) ws)) (all-more (done ++ w ∷ []) ws count (with_way table w) (one-more done count table w so))

none-yet : (count place : ℕ) → slice_index_or (replicate count None) place None ≡ partner_in [] place
none-yet zero place = refl
none-yet (suc n) zero = refl
none-yet (suc n) (suc place) = none-yet n place

pub table-tells : (pairs : List (ℕ × ℕ)) (count : ℕ) → AreIn pairs count (fold with_way (replicate count None) pairs)
table-tells pairs count =
    let so = all-more [] pairs count (replicate count None) (record { length = length-replicate count None; each = λ place few. none-yet count place }) in
    record {
      length = so.length;
      each = λ place few.
          slice_get-get_or (fold with_way (replicate count None) pairs) place None (omega (arith, few, so.length)) ∙ ap Some (so.each place few);
    }

-- ---- port by port
ways-more : (es : List Entry) (all : List Told) (number n : ℕ) → ways_from es all number (n + 1) ≡ ways_from es all number n ++ ways_of es all (number + n)
ways-more es all number zero =
    let same : number ≡ number + 0 = omega arith in
    append-nil (ways_of es all number) ∙ ap (ways_of es all) same
ways-more es all number (suc n) =
    let same : (number + 1) + n ≡ number + suc n = omega arith in
    let next : suc n + 1 ≡ suc (n + 1) = omega arith in
    ap (ways_from es all number) next ∙ ap (λ l. ways_of es all number ++ l) (ways-more es all (number + 1) n)
    ∙ sym (append_assoc (ways_of es all number) (ways_from es all (number + 1) n) (ways_of es all ((number + 1) + n)))
    ∙ ap (λ k. (ways_of es all number ++ ways_from es all (number + 1) n) ++ ways_of es all k) same

pub port-more : (es : List Entry) (all : List Told) (n : ℕ) (first table new : List (Option ℕ)) → table ≡ fold with_way first (ways_from es all 1 n) →
    new ≡ fold with_way table (ways_of es all (n + 1)) → new ≡ fold with_way first (ways_from es all 1 (n + 1))
port-more es all n first table new so is =
    let same : n + 1 ≡ 1 + n = omega arith in
    is ∙ ap (λ l. fold with_way l (ways_of es all (n + 1))) so ∙ sym (fold-append with_way first (ways_from es all 1 n) (ways_of es all (n + 1)))
    ∙ ap (λ k. fold with_way first (ways_from es all 1 n ++ ways_of es all k)) same
    ∙ ap (fold with_way first) (sym (ways-more es all 1 n))
