-- What is told of a port, by the places where it stands.
use Rattle.std.proofs.Common.{◌≡◌, ◌<◌, ◌+◌, ◌∙◌, ℕ, append-nil, get_or, length, take, Bool, true, false, cond, List, [], ◌∷◌, ◌++◌}
use Rattle.std.proofs.Common.{filter, map, refl, ap, sym, Option, None, Some, slice_get, arith}
use Rattle.std.specs.List.{filter_map}
use Rattle.std.specs.Option.{option_map}
use Rattle.std.proofs.lemmas.List.{length-map, map-append}
use Rattle.std.proofs.lemmas.List.Elements.{filter_more}
use Rattle.std.proofs.lemmas.Option.{get_or_from_slice_get, slice_get-get_or, slice_get-map, slice_get_within}
use Rattle.hub_base.specs.declared.value.Port.{Port}
use Rattle.hub_base.specs.Entry.{Entry}
use Rattle.hub_story.specs.declared.moves.Move.{Move}
use Rattle.hub_story.specs.declared.told.Told.{Told}
use Rattle.hub_story.specs.Moves.{move_of}
use Rattle.hub_story.specs.OfPorts.{one_of}
use Rattle.hub_picture.specs.Moves.{StandAt, all_at, is_through, is_told_on, place_on}

-- ---- what stands at places
-- the option that is in an option
abbrev inner : {X : Type 0} → Option (Option X) → Option X
inner None = None
inner (Some o) = o

inner-Some : {X : Type 0} (o : Option X) → inner (option_map Some o) ≡ o
inner-Some None = refl
inner-Some (Some x) = refl

-- a reading that gives something of each item
all-kept : {X Y : Type 0} (f : X → Option Y) (xs : List X) (ys : List Y) → map f xs ≡ map Some ys → filter_map f xs ≡ ys
all-kept f xs ys so = through f xs ∙ ap (filter_map (λ o. o)) so ∙ back ys
  where
    through : {X Y : Type 0} (f : X → Option Y) (xs : List X) → filter_map f xs ≡ filter_map (λ o. o) (map f xs)
    through f [] = refl
    through f (x ∷ xs) = rw (through f xs) refl

    back : {Y : Type 0} (ys : List Y) → filter_map (λ o. o) (map Some ys) ≡ ys
    back [] = refl
    back (y ∷ ys) = ap (λ l. y ∷ l) (back ys)

pub these-are : (all : List Told) (places : List ℕ) (these : List Told) → StandAt all places these → all_at all places ≡ these
these-are all places these so = all-kept (slice_get all) places these so

pub themselves : (all : List Told) (places : List ℕ) (these : List Told) → StandAt all places these → StandAt all places (all_at all places)
themselves all places these so = so ∙ ap (map Some) (sym (these-are all places these so))

pub as-many : (all : List Told) (places : List ℕ) (these : List Told) → StandAt all places these → length places ≡ length these
as-many all places these so = sym (length-map places (slice_get all)) ∙ ap length so ∙ length-map these Some

-- what has a number among these
the-same : (all : List Told) (places : List ℕ) (these : List Told) (i k : ℕ) → StandAt all places these → slice_get places i ≡ Some k →
    slice_get all k ≡ slice_get these i
the-same all places these i k so at =
    ap inner (sym (slice_get-map (slice_get all) places i ∙ ap (option_map (slice_get all)) at)
    ∙ ap (λ l. slice_get l i) so ∙ slice_get-map Some these i)
    ∙ inner-Some (slice_get these i)

-- an item, where there is one
one-of : {X : Type 0} (xs : List X) (i : ℕ) → i < length xs → X
one-of [] i below = absurd (omega (arith, below))
one-of (x ∷ xs) i below = x

at-place : (all : List Told) (places : List ℕ) (these : List Told) (i : ℕ) (d : Told) → StandAt all places these → i < length these →
    slice_get all (get_or places i 0) ≡ Some (get_or these i d)
at-place all places these i d so below =
    the-same all places these i (get_or places i 0) so (slice_get-get_or places i 0 (omega (arith, below, as-many all places these so)))
    ∙ slice_get-get_or these i d below

pub place-within : (all : List Told) (places : List ℕ) (these : List Told) (i : ℕ) → StandAt all places these → i < length these →
    get_or places i 0 < length all
place-within all places these i so below =
    slice_get_within all (get_or places i 0) _ (at-place all places these i (one-of these i below) so below)

pub read-there : (all : List Told) (places : List ℕ) (these : List Told) (i : ℕ) (d : Told) → StandAt all places these → i < length these →
    get_or all (get_or places i 0) d ≡ get_or these i (get_or all (get_or places i 0) d)
read-there all places these i d so below =
    let k = get_or places i 0 in
    get_or_from_slice_get all k _ d (at-place all places these i (get_or all k d) so below)

-- ---- one thing more
one-place : (all : List Told) (i : ℕ) (t : Told) (b : Bool) → slice_get all i ≡ Some t →
    map (slice_get all) (cond b (i ∷ []) []) ≡ map Some (cond b (t ∷ []) [])
one-place all i t true at = ap (λ o. o ∷ []) at
one-place all i t false at = refl

pub place-next : (es : List Entry) (all : List Told) (p : Port) (i : ℕ) (d : Told) (old new : List ℕ) → i < length all →
    StandAt all old (filter (is_told_on es p) (take i all)) → new ≡ old ++ place_on es p (get_or all i d) i →
    StandAt all new (filter (is_told_on es p) (take (i + 1) all))
place-next es all p i d old new below so is =
    let t : Told = get_or all i d in
    let one : List Told = cond (is_told_on es p t) (t ∷ []) [] in
    ap (map (slice_get all)) is ∙ map-append (slice_get all) old (place_on es p t i)
    ∙ ap (λ l. l ++ map (slice_get all) (place_on es p t i)) so
    ∙ ap (λ l. map Some (filter (is_told_on es p) (take i all)) ++ l) (one-place all i t (is_told_on es p t) (slice_get-get_or all i d below))
    ∙ sym (map-append Some (filter (is_told_on es p) (take i all)) one)
    ∙ ap (map Some) (sym (filter_more (is_told_on es p) all i d below))

-- what is told of no port
pub place-none : (es : List Entry) (q : Port) (t : Told) (place : ℕ) (old : List ℕ) → move_of es t ≡ None → old ≡ old ++ place_on es q t place
place-none es q t place old none = sym (ap (λ o. old ++ cond (is_through q o) (place ∷ []) []) none ∙ append-nil old)

-- and where one did
pub place-one : (es : List Entry) (q : Port) (m : Move) (t : Told) (place : ℕ) → move_of es t ≡ Some m → one_of m.port q place ≡ place_on es q t place
place-one es q m t place is = sym (ap (λ o. cond (is_through q o) (place ∷ []) []) is)
