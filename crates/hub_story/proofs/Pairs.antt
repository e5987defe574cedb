-- The calls that moved values through a port, one by one: their places are those of the port's sends and receives.
use Rattle.std.proofs.Common.{◌≡◌, ◌≤◌, ◌<◌, ◌+◌, ℕ, zero, suc, zero-le, List, [], ◌∷◌, length, map, min, refl, ap, ◌∙◌, sym, arith, get_or, drop, add-one}
use Rattle.std.specs.List.{flat_map}
use Rattle.std.proofs.Math.Seq.{drop-cons}
use Rattle.std.proofs.lemmas.List.{drop_all}
use Rattle.hub_base.specs.declared.value.Port.{Port}
use Rattle.hub_base.specs.Entry.{Entry}
use Rattle.hub_story.specs.declared.told.Told.{Told}
use Rattle.hub_story.specs.declared.moved.Moved.{Moved}
use Rattle.hub_story.specs.declared.port_moves.PortMoves.{PortMoves}
use Rattle.hub_story.specs.OfPorts.{things_on}
use Rattle.hub_story.specs.Passing.{beside, receives, sends}
use Rattle.hub_story.specs.PortMoves.{AreMoves, move_at}
use Rattle.hub_story.specs.Partners.{both_ways, paired, places_of, ways_of}

abbrev asked : Moved → ℕ
asked m = m.told.asked

places-asked : (ms : List Moved) → places_of (map move_at ms) ≡ map asked ms
places-asked [] = refl
places-asked (m ∷ ms) = ap (λ l. m.told.asked ∷ l) (places-asked ms)

-- ---- places beside places
pairs-beside : (xs ys : List Moved) → flat_map both_ways (beside xs ys) ≡ paired (map asked xs) (map asked ys)
pairs-beside [] ys = refl
pairs-beside (x ∷ xs) [] = refl
pairs-beside (x ∷ xs) (y ∷ ys) =
    ap (λ l. (x.told.asked, y.told.asked) ∷ (y.told.asked, x.told.asked) ∷ l) (pairs-beside xs ys)

pub ways-paired : (es : List Entry) (all : List Told) (moves : PortMoves) → AreMoves es all moves → (number : ℕ) →
    paired (places_of (things_on moves.sent (record { 0 = number }))) (places_of (things_on moves.received (record { 0 = number })))
    ≡ ways_of es all number
ways-paired es all moves so number =
    let p : Port = record { 0 = number } in
    ap (λ l. paired l (places_of (things_on moves.received p))) (ap places_of (so.sent p) ∙ places-asked (sends es all p))
    ∙ ap (paired (map asked (sends es all p))) (ap places_of (so.received p) ∙ places-asked (receives es all p))
    ∙ sym (pairs-beside (sends es all p) (receives es all p))

-- two more
pub pairs-next : (xs ys : List ℕ) (i d : ℕ) → i < length xs → i < length ys →
    paired (drop i xs) (drop i ys) ≡ (get_or xs i d, get_or ys i d) ∷ (get_or ys i d, get_or xs i d) ∷ paired (drop (i + 1) xs) (drop (i + 1) ys)
pairs-next xs ys i d hx hy = rw (add-one i, drop-cons xs i d hx, drop-cons ys i d hy) refl

no-partners : (xs : List ℕ) → paired xs [] ≡ []
no-partners [] = refl
no-partners (x ∷ xs) = refl

pub pairs-end : (xs ys : List ℕ) (i : ℕ) → min (length xs) (length ys) ≤ i → paired (drop i xs) (drop i ys) ≡ []
pairs-end [] ys i past = ap (λ l. paired l (drop i ys)) (drop_all i [] zero-le)
pairs-end (x ∷ xs) [] i past = ap (paired (drop i (x ∷ xs))) (drop_all i [] zero-le) ∙ no-partners (drop i (x ∷ xs))
pairs-end (x ∷ xs) (y ∷ ys) zero past = absurd (omega (arith, past))
pairs-end (x ∷ xs) (y ∷ ys) (suc i) past = pairs-end xs ys i (omega (arith, past))
