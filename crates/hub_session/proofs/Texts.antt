-- The pieces of a journal's text, some at a time.
use Rattle.std.specs.Prelude.{◌≡◌, ◌≤◌, ◌<◌, ◌+◌, ◌-◌, ◌++◌, ◌∷◌, [], ℕ, Bool, List, Option, None, Some}
use Rattle.std.specs.Prelude.{Result, IfOk, false, drop, length, slice_get, take, true}
use Rattle.std.proofs.Common.{◌∙◌, ap, arith, inl, refl, subst, suc, sym, zero}
use Rattle.std.proofs.lemmas.List.{flat_map_more}
use Rattle.std.proofs.lemmas.Option.{slice_get-map, slice_get_within}
use Rattle.hub_base.specs.declared.head.Head.{Head}
use Rattle.hub_base.specs.declared.read_fault.NoMemory.{NoMemory}
use Rattle.hub_base.specs.Entry.{Entry}
use Rattle.hub_base.specs.Journal.{JournalView}
use Rattle.hub_laws.proofs.Totals.{take_next}
use Rattle.hub_session.specs.declared.structs.PieceC.{PieceC}
use Rattle.hub_session.specs.declared.structs.TheConstants.{WRITTEN}
use Rattle.hub_session.specs.Pieces.{Puts, PutsSome, Reads, joined, none_told, piece_of, pieces, wants_told}

-- a piece behind the first is the line of the entry before it
pub piece_at : (j : JournalView) (number : ℕ) → piece_of j.head number (slice_get j.entries (number - 1)) ≡ slice_get (pieces j) number
piece_at j zero = refl
piece_at j (suc n) = let before : suc n - 1 ≡ n = omega arith in rw (before, slice_get-map) refl

get-drop : (ps : List (List ℕ)) (first count n : ℕ) → n ≡ first + count → slice_get (drop first ps) count ≡ slice_get ps n
get-drop ps zero count n is = let same : count ≡ n = omega (arith, is) in ap (slice_get ps) same
get-drop [] (suc first) count n is = refl
get-drop (p ∷ ps) (suc first) count zero is = absurd (omega (arith, is))
get-drop (p ∷ ps) (suc first) count (suc n) is = get-drop ps first count n (omega (arith, is))

more : (left : List (List ℕ)) (count : ℕ) (was now after : List ℕ) (o : Option (List ℕ)) → slice_get left count ≡ o
    → PutsSome left count was now → Puts o true now after → PutsSome left (count + 1) was after
more left count was now after None at so_far (wrong, put) = cc wrong
more left count was now after (Some piece) at so_far (there, put) =
    record {
      there = let low = slice_get_within left count piece at in omega (arith, low);
      put = put ∙ ap (λ xs. xs ++ piece) so_far.put ∙ flat_map_more (λ p. p) was (take count left) piece
          ∙ ap (λ ps. was ++ joined ps) (sym (take_next left count piece at));
    }

-- one piece more
pub one_more : (ps : List (List ℕ)) (first count number : ℕ) (was now after : List ℕ) → number ≡ first + count
    → PutsSome (drop first ps) count was now → Puts (slice_get ps number) true now after → PutsSome (drop first ps) (count + 1) was after
one_more ps first count number was now after is so_far puts =
    more (drop first ps) count was now after (slice_get (drop first ps) count) refl so_far
    (subst (λ o. Puts o true now after) (sym (get-drop ps first count number is)) puts)

-- what was put of a journal, by its head and the entry at the piece's place
pub put_there : (r : Result Bool NoMemory) (was now : List ℕ) (j : JournalView) (head : Head) (entry : Option Entry) (place number : ℕ)
    (ps : List (List ℕ)) → head ≡ j.head → entry ≡ slice_get j.entries place → place ≡ number - 1 → ps ≡ pieces j
    → IfOk r (λ there. Puts (piece_of head number entry) there was now) → IfOk r (λ there. Puts (slice_get ps number) there was now)
put_there r was now j head entry place number ps head_is entry_is place_is all put =
    let at : piece_of head number entry ≡ slice_get ps number = rw (head_is, entry_is, place_is, all) (piece_at j number) in
    subst (λ (o : Option (List ℕ)). IfOk r (λ there. Puts o there was now)) at put

-- ---- a reading

-- a piece that was put where nothing stood
pub puts_first : (o : Option (List ℕ)) (there : Bool) (was first : List ℕ) → there ≡ true → was ≡ [] → Puts o there was first → Puts o true [] first
puts_first o there was first so none puts = subst (λ (x : Bool × List ℕ). Puts o x.0 x.1 first) (λ i. (so i, none i)) puts

-- the piece that was found is the first of those that are left
found : (ps : List (List ℕ)) (number : ℕ) (first : List ℕ) → Puts (slice_get ps number) true [] first → drop number ps ≡ first ∷ drop (suc number) ps
found [] zero first (wrong, put) = cc wrong
found [] (suc number) first (wrong, put) = cc wrong
found (p ∷ ps) zero first (there, put) = ap (λ x. x ∷ ps) (sym put)
found (p ∷ ps) (suc number) first puts = found ps number first puts

none_left : (ps : List (List ℕ)) (number : ℕ) (was now : List ℕ) → Puts (slice_get ps number) false was now → drop number ps ≡ []
none_left [] zero was now puts = refl
none_left [] (suc number) was now puts = refl
none_left (p ∷ ps) zero was now (wrong, put) = cc wrong
none_left (p ∷ ps) (suc number) was now puts = none_left ps number was now puts

pub reads_none : (ps : List (List ℕ)) (number : ℕ) (was now place : List ℕ) (told : PieceC) → Puts (slice_get ps number) false was now
    → told ≡ none_told → Reads (drop number ps) place place told
reads_none ps number was now place told puts is =
    subst (λ left. Reads left place place told) (sym (none_left ps number was now puts)) (inl (is, refl))

pub reads_no_room : (ps : List (List ℕ)) (number : ℕ) (first place : List ℕ) (told : PieceC) → Puts (slice_get ps number) true [] first
    → length place < length first → told ≡ wants_told first → Reads (drop number ps) place place told
reads_no_room ps number first place told puts long is =
    subst (λ left. Reads left place place told) (sym (found ps number first puts))
    (inl (record { written = λ fits. absurd (omega (arith, long, fits)); no_room = λ _. (is, refl) }))

pub reads_some : (ps : List (List ℕ)) (number more count : ℕ) (first all place after : List ℕ) (told : PieceC)
    → Puts (slice_get ps number) true [] first → PutsSome (drop (number + 1) ps) more first all → length first ≤ length place
    → length all ≤ length place → count ≡ 1 + more → told ≡ record { what = WRITTEN; count = count; length = length all }
    → after ≡ all ++ drop (length all) place → Reads (drop number ps) place after told
reads_some ps number more count first all place after told puts behind fits all_fit count_is is after_is =
    let next : number + 1 ≡ suc number = omega arith in
    let left = drop (suc number) ps in
    let some : PutsSome left more first all = subst (λ n. PutsSome (drop n ps) more first all) next behind in
    let counts : told.count ≡ suc more = ap (λ (t : PieceC). t.count) is ∙ count_is ∙ (let one : 1 + more ≡ suc more = omega arith in one) in
    let together : joined (take told.count (first ∷ left)) ≡ all = ap (λ n. joined (take n (first ∷ left))) counts ∙ sym some.put in
    subst (λ left. Reads left place after told) (sym (found ps number first puts)) (inl (record {
      written = λ _. record {
        some = omega (arith, counts);
        there = omega (arith, counts, some.there);
        tells = rw together (is ∙ (λ i. record { what = WRITTEN; count = (sym (ap (λ (t : PieceC). t.count) is)) i; length = length all }));
        fits = omega (arith, ap (λ (t : PieceC). t.length) is, all_fit);
        now_is = rw (together, ap (λ (t : PieceC). t.length) is) after_is;
      };
      no_room = λ long. absurd (omega (arith, long, fits));
    }))
