-- A queue's entries, found and turned one by one.
use Rattle.std.proofs.Common.{◌≡◌, ℕ, ◌+◌, ◌++◌, ◌<◌, Bool, true, false, cond, List, [], ◌∷◌, refl, Some, None, arith}
use Rattle.std.proofs.Common.{drop, take, length, get_or, suc, zero, filter, find, slice_get, append_assoc}
use Rattle.std.proofs.lemmas.List.{drop_more, append-nil}
use Rattle.std.proofs.lemmas.List.Elements.{filter_more}
use Rattle.circular_buffer.specs.Buffer.{Buffer}
use Rattle.hub_parts.specs.declared.wait_queue.Waiter.{Waiter}
use Rattle.hub_parts.specs.Records.{Ticketed}
use Rattle.hub_parts.specs.Queues.{from_first, lives, passed, turned}

pub find_here : {X : Type 0} (test : X → Bool) (xs : List X) (i : ℕ) (x : X) → slice_get xs i ≡ Some x → test x ≡ true → find test (drop i xs) ≡ Some x
find_here test [] i x e t = cc
find_here test (y ∷ xs) zero x e t = let same : y ≡ x = cc in rw (same, t) refl
find_here test (y ∷ xs) (suc i) x e t = find_here test xs i x e t

pub find_past : {X : Type 0} (test : X → Bool) (xs : List X) (i : ℕ) (x : X) → slice_get xs i ≡ Some x → test x ≡ false
    → find test (drop (suc i) xs) ≡ find test (drop i xs)
find_past test [] i x e t = cc
find_past test (y ∷ xs) zero x e t = let same : y ≡ x = cc in rw (same, t) refl
find_past test (y ∷ xs) (suc i) x e t = find_past test xs i x e t

pub find_none : {X : Type 0} (test : X → Bool) (xs : List X) (i : ℕ) → slice_get xs i ≡ None → find test (drop (suc i) xs) ≡ find test (drop i xs)
find_none test [] zero e = refl
find_none test [] (suc i) e = refl
find_none test (y ∷ xs) zero e = cc
find_none test (y ∷ xs) (suc i) e = find_none test xs i e

turned_at : {X : Type 0} (test : X → Bool) (x : X) (rest front : List X)
    → turned test ((x ∷ rest) ++ filter test front) ≡ rest ++ (filter test front ++ cond (test x) (x ∷ []) [])
turned_at test x rest front =
    elim (test x) as (λ b. cond b ((rest ++ filter test front) ++ x ∷ []) (rest ++ filter test front) ≡ rest ++ (filter test front ++ cond b (x ∷ []) [])) [
      | true ↦ rw append_assoc refl
      | false ↦ rw append-nil refl
    ]

-- one turn of a list whose front was turned
pub turned_more : {X : Type 0} (test : X → Bool) (xs : List X) (i : ℕ) → i < length xs
    → turned test (drop i xs ++ filter test (take i xs)) ≡ drop (i + 1) xs ++ filter test (take (i + 1) xs)
turned_more test [] i h = absurd (omega arith)
turned_more test (y ∷ xs) i h =
    rw (drop_more (y ∷ xs) i y h, filter_more test (y ∷ xs) i y h) (turned_at test (get_or (y ∷ xs) i y) (drop (i + 1) (y ∷ xs)) (take i (y ∷ xs)))

-- the first passes, so nothing stands before it
from_here : {X : Type 0} (test : X → Bool) (xs : List X) (x : X) → slice_get xs 0 ≡ Some x → test x ≡ true → from_first test xs ≡ xs
from_here test [] x e t = refl
from_here test (y ∷ xs) x e t = let same : y ≡ x = cc in rw (same, t) refl

from_none : {X : Type 0} (test : X → Bool) (xs : List X) → slice_get xs 0 ≡ None → from_first test xs ≡ xs
from_none test [] e = refl
from_none test (y ∷ xs) e = cc

-- a queue from whose front dead entries were removed, and whose first is live
pub passed_to : (ws : List Ticketed) (now was : Buffer Waiter) (x : Waiter) → from_first (lives ws) now.items ≡ from_first (lives ws) was.items
    → now.capacity ≡ was.capacity → slice_get now.items 0 ≡ Some x → lives ws x ≡ true → now ≡ passed ws was
passed_to ws now was x e same here t = rw (← e, ← same, from_here (lives ws) now.items x here t) refl

pub passed_all : (ws : List Ticketed) (now was : Buffer Waiter) → from_first (lives ws) now.items ≡ from_first (lives ws) was.items
    → now.capacity ≡ was.capacity → slice_get now.items 0 ≡ None → now ≡ passed ws was
passed_all ws now was e same none = rw (← e, ← same, from_none (lives ws) now.items none) refl
