-- What the steps at some places add up to, with one place more.
use Rattle.std.proofs.Common.{Bool, List, [], add-one, ap, append-nil, append_assoc, arith, cond, false, get_or, length, map, max, refl}
use Rattle.std.proofs.Common.{replicate, slice_index_or, suc, sum, sym, take, true, zero, ℕ, ◌++◌, ◌+◌, ◌-◌, ◌<◌, ◌||◌, ◌∙◌, ◌∷◌, ◌≡◌, ◌≤◌}
use Rattle.std.specs.List.{count_by, flat_map, fold, list_any, range_with_len}
use Rattle.std.proofs.lemmas.Grind.{flat_map-append}
use Rattle.std.proofs.lemmas.List.Folds.{list_any_more}
use Rattle.std.proofs.lemmas.List.FromFn.{map-range_with_len_more, sum_by-map-range_with_len_more}
use Rattle.std.proofs.lemmas.List.Sums.{fold_push, sum_by_more}
use Rattle.hub_page.specs.Data.{block_begin, block_count}
use Rattle.hub_page.specs.Lanes.{one_if}
use Rattle.hub_page.specs.Places.{most_over, places, sum_over}

-- ---- one place more
one-more : (first end : ℕ) → first ≤ end → (end + 1) - first ≡ (end - first) + 1
one-more first end below = omega (arith, below)

there : (first end : ℕ) → first ≤ end → first + (end - first) ≡ end
there first end below = omega (arith, below)

pub sum-more : (amount : ℕ → ℕ) (first end : ℕ) → first ≤ end → sum_over amount first (end + 1) ≡ sum_over amount first end + amount end
sum-more amount first end below =
    ap (λ n. sum (map amount (range_with_len first n))) (one-more first end below)
    ∙ sum_by-map-range_with_len_more (λ (x : ℕ). x) amount first (end - first) end (there first end below)

pub most-more : (amount : ℕ → ℕ) (first end : ℕ) → first ≤ end → most_over amount first (end + 1) ≡ max (most_over amount first end) (amount end)
most-more amount first end below =
    ap (λ n. fold max 0 (map amount (range_with_len first n))) (one-more first end below)
    ∙ ap (fold max 0) (map-range_with_len_more amount first (end - first) end (there first end below))
    ∙ fold_push max 0 (map amount (places first end)) (amount end)

-- at no place
no-place : (first : ℕ) → first - first ≡ 0
no-place first = omega arith

pub sum-none : (amount : ℕ → ℕ) (first : ℕ) → sum_over amount first first ≡ 0
sum-none amount first = ap (λ n. sum (map amount (range_with_len first n))) (no-place first)

pub most-none : (amount : ℕ → ℕ) (first : ℕ) → most_over amount first first ≡ 0
most-none amount first = ap (λ n. fold max 0 (map amount (range_with_len first n))) (no-place first)

-- a table that is the same everywhere
pub all-same : {A : Type 0} (a : A) (n k : ℕ) → slice_index_or (replicate n a) k a ≡ a
all-same a zero k = refl
all-same a (suc n) zero = refl
all-same a (suc n) (suc k) = all-same a n k

-- ---- texts of places
range-more : (a n : ℕ) → range_with_len a (suc n) ≡ range_with_len a n ++ (a + n) ∷ []
range-more a zero = let same : a ≡ a + 0 = omega arith in ap (λ k. k ∷ []) same
range-more a (suc n) =
    let same : (a + 1) + n ≡ a + suc n = omega arith in
    ap (λ l. a ∷ l) (range-more (a + 1) n ∙ ap (λ k. range_with_len (a + 1) n ++ k ∷ []) same)

pub text-next : (f : ℕ → List ℕ) (a n : ℕ) → flat_map f (range_with_len a (n + 1)) ≡ flat_map f (range_with_len a n) ++ f (a + n)
text-next f a n =
    ap (λ k. flat_map f (range_with_len a k)) (add-one n) ∙ ap (flat_map f) (range-more a n)
    ∙ flat_map-append f (range_with_len a n) ((a + n) ∷ []) ∙ ap (λ l. flat_map f (range_with_len a n) ++ l) (append-nil (f (a + n)))

pub text-more : (f : ℕ → List ℕ) (first end : ℕ) → first ≤ end → flat_map f (places first (end + 1)) ≡ flat_map f (places first end) ++ f end
text-more f first end below =
    ap (λ n. flat_map f (range_with_len first n)) (one-more first end below) ∙ text-next f first (end - first)
    ∙ ap (λ k. flat_map f (places first end) ++ f k) (there first end below)

-- ---- one place more, behind another text
zero-left : (n : ℕ) → 0 + n ≡ n
zero-left n = omega arith

pub numbers-behind : (f : ℕ → List ℕ) (n : ℕ) (start was now : List ℕ) → was ≡ start ++ flat_map f (range_with_len 0 n) → now ≡ was ++ f n →
    now ≡ start ++ flat_map f (range_with_len 0 (n + 1))
numbers-behind f n start was now so next =
    next ∙ ap (λ l. l ++ f n) so ∙ append_assoc start (flat_map f (range_with_len 0 n)) (f n)
    ∙ ap (λ l. start ++ l)
    (ap (λ k. flat_map f (range_with_len 0 n) ++ f k) (sym (zero-left n)) ∙ sym (text-next f 0 n))

pub places-none : (f : ℕ → List ℕ) (first : ℕ) (start : List ℕ) → start ≡ start ++ flat_map f (places first first)
places-none f first start = sym (append-nil start) ∙ ap (λ n. start ++ flat_map f (range_with_len first n)) (sym (no-place first))

pub places-behind : (f : ℕ → List ℕ) (first end : ℕ) (start was now : List ℕ) → first ≤ end → was ≡ start ++ flat_map f (places first end) →
    now ≡ was ++ f end → now ≡ start ++ flat_map f (places first (end + 1))
places-behind f first end start was now below so next =
    next ∙ ap (λ l. l ++ f end) so ∙ append_assoc start (flat_map f (places first end)) (f end)
    ∙ ap (λ l. start ++ l) (sym (text-more f first end below))

-- ---- one event more
pub count-next : {X : Type 0} (p : X → Bool) (xs : List X) (i : ℕ) (x : X) (start was now : ℕ) → i < length xs → x ≡ get_or xs i x →
    was ≡ start + count_by p (take i xs) → now ≡ was + one_if (p x) → now ≡ start + count_by p (take (i + 1) xs)
count-next p xs i x start was now below is so next =
    let more : count_by p (take (i + 1) xs) ≡ count_by p (take i xs) + one_if (p x) =
    sum_by_more (λ y. cond (p y) 1 0) xs i x below ∙ ap (λ y. count_by p (take i xs) + one_if (p y)) (sym is) in
    omega (arith, next, so, more)

held : (a b : Bool) (start level was now : ℕ) → was ≡ cond a (max start level) start → now ≡ cond b (max was level) was →
    now ≡ cond (a || b) (max start level) start
held true true start level was now so next = omega (arith, so, next)
held true false start level was now so next = next ∙ so
held false true start level was now so next = next ∙ ap (λ n. max n level) so
held false false start level was now so next = next ∙ so

pub held-next : {X : Type 0} (p : X → Bool) (xs : List X) (i : ℕ) (x : X) (start level was now : ℕ) → i < length xs → x ≡ get_or xs i x →
    was ≡ cond (list_any p (take i xs)) (max start level) start → now ≡ cond (p x) (max was level) was →
    now ≡ cond (list_any p (take (i + 1) xs)) (max start level) start
held-next p xs i x start level was now below is so next =
    held (list_any p (take i xs)) (p x) start level was now so next
    ∙ ap (λ b. cond b (max start level) start)
    (ap (λ y. list_any p (take i xs) || p y) is ∙ sym (list_any_more p xs i x below))

-- where none moved, the most stays
pub most-is : (b : Bool) (most level : ℕ) → cond b (max most level) most ≡ max most (cond b level 0)
most-is true most level = refl
most-is false most level = omega arith

-- ---- the numbers before a number, and the others
range-split : (a n m : ℕ) → range_with_len a (n + m) ≡ range_with_len a n ++ range_with_len (a + n) m
range-split a n zero =
    let none : n + 0 ≡ n = omega arith in
    ap (range_with_len a) none ∙ sym (append-nil (range_with_len a n))
range-split a n (suc m) =
    let more : n + suc m ≡ suc (n + m) = omega arith in
    let last : a + (n + m) ≡ (a + n) + m = omega arith in
    ap (range_with_len a) more ∙ range-more a (n + m)
    ∙ ap (λ l. l ++ (a + (n + m)) ∷ []) (range-split a n m)
    ∙ append_assoc (range_with_len a n) (range_with_len (a + n) m) ((a + (n + m)) ∷ [])
    ∙ ap (λ k. range_with_len a n ++ (range_with_len (a + n) m ++ k ∷ [])) last
    ∙ ap (λ l. range_with_len a n ++ l) (sym (range-more (a + n) m))

-- what the numbers before this one say is a beginning of what all say
text-split : (f : ℕ → List ℕ) (n count : ℕ) → n ≤ count →
    flat_map f (range_with_len 0 count) ≡ flat_map f (range_with_len 0 n) ++ flat_map f (range_with_len (0 + n) (count - n))
text-split f n count few =
    let parts : count ≡ n + (count - n) = omega arith in
    ap (λ k. flat_map f (range_with_len 0 k)) parts ∙ ap (flat_map f) (range-split 0 n (count - n))
    ∙ flat_map-append f (range_with_len 0 n) (range_with_len (0 + n) (count - n))

text-from : (f : ℕ → List ℕ) (n count : ℕ) → n < count →
    flat_map f (range_with_len (0 + n) (count - n)) ≡ f n ++ flat_map f (range_with_len (0 + n + 1) (count - (n + 1)))
text-from f n count few =
    let one : count - n ≡ suc (count - (n + 1)) = omega arith in
    let here : 0 + n ≡ n = omega arith in
    ap (λ k. flat_map f (range_with_len (0 + n) k)) one ∙ ap (λ k. f k ++ flat_map f (range_with_len (0 + n + 1) (count - (n + 1)))) here

-- what all say, where this number stands among them
pub text-at : (f : ℕ → List ℕ) (n count : ℕ) → n < count → flat_map f (range_with_len 0 count)
    ≡ flat_map f (range_with_len 0 n) ++ (f n ++ flat_map f (range_with_len (0 + n + 1) (count - (n + 1))))
text-at f n count below =
    let few : n ≤ count = omega (arith, below) in
    text-split f n count few ∙ ap (λ l. flat_map f (range_with_len 0 n) ++ l) (text-from f n count below)

-- one number more
pub numbers-next : (f : ℕ → List ℕ) (n : ℕ) → flat_map f (range_with_len 0 (n + 1)) ≡ flat_map f (range_with_len 0 n) ++ f n
numbers-next f n = text-next f 0 n ∙ ap (λ k. flat_map f (range_with_len 0 n) ++ f k) (zero-left n)

-- ---- blocks
-- the last one ends behind the last step
pub last-block : (count number : ℕ) → number ≡ block_count count → block_begin count number ≡ count
last-block count number h = omega arith
