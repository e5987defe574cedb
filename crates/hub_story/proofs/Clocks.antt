-- Whether a list has such an item, and how many it has, item by item.
use Rattle.std.proofs.Common.{◌≡◌, ◌≤◌, ◌<◌, ◌+◌, ◌||◌, ℕ, Bool, true, false, List, length, take, get_or, ap, ◌∙◌, sym}
use Rattle.std.specs.Prelude.{Some, count_by, slice_get}
use Rattle.std.specs.List.{list_any}
use Rattle.std.proofs.lemmas.List.{take_all}
use Rattle.std.proofs.lemmas.List.Folds.{list_any_at, list_any_more}
use Rattle.std.proofs.lemmas.List.Sums.{count_by_more_no, count_by_more_yes}
use Rattle.std.proofs.lemmas.Option.{get_or_from_slice_get}

pub any-here : {A : Type 0} (p : A → Bool) (xs : List A) (i : ℕ) (x : A) → i < length xs → slice_get xs i ≡ Some x → p x ≡ true → list_any p xs ≡ true
any-here p xs i x below at hit = list_any_at p xs i x below (ap p (get_or_from_slice_get xs i x x at) ∙ hit)

pub none-more : {A : Type 0} (p : A → Bool) (xs : List A) (i : ℕ) (x : A) → i < length xs → slice_get xs i ≡ Some x → p x ≡ false →
    list_any p (take i xs) ≡ false → list_any p (take (i + 1) xs) ≡ false
none-more p xs i x below at miss so =
    list_any_more p xs i x below ∙ ap (λ b. b || p (get_or xs i x)) so ∙ ap p (get_or_from_slice_get xs i x x at) ∙ miss

pub none-all : {A : Type 0} (p : A → Bool) (xs : List A) (i : ℕ) → length xs ≤ i → list_any p (take i xs) ≡ false → list_any p xs ≡ false
none-all p xs i past so = ap (list_any p) (sym (take_all i xs past)) ∙ so

pub one-counted : {A : Type 0} (p : A → Bool) (xs : List A) (i : ℕ) (x : A) (n : ℕ) → i < length xs → slice_get xs i ≡ Some x → p x ≡ true →
    n ≡ count_by p (take i xs) → n + 1 ≡ count_by p (take (i + 1) xs)
one-counted p xs i x n below at hit so =
    ap (λ k. k + 1) so ∙ sym (count_by_more_yes p xs i x below (ap p (get_or_from_slice_get xs i x x at) ∙ hit))

pub none-counted : {A : Type 0} (p : A → Bool) (xs : List A) (i : ℕ) (x : A) (n : ℕ) → i < length xs → slice_get xs i ≡ Some x → p x ≡ false →
    n ≡ count_by p (take i xs) → n ≡ count_by p (take (i + 1) xs)
none-counted p xs i x n below at miss so =
    so ∙ sym (count_by_more_no p xs i x below (ap p (get_or_from_slice_get xs i x x at) ∙ miss))

pub all-counted : {A : Type 0} (p : A → Bool) (xs : List A) (i n : ℕ) → length xs ≤ i → n ≡ count_by p (take i xs) → n ≡ count_by p xs
all-counted p xs i n past so = so ∙ ap (count_by p) (take_all i xs past)
