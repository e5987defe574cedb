-- A process without an open call leaves room for one.
use Rattle.std.proofs.Common.{◌≡◌, ◌≢◌, ℕ, ◌<◌, ◌≤◌, ◌==◌, Bool, true, false, not, List, [], ◌∷◌, length, arith, eqb, ◌++◌, cond, filter}
use Rattle.std.proofs.Common.{refl, ap, sym, subst, Option, Some, None, zero, suc, slice_get, get_or, eq-eqb}
use Rattle.std.specs.List.{IsDistinct, AllByRecursion, list_any, remove}
use Rattle.std.specs.Prelude.{IfNone, IfSome}
use Rattle.std.proofs.lemmas.Bool.{ne_eqb, eqb-true}
use Rattle.std.proofs.lemmas.Grind.{common_steps}
use Rattle.std.proofs.lemmas.Map.Steps.{length-le_from_distinct_below}
use Rattle.memchr.specs.Find.{IsLastByte, is_byte}
use Rattle.hub_base.proofs.Lists.{all_snoc}
use Rattle.hub_parts.specs.Tickets.{AreApart, IsAt}
use Rattle.hub_parts.proofs.Lists.{all_filter}

apart : (os : List ℕ) (pid : ℕ) → list_any (λ o. o == pid) os ≡ false → AllByRecursion (λ y. (pid == y) ≡ false) os
apart [] pid e = tt
apart (o ∷ os) pid e = (grind (arith, common_steps), apart os pid (grind (arith, common_steps)))

member_below : (xs : List ℕ) (n q : ℕ) → AllByRecursion (λ x. x < n) xs → list_any (eqb q) xs ≡ true → q < n
member_below [] n q all e = cc
member_below (x ∷ xs) n q all e = grind (arith, common_steps, member_below xs n q all.1, all.0)

to_distinct : (xs : List ℕ) → AreApart xs → IsDistinct eqb xs
unfolding IsDistinct
to_distinct [] a = tt
to_distinct (x ∷ xs) a = (a.0, to_distinct xs a.1)

pub room_left : (os : List ℕ) (n pid : ℕ) → AreApart os → AllByRecursion (λ q. q < n) os
    → list_any (λ o. o == pid) os ≡ false → pid < n → length os < n
room_left os n pid distinct below free small =
    let most : length (pid ∷ os) ≤ n = length-le_from_distinct_below (pid ∷ os) n
    (to_distinct (pid ∷ os) (apart os pid free, distinct)) (λ q e. member_below (pid ∷ os) n q (small, below) e) in
    omega (arith, most)

pub apart_snoc : (os : List ℕ) (o : ℕ) → AreApart os → list_any (λ v. v == o) os ≡ false → AreApart (os ++ o ∷ [])
apart_snoc [] o a free = (tt, tt)
apart_snoc (v ∷ os) o a free =
    (all_snoc (λ y. (v == y) ≡ false) os o a.0 (grind (arith, common_steps)), apart_snoc os o a.1 (grind (arith, common_steps)))

pub apart_kept : (test : ℕ → Bool) (os : List ℕ) → AreApart os → AreApart (filter test os)
apart_kept test [] a = tt
apart_kept test (o ∷ os) a =
    elim (test o) as (λ b. AreApart (cond b (o ∷ filter test os) (filter test os))) [
      | true ↦ (all_filter (λ y. (o == y) ≡ false) test os a.0, apart_kept test os a.1)
      | false ↦ apart_kept test os a.1
    ]

-- a process with an open call is below n
pub opened_below : (os : List ℕ) (n pid : ℕ) → AllByRecursion (λ q. q < n) os → list_any (λ o. o == pid) os ≡ true → pid < n
opened_below [] n pid below e = cc
opened_below (o ∷ os) n pid below e = grind (arith, common_steps, opened_below os n pid below.1, below.0)

-- at most one call of each process
pub count_fits : (os : List ℕ) (n : ℕ) → AreApart os → AllByRecursion (λ q. q < n) os → length os ≤ n
count_fits os n distinct below = length-le_from_distinct_below os n (to_distinct os distinct) (λ q e. member_below os n q below e)

abbrev of_others : ℕ → List ℕ → List ℕ
of_others q os = filter (λ o. not (o == q)) os

-- where no call is of the process, all stay
all_of_others : (q : ℕ) (os : List ℕ) → AllByRecursion (λ y. (q == y) ≡ false) os → of_others q os ≡ os
all_of_others q [] a = refl
all_of_others q (o ∷ os) a =
    let other : (o == q) ≡ false = (let apart : (q == o) ≡ false = a.0 in grind (arith, common_steps)) in
    rw (other, all_of_others q os a.1) refl

some_eq : (a b : ℕ) → Some a ≡ Some b → a ≡ b
some_eq a b e = cc

-- the others are apart from the call at a place behind the first
other_before : (o : ℕ) (os : List ℕ) (q place : ℕ) → AllByRecursion (λ y. (o == y) ≡ false) os
    → slice_get os place ≡ Some q → (o == q) ≡ false
other_before o [] q place a e = absurd cc
other_before o (v ∷ os) q zero a e = let same : v ≡ q = some_eq v q e in subst (λ n. (o == n) ≡ false) same a.0
other_before o (v ∷ os) q (suc place) a e = other_before o os q place a.1 e

-- without the call at its place, the calls of the others are left
pub removed : (q place : ℕ) (os : List ℕ) → AreApart os → slice_get os place ≡ Some q
    → remove os place ≡ of_others q os
removed q place [] a e = absurd cc
removed q zero (o ∷ os) a e =
    let same : o ≡ q = some_eq o q e in
    let here : (o == q) ≡ true = grind (arith, common_steps) in
    rw here (sym (all_of_others q os (subst (λ n. AllByRecursion (λ y. (n == y) ≡ false) os) same a.0)))
removed q (suc place) (o ∷ os) a e =
    let other : (o == q) ≡ false = other_before o os q place a.0 e in
    rw other (ap (λ rest. o ∷ rest) (removed q place os a.1 e))

-- where the process has no call, all are left
pub unremoved : (q : ℕ) (os : List ℕ) → list_any (λ o. o == q) os ≡ false → os ≡ of_others q os
unremoved q os e = sym (all_of_others q os (apart os q e))

is_at : (os : List ℕ) (pid place : ℕ) → place < length os → get_or os place 0 ≡ pid → slice_get os place ≡ Some pid
is_at [] pid place within same = absurd (omega arith)
is_at (o ∷ os) pid zero within same = ap Some same
is_at (o ∷ os) pid (suc place) within same = is_at os pid place (omega arith) same

-- what `memrchr` finds is a place of the process
pub found_where : (os : List ℕ) (pid : ℕ) (r : Option ℕ) → IsLastByte (is_byte pid) os r → IfSome r (λ place. IsAt os pid place)
found_where os pid None e = tt
found_where os pid (Some i) e = record { within = e.0.high; of_process = is_at os pid i e.0.high (eqb-true (get_or os i 0) pid e.1) }

nowhere : (pid : ℕ) (os : List ℕ) → ((k : ℕ) → k < length os → get_or os k 0 ≢ pid) → list_any (λ o. o == pid) os ≡ false
nowhere pid [] h = refl
nowhere pid (o ∷ os) h = rw (ne_eqb o pid (h 0 (omega arith))) (nowhere pid os (λ k lt. h (suc k) (omega arith)))

-- where it finds none, the process has no call
pub none_where : (os : List ℕ) (pid : ℕ) (r : Option ℕ) → IsLastByte (is_byte pid) os r → IfNone r (list_any (λ o. o == pid) os ≡ false)
none_where os pid None e = nowhere pid os (λ k lt same. e k (omega arith) lt (eq-eqb (get_or os k 0) pid same))
none_where os pid (Some i) e = tt
