-- A text that is put in two parts, and a number by its first digits and the others.
use Rattle.std.proofs.Common.{◌≡◌, ◌∙◌, ℕ, ◌+◌, ◌/◌, ◌%◌, ◌^◌, ◌<◌, ◌≤◌, List, [], ◌∷◌, ◌++◌, ap, refl, arith, append_assoc}
use Rattle.std.specs.Fmt.{decimal}
use Rattle.std.proofs.lemmas.Fmt.{decimal_digit}
use Rattle.itoa.proofs.Decimal.{decimal_pair, decimal_four}
use Rattle.hub_text.specs.Writing.{Puts, pair, four}

-- a number of more than eight digits is spelled by those before its last eight, and these
decimal_eight : (n : ℕ) → 100000000 ≤ n → n < 2 ^ 64
    → decimal n ≡ decimal (n / 100000000) ++ (four (n % 100000000 / 10000) ++ four (n % 100000000 % 10000))
decimal_eight n lo hi =
    let a : n / 10000 / 10000 ≡ n / 100000000 = omega arith in
    let b : n / 10000 % 10000 ≡ n % 100000000 / 10000 = omega arith in
    let c : n % 10000 ≡ n % 100000000 % 10000 = omega arith in
    let joined = append_assoc (decimal (n / 10000 / 10000)) (four (n / 10000 % 10000)) (four (n % 10000)) in
    rw (decimal_four n (omega arith) hi, decimal_four (n / 10000) (omega arith) (omega arith), joined, a, b, c) refl

-- a text of at most so many bytes, and another behind it
pub puts_then : {old mid new : List ℕ} {at end last m n : ℕ} {s t : List ℕ} → Puts old mid at s m end → Puts mid new end t n last
    → Puts old new at (s ++ t) (m + n) last
puts_then {s = s} {t = t} first second = record {
  put = second.put ∙ ap (λ (xs : List ℕ). xs ++ t) first.put ∙ append_assoc _ s t;
  within = omega (arith, first.within, second.within);
}

-- or of more
pub puts_within : {old new : List ℕ} {at end m most : ℕ} {s : List ℕ} → m ≤ most → Puts old new at s m end → Puts old new at s most end
puts_within few puts = record { put = puts.put; within = omega (arith, few, puts.within) }

-- a number is put: what stands before its last two digits, and these
pub puts_pair : (old mid new : List ℕ) (at end last n m most : ℕ) → 100 ≤ n → n < 2 ^ 64 → m + 2 ≤ most
    → Puts old mid at (decimal (n / 100)) m end → Puts mid new end (pair (n % 100)) 2 last → Puts old new at (decimal n) most last
puts_pair old mid new at end last n m most lo hi few first second = rw (decimal_pair n lo hi) (puts_within few (puts_then first second))

-- where that is one digit
pub puts_hundreds : (old mid new : List ℕ) (at end last n : ℕ) → 100 ≤ n → n < 1000 → Puts old mid at ((48 + n / 100) ∷ []) 1 end
    → Puts mid new end (pair (n % 100)) 2 last → Puts old new at (decimal n) 3 last
puts_hundreds old mid new at end last n lo hi first second =
    puts_pair old mid new at end last n 1 3 lo (omega arith) (omega arith) (rw (decimal_digit (n / 100) (omega arith)) first) second

-- or its last four
pub puts_four : (old mid new : List ℕ) (at end last n m most : ℕ) → 10000 ≤ n → n < 2 ^ 64 → m + 4 ≤ most
    → Puts old mid at (decimal (n / 10000)) m end → Puts mid new end (four (n % 10000)) 4 last → Puts old new at (decimal n) most last
puts_four old mid new at end last n m most lo hi few first second = rw (decimal_four n lo hi) (puts_within few (puts_then first second))

-- or its last eight
pub puts_eight : (old a b new : List ℕ) (at e1 e2 e3 n m most : ℕ) → 100000000 ≤ n → n < 2 ^ 64 → m + 8 ≤ most
    → Puts old a at (decimal (n / 100000000)) m e1 → Puts a b e1 (four (n % 100000000 / 10000)) 4 e2 → Puts b new e2 (four (n % 100000000 % 10000)) 4 e3
    → Puts old new at (decimal n) most e3
puts_eight old a b new at e1 e2 e3 n m most lo hi few first second third =
    rw (decimal_eight n lo hi) (puts_within few (puts_then first (puts_then second third)))
