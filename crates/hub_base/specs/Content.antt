-- What a value says, and how that is stored. The type of values cites it, so nothing here speaks of that type.
use Rattle.std.specs.Prelude.{ℕ, ◌≡◌, ◌+◌, ◌-◌, ◌≤◌, ◌++◌, ◌==◌, ◌&&◌, Bool, true, false, List, length, take, replicate, refl}
use Rattle.std.specs.Prelude.{nat_le, nat_lt, if◌then◌else◌}
use Rattle.std.specs.Int.{to_le_bytes, from_le_bytes, w64}
use Rattle.std.specs.List.{list_all}
use Rattle.std.specs.Str.{bytes_eq}
use Rattle.hub_base.specs.declared.limits.TheConstants.{MOST_VALUE_BYTES, GREATEST_VALUE}
use Rattle.hex.specs.Hex.{IsBytes}
use Rattle.std.proofs.Common.{ap, sym, ◌∙◌, subst, suc, add-one}
use Rattle.std.proofs.Math.Dec.{leb-suc-suc, leb-zero}
use Rattle.std.proofs.Math.Nat.{suc-le-suc_iff}
use Rattle.std.proofs.Math.Numerals.{sub-one}
use Rattle.std.proofs.Math.Seq.{take-append_seam}
use Rattle.std.proofs.lemmas.Bool.{eq-eqb, leb-true}
use Rattle.std.proofs.lemmas.Nat.{from_le_bytes-to_le_bytes_8}
use Rattle.std.proofs.lemmas.Slice.Eq.{bytes_eq-Decides}

-- what a value says: a whole number, or bytes
pub data Content : Type 0 where
  Num : ℕ → Content
  Bytes : List ℕ → Content

-- the number has 64 bits, and the bytes are few
abbrev pub IsContent : Content → Type 0
IsContent (Num n) = n ≤ GREATEST_VALUE
IsContent (Bytes bs) = (length bs ≤ MOST_VALUE_BYTES) × IsBytes bs

-- whether they are
abbrev pub is_content : Content → Bool
is_content (Num n) = nat_le n GREATEST_VALUE
is_content (Bytes bs) = nat_le (length bs) MOST_VALUE_BYTES && list_all (λ b. nat_lt b 256) bs

-- zeros behind them, up to 32
abbrev pub padded : List ℕ → List ℕ
padded bs = bs ++ replicate (MOST_VALUE_BYTES - length bs) 0

-- the byte that says which it is: 0 for a number, and else one more than there are bytes
abbrev pub form_of : Content → ℕ
form_of (Num n) = 0
form_of (Bytes bs) = length bs + 1

-- the 32 bytes beside it: the number, its lowest byte first, or the bytes, with zeros behind them
abbrev pub places_of : Content → List ℕ
places_of (Num n) = padded (to_le_bytes w64 n)
places_of (Bytes bs) = padded bs

-- what is said by such a byte and 32 bytes
abbrev pub said : ℕ → List ℕ → Content
said form places = if nat_lt 0 form then Bytes (take (form - 1) places) else Num (from_le_bytes w64 places)

-- whether this is what they store
abbrev pub stores : ℕ → List ℕ → Content → Bool
stores form places c = is_content c && ((form_of c == form) && bytes_eq (places_of c) places)

-- whether they store what they say
unfoldable pub is_stored : ℕ → List ℕ → Bool
is_stored form places = stores form places (said form places)

-- 0 in place of what no value says
abbrev pub sayable : Content → Content
sayable c = if is_content c then c else Num 0

-- what can be said is said by what stores it
said-number : (n : ℕ) → nat_le n GREATEST_VALUE ≡ true → said 0 (places_of (Num n)) ≡ Num n
said-number n small = ap Num (from_le_bytes-to_le_bytes_8 n (suc-le-suc_iff.1 (leb-true n GREATEST_VALUE small)))

pub said-bytes : (bs : List ℕ) (form : ℕ) → suc (length bs) ≡ form → said form (padded bs) ≡ Bytes bs
said-bytes bs form is =
    let P : ℕ → Type 0 = λ f. said f (padded bs) ≡ Bytes bs in
    subst P is (let some : nat_lt 0 (suc (length bs)) ≡ true = leb-suc-suc 0 (length bs) ∙ leb-zero (length bs) in
    ap (λ b. if b then Bytes (take (suc (length bs) - 1) (padded bs)) else Num (from_le_bytes w64 (padded bs))) some
    ∙ ap (λ n. Bytes (take n (padded bs))) (sub-one (suc (length bs)))
    ∙ ap Bytes (take-append_seam bs (replicate (MOST_VALUE_BYTES - length bs) 0)))

pub said-again : (c : Content) → is_content c ≡ true → said (form_of c) (places_of c) ≡ c
said-again (Num n) small = said-number n small
said-again (Bytes bs) small = said-bytes bs (length bs + 1) (sym (add-one (length bs)))

-- so it is stored
pub stored-so : (c : Content) → is_content c ≡ true → is_stored (form_of c) (places_of c) ≡ true
unfolding is_stored
stored-so c small =
    let P : Content → Type 0 = λ d. stores (form_of c) (places_of c) d ≡ true in
    subst P (sym (said-again c small)) (λ i. small i && (eq-eqb (form_of c) (form_of c) refl i && (bytes_eq-Decides (places_of c) (places_of c)).1 refl i))

pub sayable-small : (c : Content) → is_content (sayable c) ≡ true
sayable-small c = by (is_content c) refl where
  by : (b : Bool) → is_content c ≡ b → is_content (if b then c else Num 0) ≡ true
  by true small = small
  by false large = refl
