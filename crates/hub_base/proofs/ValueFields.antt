-- The field of a value: it is read as that value, and what is read as a value is its field.
use Rattle.std.proofs.Common.{◌≡◌, ℕ, ◌*◌, ◌≤◌, ◌<◌, ◌^◌, Bool, true, false, cond, List, [], ◌∷◌, length, Some, None, Option, Ok, Err, Result}
use Rattle.std.proofs.Common.{refl, ap, ◌∙◌, sym, subst, arith, not, ◌&&◌, ◌==◌}
use Rattle.std.proofs.lemmas.Grind.{common_steps}
use Rattle.std.proofs.lemmas.Bool.{and_parts}
use Rattle.std.specs.Prelude.{◌/◌, decimal, nat_le, MatchResult}
use Rattle.std.specs.List.{list_all}
use Rattle.std.specs.Option.{option_map}
use Rattle.std.specs.Char.{is_ascii_digit}
use Rattle.hex.specs.declared.error.FromHexError.{FromHexError}
use Rattle.hex.specs.Hex.{IsBytes, decode_of, decode_sized, encode_lower, lower_digits}
use Rattle.hex.proofs.HexLemmas.{decode_of-encode_lower, decode_of-ok, length-encode_with}
use Rattle.hub_base.specs.declared.head.Edition.{Edition}
use Rattle.hub_base.specs.declared.read_fault.Kind.TheVariants.{BadNumber}
use Rattle.hub_base.specs.declared.limits.TheConstants.{GREATEST_VALUE, MOST_VALUE_BYTES}
use Rattle.hub_base.specs.declared.value.Value.{Value}
use Rattle.hub_base.specs.Head.{has_bytes, has_content, has_value}
use Rattle.hub_base.specs.Lines.{is_hex, decoded, bytes_value, value, value_read, must, number}
use Rattle.hub_base.specs.Content.{Content, IsContent}
use Rattle.hub_base.specs.Value.{content, saying, bytes_of, IsValue, field_of, value_field}
use Rattle.hub_base.specs.Content.Content.{Num, Bytes}
use Rattle.hub_base.proofs.Bound.{number-ok}
use Rattle.hub_base.proofs.Decimals.{digits-of, some-of}
use Rattle.hub_base.proofs.Values.{content-saying, is-value}
use Rattle.hub_base.proofs.HexDigits.{encoded-hex, hex-spells}
use Rattle.hub_base.proofs.Numerals.{all-lack, decimal-lacks, decimal-lacks-colon, lacks, number-again}

-- a field that does not begin with the mark is read as a number
unmarked : (ed : Edition) (c : ℕ) (cs : List ℕ) → (c == 35) ≡ false → value ed (c ∷ cs) ≡ option_map Num (number GREATEST_VALUE (c ∷ cs))
unmarked ed c cs other = by (has_bytes ed) where
  by : (b : Bool) → cond (b && (c == 35)) (bytes_value cs) (option_map Num (number GREATEST_VALUE (c ∷ cs))) ≡ option_map Num (number GREATEST_VALUE (c ∷ cs))
  by true = rw other refl
  by false = refl

digit-unmarked : (c : ℕ) → is_ascii_digit c ≡ true → (c == 35) ≡ false
digit-unmarked c digit = grind (arith, common_steps)

digits-read : (ed : Edition) (bs : List ℕ) → 0 < length bs → list_all is_ascii_digit bs ≡ true → value ed bs ≡ option_map Num (number GREATEST_VALUE bs)
digits-read ed [] some digits = absurd (omega arith)
digits-read ed (c ∷ cs) some digits = unmarked ed c cs (digit-unmarked c (and_parts (is_ascii_digit c) (list_all is_ascii_digit cs) digits).0)

few : (bs : List ℕ) → length bs ≤ MOST_VALUE_BYTES → nat_le (length (encode_lower bs)) (2 * MOST_VALUE_BYTES) ≡ true
few bs small = let l = length-encode_with lower_digits bs in grind (arith, common_steps)

-- the digits of bytes are read as them
bytes-again : (bs : List ℕ) → IsContent (Bytes bs) → bytes_value (encode_lower bs) ≡ Some (Bytes bs)
bytes-again bs fits = rw (encoded-hex bs fits.1, few bs fits.0, decode_of-encode_lower bs fits.1) refl

-- the field of what is said is read as it
content-again : (ed : Edition) (c : Content) → IsContent c → has_content ed c ≡ true → value ed (field_of c) ≡ Some c
content-again ed (Num n) fits has =
    let small : n < 2 ^ 64 = omega (arith, fits) in
    digits-read ed (decimal n) (some-of (decimal n) n small refl) (digits-of (decimal n) n small refl)
    ∙ ap (option_map Num) (number-again GREATEST_VALUE n (omega arith) fits)
content-again ed (Bytes bs) fits has = rw has (bytes-again bs fits)

-- and so is that of a value
pub value-again : (ed : Edition) (v : Value) → IsValue v → has_value ed v ≡ true → option_map saying (value ed (value_field v)) ≡ Some v
value-again ed v is has = ap (option_map saying) (content-again ed (content v) is.fits has) ∙ ap Some is.one

-- where it has to be one
pub read-again : (ed : Edition) (v : Value) → IsValue v → has_value ed v ≡ true → value_read ed (value_field v) ≡ Ok v
read-again ed v is has = ap (must BadNumber) (value-again ed v is has)

-- what was read as a value
pub record Taken (ed : Edition) (bs : List ℕ) (v : Value) : Type 0 where
  pub field : bs ≡ value_field v
  pub fits : IsValue v
  pub has : has_value ed v ≡ true

-- what was read says this
record Said (ed : Edition) (bs : List ℕ) (c : Content) : Type 0 where
  pub field : bs ≡ field_of c
  pub fits : IsContent c
  pub has : has_content ed c ≡ true

number-said : (ed : Edition) (bs : List ℕ) (c : Content) → option_map Num (number GREATEST_VALUE bs) ≡ Some c → Said ed bs c
number-said ed bs c h = by (number GREATEST_VALUE bs) refl h where
  by : (o : Option ℕ) → number GREATEST_VALUE bs ≡ o → option_map Num o ≡ Some c → Said ed bs c
  by None is e = cc
  by (Some n) is e =
      let one = number-ok GREATEST_VALUE bs n (omega arith) is in
      let same : Num n ≡ c = cc in
      subst (Said ed bs) same record { field = one.0; fits = one.1; has = refl }

-- digits that were read as bytes are their spelling
bytes-said : (digits : List ℕ) (c : Content) → bytes_value digits ≡ Some c
    → (bs : List ℕ) × (c ≡ Bytes bs) × (digits ≡ encode_lower bs) × IsContent (Bytes bs)
bytes-said digits c h = by (list_all is_hex digits) refl (nat_le (length digits) (2 * MOST_VALUE_BYTES)) refl (decode_of digits) refl h where
  by : (a : Bool) → list_all is_hex digits ≡ a → (b : Bool) → nat_le (length digits) (2 * MOST_VALUE_BYTES) ≡ b
      → (r : Result (List ℕ) FromHexError) → decode_of digits ≡ r → cond (a && b) (decoded r) None ≡ Some c
      → (bs : List ℕ) × (c ≡ Bytes bs) × (digits ≡ encode_lower bs) × IsContent (Bytes bs)
  by false hex b short r is e = cc
  by true hex false short r is e = cc
  by true hex true short (Err error) is e = cc
  by true hex true short (Ok bs) is e =
      let ok = decode_of-ok digits bs is in
      let small : length bs ≤ MOST_VALUE_BYTES = let twice = ok.2 in grind (arith, common_steps) in
      (bs, cc, hex-spells digits bs hex is, (small, ok.3))

marked : (ed : Edition) (cs : List ℕ) (c : Content) → has_bytes ed ≡ true → bytes_value cs ≡ Some c → Said ed (35 ∷ cs) c
marked ed cs c has h =
    let t = bytes-said cs c h in
    subst (Said ed (35 ∷ cs)) (sym t.1) record { field = ap (λ ds. 35 ∷ ds) t.2; fits = t.3; has = has }

content-takes : (ed : Edition) (bs : List ℕ) (c : Content) → value ed bs ≡ Some c → Said ed bs c
content-takes ed [] c h = cc
content-takes ed (b ∷ bs) c h = by (has_bytes ed) refl (b == 35) refl h where
  by : (a : Bool) → has_bytes ed ≡ a → (t : Bool) → (b == 35) ≡ t
      → cond (a && t) (bytes_value bs) (option_map Num (number GREATEST_VALUE (b ∷ bs))) ≡ Some c → Said ed (b ∷ bs) c
  by false has t is e = number-said ed (b ∷ bs) c e
  by true has false is e = number-said ed (b ∷ bs) c e
  by true has true is e =
      let mark : 35 ≡ b = grind (arith, common_steps) in
      subst (λ (x : ℕ). Said ed (x ∷ bs) c) mark (marked ed bs c has e)

-- what is said is the field of the value that says it
said-taken : (ed : Edition) (bs : List ℕ) (c : Content) → Said ed bs c → Taken ed bs (saying c)
said-taken ed bs c s =
    let same = content-saying c s.fits in
    record { field = s.field ∙ ap field_of (sym same); fits = is-value c s.fits; has = ap (has_content ed) same ∙ s.has }

-- a field that was read as a value spells it
pub read-takes : (ed : Edition) (bs : List ℕ) (v : Value) → value_read ed bs ≡ Ok v → Taken ed bs v
read-takes ed bs v h = by (value ed bs) refl h where
  by : (o : Option Content) → value ed bs ≡ o → must BadNumber (option_map saying o) ≡ Ok v → Taken ed bs v
  by None is e = cc
  by (Some c) is e =
      let same : saying c ≡ v = cc in
      subst (Taken ed bs) same (said-taken ed bs c (content-takes ed bs c is))

-- ---- marks that stand in no value
hex-below : (m : ℕ) → m < 35 → (c : ℕ) → is_hex c ≡ true → not (c == m) ≡ true
hex-below m low c h = grind (arith, common_steps)

hex-colon : (c : ℕ) → is_hex c ≡ true → not (c == 58) ≡ true
hex-colon c h = grind (arith, common_steps)

mark-below : (m : ℕ) → m < 35 → not (35 == m) ≡ true
mark-below m low = grind (arith, common_steps)

content-lacks : (m : ℕ) (c : Content) → m < 35 → IsContent c → lacks m (field_of c) ≡ true
content-lacks m (Num n) low fits = decimal-lacks m n low (omega (arith, fits))
content-lacks m (Bytes bs) low fits = rw (mark-below m low) (all-lack is_hex m (encode_lower bs) (hex-below m low) (encoded-hex bs fits.1))

-- a mark below those of values
pub value-lacks : (m : ℕ) (v : Value) → m < 35 → IsValue v → lacks m (value_field v) ≡ true
value-lacks m v low is = content-lacks m (content v) low is.fits

content-lacks-colon : (c : Content) → IsContent c → lacks 58 (field_of c) ≡ true
content-lacks-colon (Num n) fits = decimal-lacks-colon n (omega (arith, fits))
content-lacks-colon (Bytes bs) fits = all-lack is_hex 58 (encode_lower bs) hex-colon (encoded-hex bs fits.1)

-- and the colon
pub value-lacks-colon : (v : Value) → IsValue v → lacks 58 (value_field v) ≡ true
value-lacks-colon v is = content-lacks-colon (content v) is.fits

-- what is decoded into room for half as many bytes is what is decoded
sized : (s : List ℕ) → decode_sized s (length s / 2) ≡ decode_of s
sized s = let same : (length s / 2 == length s / 2) ≡ true = grind (arith, common_steps) in rw same refl

-- digits are decoded to bytes, so many that a value can be them
pub decodes-content : (digits out : List ℕ) (n : ℕ) (done : Result (Unit {0}) FromHexError) → length digits ≤ 2 * MOST_VALUE_BYTES
    → n ≡ length digits / 2 → MatchResult (decode_sized digits n) (λ bytes. (done ≡ Ok tt) × (out ≡ bytes)) (λ e. done ≡ Err e) → done ≡ Ok tt
    → (length out ≡ length digits / 2) × IsContent (Bytes out)
decodes-content digits out n done short half told ok =
    let all : MatchResult (decode_of digits) (λ bytes. (done ≡ Ok tt) × (out ≡ bytes)) (λ e. done ≡ Err e) =
    subst (λ (x : Result (List ℕ) FromHexError). MatchResult x (λ bytes. (done ≡ Ok tt) × (out ≡ bytes)) (λ e. done ≡ Err e))
    (ap (decode_sized digits) half ∙ sized digits) told in
    whole (decode_of digits) refl all where
      whole : (d : Result (List ℕ) FromHexError) → decode_of digits ≡ d
          → MatchResult d (λ bytes. (done ≡ Ok tt) × (out ≡ bytes)) (λ e. done ≡ Err e) → (length out ≡ length digits / 2) × IsContent (Bytes out)
      whole (Err e) was all = cc
      whole (Ok bs) was all =
          let is = decode_of-ok digits bs was in let twice = is.2 in let same = ap length all.1 in
          (grind (arith, common_steps), (grind (arith, common_steps), subst IsBytes (sym all.1) is.3))
