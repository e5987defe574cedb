-- A value and what it says.
use Rattle.std.proofs.Common.{◌≡◌, ℕ, suc, ◌+◌, ◌-◌, ◌≤◌, ◌<◌, true, List, [], ◌∷◌, ◌++◌, length, take, drop, replicate}
use Rattle.std.proofs.Common.{Some, None, refl, ap, ◌∙◌, sym, subst, arith, add-one}
use Rattle.std.proofs.lemmas.Bool.{and_parts, eqb-true, leb-true, le-leb}
use Rattle.std.proofs.lemmas.Bool.Decides.{nat_tests}
use Rattle.std.proofs.lemmas.Grind.{common_steps}
use Rattle.std.proofs.lemmas.List.{drop-replicate, take-append-drop}
use Rattle.std.proofs.lemmas.Option.{none-some, same_Some}
use Rattle.std.proofs.lemmas.Slice.Eq.{bytes_eq-Decides}
use Rattle.std.proofs.Math.Bool.{Bool-set}
use Rattle.std.specs.Int.{to_le_bytes, w64}
use Rattle.std.specs.List.{list_all}
use Rattle.std.specs.Str.{bytes_eq}
use Rattle.std.specs.Prelude.{◌==◌, ◌&&◌, nat_le, nat_lt, decimal, if◌then◌else◌}
use Rattle.hex.specs.Hex.{IsBytes, encode_lower}
use Rattle.hub_base.specs.declared.limits.TheConstants.{GREATEST_VALUE, MOST_VALUE_BYTES}
use Rattle.hub_base.specs.declared.value.Value.{Value}
use Rattle.hub_base.specs.Content.{Content, padded, IsContent, is_content, is_stored, form_of, places_of, said, sayable}
use Rattle.hub_base.specs.Content.{said-again, said-bytes, stored-so}
use Rattle.hub_base.specs.Content.Content.{Num, Bytes}
use Rattle.hub_base.specs.Value.{content, saying, value_of, bytes_of, IsValue, bytes_in, number_in, field_of}

-- behind the bytes there are zeros
pub zeros_behind : (bs : List ℕ) → drop (length bs) (replicate {A = ℕ} MOST_VALUE_BYTES 0) ≡ replicate (MOST_VALUE_BYTES - length bs) 0
zeros_behind bs = drop-replicate {X = ℕ} (length bs) MOST_VALUE_BYTES 0

-- bytes with zeros behind them
pub padded_is : (bs first tail : List ℕ) → first ≡ bs → tail ≡ replicate (MOST_VALUE_BYTES - length bs) 0 → first ++ tail ≡ padded bs
padded_is bs first tail is zeros = ap (λ xs. xs ++ tail) is ∙ ap (λ ys. bs ++ ys) zeros

-- the first of some places, where zeros are behind them
pub first_is : (n : ℕ) (places bs : List ℕ) → bs ≡ take n places → length bs ≡ n → drop n places ≡ replicate (MOST_VALUE_BYTES - n) 0 → places ≡ padded bs
first_is n places bs is count zeros =
    sym (take-append-drop n places) ∙ padded_is bs (take n places) (drop n places) (sym is) (zeros ∙ ap (λ k. replicate (MOST_VALUE_BYTES - k) 0) (sym count))

-- ---- what can be said, as a fact and as a test
byte-below : (b : ℕ) → b < 256 → nat_lt b 256 ≡ true
byte-below b h = grind (arith, nat_tests)

all-below : (bs : List ℕ) → IsBytes bs → list_all (λ b. nat_lt b 256) bs ≡ true
all-below [] bytes = refl
all-below (b ∷ bs) bytes = λ i. byte-below b (bytes 0) i && all-below bs (λ k. bytes (suc k)) i

pub content-small : (c : Content) → IsContent c → is_content c ≡ true
content-small (Num n) fits = le-leb n GREATEST_VALUE fits
content-small (Bytes bs) fits = λ i. le-leb (length bs) MOST_VALUE_BYTES fits.0 i && all-below bs fits.1 i

bytes-below : (bs : List ℕ) → list_all (λ b. nat_lt b 256) bs ≡ true → IsBytes bs
bytes-below bs h = λ i. grind (arith, common_steps)

pub small-content : (c : Content) → is_content c ≡ true → IsContent c
small-content (Num n) h = leb-true n GREATEST_VALUE h
small-content (Bytes bs) h =
    let both = and_parts (nat_le (length bs) MOST_VALUE_BYTES) (list_all (λ b. nat_lt b 256) bs) h in
    (leb-true (length bs) MOST_VALUE_BYTES both.0, bytes-below bs both.1)

-- ---- what is stored
abbrev pub formed : (form : ℕ) (places : List ℕ) → is_stored form places ≡ true → Value
formed form places is = record { form = form; bytes = places; stored = is }

-- two values that are stored in one way are one
pub formed-same : (form other : ℕ) (places others : List ℕ) (p : is_stored form places ≡ true) (q : is_stored other others ≡ true)
    → form ≡ other → places ≡ others → formed form places p ≡ formed other others q
formed-same form other places others p q same all =
    subst (λ (k : ℕ). (r : is_stored k others ≡ true) → formed form places p ≡ formed k others r) same
    (subst (λ (l : List ℕ). (r : is_stored form l ≡ true) → formed form places p ≡ formed form l r) all
    (λ r. ap (λ (h : is_stored form places ≡ true). formed form places h) (Bool-set (is_stored form places) true p r))) q

-- what can be said is stored in one way
sayable-is : (c : Content) → is_content c ≡ true → sayable c ≡ c
sayable-is c small = ap (λ b. if b then c else Num 0) small

pub saying_is : (c : Content) (form : ℕ) (places : List ℕ) (is : is_stored form places ≡ true) → IsContent c → form ≡ form_of c → places ≡ places_of c
    → formed form places is ≡ saying c
unfolding saying
saying_is c form places is fits kind all =
    let same = sym (sayable-is c (content-small c fits)) in
    formed-same _ _ _ _ _ _ (kind ∙ ap form_of same) (all ∙ ap places_of same)

-- so it is stored
is-stored : (c : Content) (form : ℕ) (places : List ℕ) → IsContent c → form ≡ form_of c → places ≡ places_of c → is_stored form places ≡ true
is-stored c form places fits kind all = (λ i. is_stored (kind i) (all i)) ∙ stored-so c (content-small c fits)

pub number-stored : (n : ℕ) (places : List ℕ) → n ≤ GREATEST_VALUE → places ≡ padded (to_le_bytes w64 n) → is_stored 0 places ≡ true
number-stored n places small all = is-stored (Num n) 0 places small refl all

pub bytes-stored : (bs : List ℕ) (n : ℕ) (places : List ℕ) → IsContent (Bytes bs) → length bs ≡ n → places ≡ padded bs → is_stored (n + 1) places ≡ true
bytes-stored bs n places fits count all = is-stored (Bytes bs) (n + 1) places fits (ap (λ k. k + 1) (sym count)) all

-- the value that says this says it
pub content-saying : (c : Content) → IsContent c → content (saying c) ≡ c
unfolding saying
content-saying c fits =
    let small = content-small c fits in
    ap (λ d. said (form_of d) (places_of d)) (sayable-is c small) ∙ said-again c small

-- and is one
pub is-value : (c : Content) → IsContent c → IsValue (saying c)
is-value c fits = record { fits = subst IsContent (sym (content-saying c fits)) fits; one = ap saying (content-saying c fits) }

-- what a value's places say is stored by them
record Stored (form : ℕ) (places : List ℕ) : Type 0 where
  pub fits : IsContent (said form places)
  pub kind : form ≡ form_of (said form places)
  pub all : places ≡ places_of (said form places)

stored-parts : (form : ℕ) (places : List ℕ) → is_stored form places ≡ true → Stored form places
unfolding is_stored
stored-parts form places is =
    let c : Content = said form places in
    let first = and_parts (is_content c) ((form_of c == form) && bytes_eq (places_of c) places) is in
    let both = and_parts (form_of c == form) (bytes_eq (places_of c) places) first.1 in
    record {
      fits = small-content c first.0;
      kind = sym (eqb-true (form_of c) form both.0);
      all = sym ((bytes_eq-Decides (places_of c) places).0 both.1);
    }

-- each value says what can be said, and is the one that does
pub every_value : (v : Value) → IsValue v
every_value v =
    let parts = stored-parts v.form v.bytes v.stored in
    record { fits = parts.fits; one = sym (saying_is (content v) v.form v.bytes v.stored parts.fits parts.kind parts.all) }

-- the places of bytes are these, with zeros behind them
places_of_bytes : (c : Content) → number_in c ≡ None → places_of c ≡ padded (bytes_in c)
places_of_bytes (Num n) h = cc
places_of_bytes (Bytes bs) h = refl

pub padded_bytes : (v : Value) → number_in (content v) ≡ None → v.bytes ≡ padded (bytes_in (content v))
padded_bytes v none = (stored-parts v.form v.bytes v.stored).all ∙ places_of_bytes (content v) none

-- the form counts them
form_counts : (c : Content) → form_of c - 1 ≡ length (bytes_in c)
form_counts (Num n) = refl
form_counts (Bytes bs) = omega arith

pub count_of_bytes : (v : Value) → v.form - 1 ≡ length (bytes_in (content v))
count_of_bytes v = ap (λ k. k - 1) (stored-parts v.form v.bytes v.stored).kind ∙ form_counts (content v)

-- places that store a number, or bytes, are its value's
pub number_is : (n : ℕ) (places : List ℕ) (is : is_stored 0 places ≡ true) → n ≤ GREATEST_VALUE → places ≡ padded (to_le_bytes w64 n)
    → formed 0 places is ≡ value_of n
number_is n places is small all = saying_is (Num n) 0 places is small refl all

-- a value that says a number is that number's
pub number_again : (v : Value) (n : ℕ) → number_in (content v) ≡ Some n → value_of n ≡ v
number_again v n is = by (content v) refl
  where
    by : (c : Content) → c ≡ content v → value_of n ≡ v
    by (Num m) said =
        let same : m ≡ n = same_Some m n (ap number_in said ∙ is) in
        ap (λ k. saying (Num k)) (sym same) ∙ ap saying said ∙ (every_value v).one
    by (Bytes bs) said = absurd (none-some n (ap number_in said ∙ is))

pub bytes_are : (bs : List ℕ) (n : ℕ) (places : List ℕ) (is : is_stored (n + 1) places ≡ true) → length bs ≡ n → places ≡ padded bs
    → formed (n + 1) places is ≡ bytes_of bs
bytes_are bs n places is count all =
    let kind : n + 1 ≡ length bs + 1 = ap (λ k. k + 1) (sym count) in
    let says : said (n + 1) places ≡ Bytes bs = (λ i. said (kind i) (all i)) ∙ said-bytes bs (length bs + 1) (sym (add-one (length bs))) in
    saying_is (Bytes bs) (n + 1) places is (subst IsContent says (stored-parts (n + 1) places is).fits) kind all

-- the field of a number, and of bytes
pub field_number : (c : Content) (n : ℕ) → number_in c ≡ Some n → field_of c ≡ decimal n
field_number (Num m) n h = let same : m ≡ n = cc in ap decimal same
field_number (Bytes bs) n h = cc

pub field_bytes : (c : Content) → number_in c ≡ None → field_of c ≡ 35 ∷ encode_lower (bytes_in c)
field_bytes (Num n) h = cc
field_bytes (Bytes bs) h = refl
