-- A spelling that stands between two places of some bytes.
use Rattle.std.proofs.Common.{◌≡◌, ◌≢◌, ℕ, zero, suc, ◌+◌, ◌*◌, ◌-◌, ◌<◌, ◌≤◌, ◌^◌, Bool, true, false, ◌&&◌, cond, Ok, List, [], ◌∷◌, ◌++◌, codes}
use Rattle.std.proofs.Common.{length, take, drop, get_or, refl, ap, ◌∙◌, sym, subst, arith, add-one, drop-cons, length-drop}
use Rattle.std.proofs.Common.{append_assoc, append-nil, length-append}
use Rattle.std.proofs.lemmas.Grind.{common_steps}
use Rattle.std.proofs.lemmas.Fmt.{decimal_digit, first_decimal, decimal_nonempty}
use Rattle.std.proofs.lemmas.Int.Digits.{digits_value_push}
use Rattle.std.proofs.lemmas.List.{get_or_append_left}
use Rattle.std.proofs.lemmas.List.Folds.{list_all-append}
use Rattle.std.proofs.lemmas.Str.{digit_value_digit}
use Rattle.std.specs.Fmt.{decimal}
use Rattle.std.specs.Char.{is_ascii_digit}
use Rattle.std.specs.Int.{IsInRange}
use Rattle.std.specs.List.{AllByRecursion, list_all, flat_map, refill}
use Rattle.std.specs.Str.Parse.{digits_value}
use Rattle.std.specs.Int.{from_le_bytes, w32}
use Rattle.std.proofs.lemmas.Nat.{le_bytes_4}
use Rattle.hub_base.specs.declared.head.Edition.{Edition}
use Rattle.hub_base.specs.declared.head.Head.{Head}
use Rattle.hub_base.specs.declared.limits.TheConstants.{CASE_PLACES, GREATEST_PID, GREATEST_PORT, GREATEST_WORD, MOST_BYTES, MOST_STEPS}
use Rattle.hub_base.specs.declared.case.Case.{Case}
use Rattle.hub_base.specs.declared.case.Case.TheVariants.{Send, Recv}
use Rattle.hub_base.specs.Entry.{Entry, Step}
use Rattle.hub_base.specs.declared.entry.Step.TheVariants.{Exit}
use Rattle.hub_base.specs.Head.{has_bytes, has_content, has_case, is_of}
use Rattle.hub_base.specs.declared.value.Port.{Port}
use Rattle.hub_base.specs.declared.value.Value.{Value}
use Rattle.hub_base.specs.declared.limits.TheConstants.{MOST_VALUE_BYTES}
use Rattle.hub_base.specs.Content.{IsContent}
use Rattle.hub_base.specs.Value.{bytes_of, value_field, field_of}
use Rattle.hub_base.specs.Content.Content.{Bytes}
use Rattle.std.proofs.Common.{replicate, set, slice_index, slice_set}
use Rattle.std.proofs.lemmas.Grind.{take-set_at}
use Rattle.std.proofs.lemmas.List.{drop-replicate, drop-set-lt, length-set}
use Rattle.hex.specs.Hex.{IsBytes, encode_lower, encode_with, lower_digits}
use Rattle.hub_base.proofs.HexDigits.{digit-hex}
use Rattle.hub_text.proofs.HexDigits.{bytes-push, encode-push}
use Rattle.hub_base.proofs.Values.{content-saying, is-value}
use Rattle.hub_text.specs.Writing.{spaced, spaced_cases}
use Rattle.hub_base.specs.Lines.{line, step_fields, case_field, call, call_fields, select_fields, default_field, spelled, is_hex}
use Rattle.hub_text.specs.Quick.{EndsLine, Stands, GoesOn, ValueStands, SendStands, RecvStands, CaseStands, CasesStand}
use Rattle.hub_text.specs.Quick.{SelectStands, NumberStands, ReopenStands, StepStands, Begins, BeginsExit}
use Rattle.hub_base.specs.Reading.{Reading, Reads, Faulty, behind, is_exit, with_entry, entries_from, rows}
use Rattle.hub_base.specs.Text.{CaseFits, StepFits, Fits, body, steps_of}
use Rattle.hub_base.proofs.Bodies.{rows-entry}
use Rattle.hub_base.proofs.Running.{entries-again}
use Rattle.hub_text.proofs.Spelled.{join-spaced, spaced-select}
use Rattle.hub_base.proofs.Decimals.{digits-of, value-of, spelled as spelled-digits}

digit-range : (c : ℕ) → is_ascii_digit c ≡ true → IsInRange 48 57 c
digit-range c h = grind (arith, common_steps)

-- a number that is not 0, and a digit behind it
decimal-push : (n c : ℕ) → 0 < n → is_ascii_digit c ≡ true → n * 10 + 9 < 2 ^ 64 → decimal (n * 10 + (c - 48)) ≡ decimal n ++ c ∷ []
decimal-push n c some digit small =
    let bs : List ℕ = decimal n ++ c ∷ [] in
    let front : n < 2 ^ 64 = omega arith in
    let whole : length bs ≡ length (decimal n) + 1 = length-append (decimal n) (c ∷ []) in
    let digits : list_all is_ascii_digit bs ≡ true = list_all-append is_ascii_digit (decimal n) (c ∷ [])
    ∙ ap (λ b. b && list_all is_ascii_digit (c ∷ [])) (digits-of (decimal n) n front refl) ∙ ap (λ b. b && true) digit in
    let value : digits_value 10 bs ≡ n * 10 + (c - 48) =
    (let p = digits_value_push 10 (decimal n) c in let v = value-of (decimal n) n front refl in
    let d = digit_value_digit c (digit-range c digit) in let r = digit-range c digit in omega (arith, p, v, d, r)) in
    let lead : get_or bs 0 0 ≢ 48 = (let first = first_decimal n some front in
    let same = get_or_append_left (decimal n) (c ∷ []) 0 0 (decimal_nonempty n front) in λ h. omega (arith, first, same, h)) in
    sym (spelled-digits bs digits (omega (arith, whole)) (λ h. absurd (lead h)) (let r = digit-range c digit in omega (arith, value, r)) ∙ ap decimal value)

-- behind a digit there is one byte more
pub behind-digit : (bs : List ℕ) (i : ℕ) → EndsLine bs → i < length bs → is_ascii_digit (get_or bs i 0) ≡ true → i + 1 < length bs
behind-digit bs i ends inside digit = ends i inside (λ newline. grind (arith, common_steps))

-- a number is its first digit
pub stands-digit : (bs : List ℕ) (start : ℕ) → EndsLine bs → start < length bs → is_ascii_digit (get_or bs start 0) ≡ true
    → Stands bs start (decimal (get_or bs start 0 - 48)) (start + 1)
stands-digit bs start ends inside digit =
    let r = digit-range (get_or bs start 0) digit in
    let one : decimal (get_or bs start 0 - 48) ≡ get_or bs start 0 ∷ [] =
    decimal_digit (get_or bs start 0 - 48) (omega (arith, r)) ∙ ap (λ c. c ∷ []) (omega (arith, r)) in
    record {
      spelled = drop-cons bs start 0 inside ∙ rw (add-one) (ap (λ t. t ++ drop (suc start) bs) (sym one));
      inside = behind-digit bs start ends inside digit;
    }

-- and one digit more
pub stands-push : (bs : List ℕ) (start n at : ℕ) → EndsLine bs → Stands bs start (decimal n) at → is_ascii_digit (get_or bs at 0) ≡ true
    → 0 < n → n * 10 + 9 < 2 ^ 64 → Stands bs start (decimal (n * 10 + (get_or bs at 0 - 48))) (at + 1)
stands-push bs start n at ends so digit some small = record {
  spelled = so.spelled ∙ ap (λ r. decimal n ++ r) (drop-cons bs at 0 so.inside)
      ∙ sym (append_assoc (decimal n) (get_or bs at 0 ∷ []) (drop (suc at) bs))
      ∙ rw (add-one) (ap (λ t. t ++ drop (suc at) bs) (sym (decimal-push n (get_or bs at 0) some digit small)));
  inside = behind-digit bs at ends so.inside digit;
}

-- two digits, the first of which is not 0
pub stands-two : (bs : List ℕ) (start : ℕ) → EndsLine bs → start < length bs → is_ascii_digit (get_or bs start 0) ≡ true
    → 0 < get_or bs start 0 - 48 → is_ascii_digit (get_or bs (start + 1) 0) ≡ true
    → Stands bs start (decimal ((get_or bs start 0 - 48) * 10 + (get_or bs (start + 1) 0 - 48))) (start + 2)
stands-two bs start ends inside digit some next =
    let first : ℕ = get_or bs start 0 - 48 in
    let small = digit-range (get_or bs start 0) digit in
    let at : start + 1 + 1 ≡ start + 2 = omega arith in
    subst (λ e. Stands bs start (decimal (first * 10 + (get_or bs (start + 1) 0 - 48))) e) at
    (stands-push bs start first (start + 1) ends (stands-digit bs start ends inside digit) next some (omega (arith, small)))

-- and three
pub stands-three : (bs : List ℕ) (start : ℕ) → EndsLine bs → start < length bs → is_ascii_digit (get_or bs start 0) ≡ true
    → 0 < get_or bs start 0 - 48 → is_ascii_digit (get_or bs (start + 1) 0) ≡ true → is_ascii_digit (get_or bs (start + 2) 0) ≡ true
    → Stands bs start (decimal (((get_or bs start 0 - 48) * 10 + (get_or bs (start + 1) 0 - 48)) * 10 + (get_or bs (start + 2) 0 - 48))) (start + 3)
stands-three bs start ends inside digit some next last =
    let second : ℕ = (get_or bs start 0 - 48) * 10 + (get_or bs (start + 1) 0 - 48) in
    let small = digit-range (get_or bs start 0) digit in
    let few = digit-range (get_or bs (start + 1) 0) next in
    let at : start + 2 + 1 ≡ start + 3 = omega arith in
    subst (λ e. Stands bs start (decimal (second * 10 + (get_or bs (start + 2) 0 - 48))) e) at
    (stands-push bs start second (start + 2) ends (stands-two bs start ends inside digit some next) last (omega (arith, some)) (omega (arith, small, few)))

-- a number that goes on does so with one digit more
pub goes-on : (bs : List ℕ) (first start n at : ℕ) → EndsLine bs → GoesOn bs first start n at → is_ascii_digit (get_or bs at 0) ≡ true
    → 0 < n → n * 10 + 9 < 2 ^ 64 → GoesOn bs first start (n * 10 + (get_or bs at 0 - 48)) (at + 1)
goes-on bs first start n at ends so digit some small place here = stands-push bs place n at ends (so place here) digit some small

-- and with two more
pub goes-on-two : (bs : List ℕ) (first start n at : ℕ) → EndsLine bs → GoesOn bs first start n at → is_ascii_digit (get_or bs at 0) ≡ true
    → is_ascii_digit (get_or bs (at + 1) 0) ≡ true → 0 < n → n * 100 + 99 < 2 ^ 64
    → GoesOn bs first start ((n * 10 + (get_or bs at 0 - 48)) * 10 + (get_or bs (at + 1) 0 - 48)) (at + 2)
goes-on-two bs first start n at ends so digit next some small =
    let one : ℕ = n * 10 + (get_or bs at 0 - 48) in
    let range = digit-range (get_or bs at 0) digit in
    let behind : at + 1 + 1 ≡ at + 2 = omega arith in
    subst (GoesOn bs first start (one * 10 + (get_or bs (at + 1) 0 - 48))) behind
    (goes-on bs first start one (at + 1) ends (goes-on bs first start n at ends so digit some (omega (arith, small))) next (omega (arith, some))
    (omega (arith, small, range)))

twice : (n m : ℕ) (bs : List ℕ) → drop n (drop m bs) ≡ drop (n + m) bs
twice n m bs = grind (arith, common_steps)

-- the mark and the digits of the first of these bytes stand there, and zeros behind those
pub record Decoded (text : List ℕ) (start len : ℕ) (places : List ℕ) (end : ℕ) : Type 0 where
  pub stands : Stands text start (35 ∷ encode_lower (take len places)) end
  pub few : len ≤ MOST_VALUE_BYTES
  pub all : length places ≡ MOST_VALUE_BYTES
  pub bytes : IsBytes (take len places)
  pub behind : drop len places ≡ replicate (MOST_VALUE_BYTES - len) 0

-- behind the mark stand the digits of no byte
pub mark-stands : (text : List ℕ) (start : ℕ) → EndsLine text → start < length text → get_or text start 0 ≡ 35
    → Decoded text start 0 (replicate MOST_VALUE_BYTES 0) (start + 1)
unfolding encode_with
mark-stands text start ends inside mark = record {
  stands = record {
    spelled = drop-cons text start 0 inside ∙ rw (add-one, mark) refl;
    inside = ends start inside (λ newline. let no : 35 ≡ 10 = sym mark ∙ newline in absurd (omega (arith, no)));
  };
  few = omega arith;
  all = refl;
  bytes = λ i. omega arith;
  behind = refl;
}

-- behind a digit there is one byte more
behind-hex : (text : List ℕ) (i d : ℕ) → EndsLine text → i < length text → d < 16 → slice_index lower_digits d ≡ get_or text i 0 → i + 1 < length text
behind-hex text i d ends inside small is =
    ends i inside (λ newline. let no : is_hex 10 ≡ true = subst (λ x. is_hex x ≡ true) (is ∙ newline) (digit-hex d small) in cc)

-- two digits more are one byte more
pub decoded-push : (text : List ℕ) (start len : ℕ) (places : List ℕ) (end high low : ℕ) → EndsLine text → Decoded text start len places end
    → len < MOST_VALUE_BYTES → high < 16 → slice_index lower_digits high ≡ get_or text end 0
    → low < 16 → slice_index lower_digits low ≡ get_or text (end + 1) 0
    → Decoded text start (len + 1) (set places len (high * 16 + low)) (end + 2)
decoded-push text start len places end high low ends so room high-small high-is low-small low-is =
    let byte : ℕ = high * 16 + low in
    let count = so.all in
    let more : take (len + 1) (set places len byte) ≡ take len places ++ byte ∷ [] =
    take-set_at places len (len + 1) byte refl (omega (arith, count, room)) in
    let digits : encode_lower (take (len + 1) (set places len byte)) ≡ encode_lower (take len places) ++ get_or text end 0 ∷ get_or text (end + 1) 0 ∷ [] =
    ap encode_lower more ∙ encode-push (take len places) high low low-small ∙ rw (high-is, low-is) refl in
    let next = behind-hex text end high ends so.stands.inside high-small high-is in
    let two : drop end text ≡ get_or text end 0 ∷ get_or text (end + 1) 0 ∷ drop (end + 2) text = grind (arith, common_steps, drop-cons, next) in
    record {
      stands = record {
        spelled = so.stands.spelled ∙ ap (λ r. 35 ∷ (encode_lower (take len places) ++ r)) two
            ∙ ap (λ xs. 35 ∷ xs) (sym (append_assoc (encode_lower (take len places)) (get_or text end 0 ∷ get_or text (end + 1) 0 ∷ []) (drop (end + 2) text)))
            ∙ ap (λ ds. 35 ∷ (ds ++ drop (end + 2) text)) (sym digits);
        inside = (let last = behind-hex text (end + 1) low ends next low-small low-is in omega (arith, last));
      };
      few = omega (arith, room);
      all = length-set places len byte ∙ count;
      bytes = subst IsBytes (sym more) (bytes-push (take len places) byte so.bytes (omega (arith, high-small, low-small)));
      behind = drop-set-lt (len + 1) places len byte (omega arith) ∙ one-fewer;
    } where
      one-fewer : drop (len + 1) places ≡ replicate (MOST_VALUE_BYTES - (len + 1)) 0
      one-fewer = grind (arith, common_steps, twice 1 len places, so.behind, drop-replicate {X = ℕ} 1 (MOST_VALUE_BYTES - len) 0)

-- the bytes that stand there are few
decoded-few : (text : List ℕ) (start len : ℕ) (places : List ℕ) (end : ℕ) → Decoded text start len places end → length (take len places) ≤ MOST_VALUE_BYTES
decoded-few text start len places end so = let all = so.all in let few = so.few in grind (arith, common_steps)

-- and the value that is these bytes stands there
pub decoded-value : (ed : Edition) (text : List ℕ) (start len : ℕ) (places : List ℕ) (end : ℕ) (v : Value) → has_bytes ed ≡ true
    → Decoded text start len places end → v ≡ bytes_of (take len places) → ValueStands ed text start v end
decoded-value ed text start len places end v has so is =
    let bs : List ℕ = take len places in
    let fits : IsContent (Bytes bs) = (decoded-few text start len places end so, so.bytes) in
    let same = content-saying (Bytes bs) fits in
    subst (λ x. ValueStands ed text start x end) (sym is) record {
      stands = subst (λ f. Stands text start f end) (ap field_of (sym same)) so.stands;
      fits = is-value (Bytes bs) fits;
      of_edition = ap (has_content ed) same ∙ has;
    }

-- a port, a mark and a value are a case that sends
pub send-stands : (ed : Edition) (bs : List ℕ) (start mark : ℕ) (p : Port) (at mid : ℕ) (v : Value) (end : ℕ)
    → Stands bs start (decimal p.0) at → p.0 ≤ GREATEST_PORT → Stands bs at (mark ∷ []) mid → ValueStands ed bs mid v end
    → SendStands ed bs start mark (Send p v) end
send-stands ed bs start mark p at mid v end port few between value = record {
  port = p;
  value = v;
  is = refl;
  stands = record {
    spelled = port.spelled ∙ ap (λ r. decimal p.0 ++ r) (between.spelled ∙ ap (λ r. mark ∷ r) value.stands.spelled)
        ∙ sym (append_assoc (decimal p.0) (mark ∷ value_field v) (drop end bs));
    inside = value.stands.inside;
  };
  fits = (few, value.fits);
  of_edition = value.of_edition;
}

-- a spelling, and another behind it
pub stands-then : {bs x y : List ℕ} {start at end : ℕ} → Stands bs start x at → Stands bs at y end → Stands bs start (x ++ y) end
stands-then {bs} {x} {y} {end = end} first next = record {
  spelled = first.spelled ∙ ap (λ r. x ++ r) next.spelled ∙ sym (append_assoc x y (drop end bs));
  inside = next.inside;
}

-- the case of a select that sends
pub case-send : (ed : Edition) (bs : List ℕ) (start at : ℕ) (c : Case) (end : ℕ) → Stands bs start (codes " s") at → SendStands ed bs at 58 c end
    → CaseStands ed bs start (codes " " ++ case_field c) c end
case-send ed bs start at c end word so = record {
  stands = subst (λ d. Stands bs start (codes " " ++ case_field d) end) (sym so.is) (stands-then word so.stands);
  fits = so.fits;
  of_edition = so.of_edition;
}

-- and one that receives
pub case-recv : (ed : Edition) (bs : List ℕ) (start at : ℕ) (c : Case) (end : ℕ) → Stands bs start (codes " r") at → RecvStands bs at c end
    → CaseStands ed bs start (codes " " ++ case_field c) c end
case-recv ed bs start at c end word so = record {
  stands = subst (λ d. Stands bs start (codes " " ++ case_field d) end) (sym so.is) (stands-then word so.stands);
  fits = so.fits;
  of_edition = ap (has_case ed) so.is;
}

-- a plain send
pub plain-send : (ed : Edition) (bs : List ℕ) (start at : ℕ) (c : Case) (end : ℕ) → Stands bs start (codes " send ") at → SendStands ed bs at 32 c end
    → CaseStands ed bs start (spaced (call_fields (c ∷ []) false 0)) c end
plain-send ed bs start at c end word so = record {
  stands = subst (λ d. Stands bs start (spaced (call_fields (d ∷ []) false 0)) end) (sym so.is) (
      subst (λ v. Stands bs start (codes " send " ++ (decimal so.port.0 ++ 32 ∷ v)) end) (sym (append-nil (value_field so.value)))
      (stands-then word so.stands)
      );
  fits = so.fits;
  of_edition = so.of_edition;
}

-- and a plain receive
pub plain-recv : (ed : Edition) (bs : List ℕ) (start at : ℕ) (c : Case) (end : ℕ) → Stands bs start (codes " recv ") at → RecvStands bs at c end
    → CaseStands ed bs start (spaced (call_fields (c ∷ []) false 0)) c end
plain-recv ed bs start at c end word so = record {
  stands = subst (λ d. Stands bs start (spaced (call_fields (d ∷ []) false 0)) end) (sym so.is) (
      subst (λ n. Stands bs start (codes " recv " ++ n) end) (sym (append-nil (decimal so.port.0))) (stands-then word so.stands)
      );
  fits = so.fits;
  of_edition = ap (has_case ed) so.is;
}

-- four bytes that are the same number are the same
same-word : (xs ys : List ℕ) (n : ℕ) → length xs ≡ 4 → length ys ≡ 4 → ((i : ℕ) → get_or xs i 0 < 256) → ((i : ℕ) → get_or ys i 0 < 256)
    → n ≡ from_le_bytes w32 xs → n ≡ from_le_bytes w32 ys → xs ≡ ys
same-word xs ys n four also small little is same = sym (le_bytes_4 xs n four small is) ∙ le_bytes_4 ys n also little same

-- the four bytes at a place
abbrev pub four_at : List ℕ → ℕ → List ℕ
four_at bs i = get_or bs i 0 ∷ get_or bs (i + 1) 0 ∷ get_or bs (i + 2) 0 ∷ get_or bs (i + 3) 0 ∷ []

first-four : (bs : List ℕ) (i : ℕ) → i + 4 < length bs → drop i bs ≡ four_at bs i ++ drop (i + 4) bs
first-four bs i inside = grind (arith, common_steps, drop-cons)

four-small : (bs : List ℕ) (at i : ℕ) → ((k : ℕ) → get_or bs k 0 < 256) → get_or (four_at bs at) i 0 < 256
four-small bs at i small = grind (arith, common_steps, small at, small (at + 1), small (at + 2), small (at + 3))

-- four bytes stand where they are the same number
pub stands-word : (bs : List ℕ) (start : ℕ) (word : List ℕ) (n : ℕ) → start + 4 < length bs → length word ≡ 4
    → ((i : ℕ) → get_or bs i 0 < 256) → ((i : ℕ) → get_or word i 0 < 256)
    → n ≡ from_le_bytes w32 (four_at bs start) → n ≡ from_le_bytes w32 word → Stands bs start word (start + 4)
stands-word bs start word n inside four small little here there = record {
  spelled = first-four bs start inside ∙ ap (λ w. w ++ drop (start + 4) bs)
      (same-word (four_at bs start) word n refl four (λ i. four-small bs start i small) little here there);
  inside = inside;
}

all-push : (cs : List Case) (c : Case) → AllByRecursion CaseFits cs → CaseFits c → AllByRecursion CaseFits (cs ++ c ∷ [])
all-push [] c all one = (one, tt)
all-push (d ∷ cs) c all one = (all.0, all-push cs c all.1 one)

spaced-push : (cs : List Case) (c : Case) → spaced_cases (cs ++ c ∷ []) ≡ spaced_cases cs ++ (codes " " ++ case_field c)
spaced-push [] c = append-nil (codes " " ++ case_field c)
spaced-push (d ∷ cs) c = ap (λ r. (codes " " ++ case_field d) ++ r) (spaced-push cs c)
    ∙ sym (append_assoc (codes " " ++ case_field d) (spaced_cases cs) (codes " " ++ case_field c))

all-of-push : (ed : Edition) (cs : List Case) (c : Case) → list_all (has_case ed) cs ≡ true → has_case ed c ≡ true
    → list_all (has_case ed) (cs ++ c ∷ []) ≡ true
all-of-push ed cs c all one = list_all-append (has_case ed) cs (c ∷ []) ∙ rw (all, one) refl

-- one case more stands there
pub cases-push : (ed : Edition) (bs : List ℕ) (start : ℕ) (cs : List Case) (at : ℕ) (c : Case) (end : ℕ) → CasesStand ed bs start cs at
    → CaseStands ed bs at (codes " " ++ case_field c) c end → CasesStand ed bs start (cs ++ c ∷ []) end
cases-push ed bs start cs at c end so one = record {
  stands = record {
    spelled = so.stands.spelled ∙ ap (λ r. spaced_cases cs ++ r) one.stands.spelled
        ∙ sym (append_assoc (spaced_cases cs) (codes " " ++ case_field c) (drop end bs)) ∙ ap (λ t. t ++ drop end bs) (sym (spaced-push cs c));
    inside = one.stands.inside;
  };
  fits = all-push cs c so.fits one.fits;
  of_edition = all-of-push ed cs c so.of_edition one.of_edition;
}

-- one case more, which is written over what stands in its place of a list
pub cases-over : (ed : Edition) (bs : List ℕ) (start : ℕ) (before now places : List Case) (count at : ℕ) (c : Case) (end : ℕ)
    → take count now ≡ take count before → count < length now → places ≡ now → CasesStand ed bs start (take count before) at
    → CaseStands ed bs at (codes " " ++ case_field c) c end
    → CasesStand ed bs start (take (count + 1) (refill (length now) now (slice_set places count c))) end
cases-over ed bs start before now places count at c end kept room same so one =
    let more : take (count + 1) (refill (length now) now (slice_set places count c)) ≡ take count before ++ c ∷ [] =
    rw same (grind (arith, common_steps, kept)) in
    subst (λ cs. CasesStand ed bs start cs end) (sym more) (cases-push ed bs start (take count before) at c end so one)

-- nothing stands at each place behind which there is more
pub stands-nothing : (bs : List ℕ) (at : ℕ) → at < length bs → Stands bs at [] at
stands-nothing bs at inside = record { spelled = refl; inside = inside }

-- a word, cases and what says whether there is a default are a select, where that has no short form
pub selected : (ed : Edition) (bs : List ℕ) (start at mid end : ℕ) (cs : List Case) (d : Bool) (w : ℕ) → Stands bs start (decimal w) at → w ≤ GREATEST_WORD
    → CasesStand ed bs at cs mid → length cs ≤ CASE_PLACES → Stands bs mid (spaced (default_field d)) end
    → spelled cs d w ≡ Ok (call cs d w) → SelectStands ed bs start (call cs d w) end
selected ed bs start at mid end cs d w word small cases few last long = record {
  cases = cs;
  default = d;
  word = w;
  is = refl;
  long = long;
  stands = record {
    spelled = word.spelled ∙ ap (λ r. decimal w ++ r) (cases.stands.spelled ∙ ap (λ r. spaced_cases cs ++ r) last.spelled)
        ∙ sym (append_assoc (decimal w) (spaced_cases cs) (spaced (default_field d) ++ drop end bs))
        ∙ sym (append_assoc (decimal w ++ spaced_cases cs) (spaced (default_field d)) (drop end bs));
    inside = last.inside;
  };
  fits = record { few = few; each = cases.fits; word_fits = small };
  of_edition = cases.of_edition;
}

-- what has no short form is spelled as a select
long-form : (cs : List Case) (d : Bool) (w : ℕ) (step : Step) → spelled cs d w ≡ Ok step → call_fields cs d w ≡ select_fields cs d w
long-form [] d w step h = refl
long-form (Send p v ∷ []) true w step h = refl
long-form (Send p v ∷ []) false zero step h = cc
long-form (Send p v ∷ []) false (suc w) step h = refl
long-form (Recv p ∷ []) true w step h = refl
long-form (Recv p ∷ []) false zero step h = cc
long-form (Recv p ∷ []) false (suc w) step h = refl
long-form (Send p v ∷ c ∷ cs) d w step h = refl
long-form (Recv p ∷ c ∷ cs) d w step h = refl

-- the word of a select and what stands behind it are its step
pub select-stands : (ed : Edition) (bs : List ℕ) (start at : ℕ) (step : Step) (end : ℕ) → Stands bs start (codes " select ") at
    → SelectStands ed bs at step end
    → StepStands ed bs start step end
select-stands ed bs start at step end word so =
    let text : List ℕ = decimal so.word ++ spaced_cases so.cases ++ spaced (default_field so.default) in
    let whole : spaced (step_fields step) ≡ codes " select " ++ text =
    ap (λ s. spaced (step_fields s)) so.is ∙ ap spaced (long-form so.cases so.default so.word step so.long)
    ∙ ap (λ r. codes " select " ++ (decimal so.word ++ r)) (spaced-select so.cases (default_field so.default))
    ∙ ap (λ r. codes " select " ++ r) (sym (append_assoc (decimal so.word) (spaced_cases so.cases) (spaced (default_field so.default)))) in
    record {
      stands = record {
        spelled = word.spelled ∙ ap (λ r. codes " select " ++ r) so.stands.spelled ∙ ap (λ t. t ++ drop end bs) (sym whole);
        inside = so.stands.inside;
      };
      fits = subst StepFits (sym so.is) so.fits;
      of_edition = ap (is_of ed) so.is ∙ so.of_edition;
      no_exit = ap is_exit so.is;
    }

-- the word of a step and the number behind it are the step
pub number-stands : (ed : Edition) (bs : List ℕ) (start at : ℕ) (word : List ℕ) (step : Step) (end : ℕ)
    → Stands bs start (codes " " ++ word ++ codes " ") at → NumberStands ed bs at word step end → StepStands ed bs start step end
number-stands ed bs start at word step end spelled so =
    let whole : spaced (step_fields step) ≡ codes " " ++ word ++ codes " " ++ decimal so.number =
    ap spaced so.is ∙ simp (append_assoc, append-nil) in
    record {
      stands = subst (λ text. Stands bs start text end) (sym whole) (stands-then spelled so.stands);
      fits = so.fits;
      of_edition = so.of_edition;
      no_exit = so.no_exit;
    }

-- the word of a reopen and what stands behind it are its step
pub reopen-stands : (ed : Edition) (bs : List ℕ) (start at : ℕ) (step : Step) (end : ℕ) → Stands bs start (codes " reopen ") at
    → ReopenStands ed bs at step end → StepStands ed bs start step end
reopen-stands ed bs start at step end spelled so =
    let whole : spaced (step_fields step) ≡ codes " reopen " ++ (decimal so.port ++ codes " " ++ decimal so.cap) =
    ap spaced so.is ∙ ap (λ cap. codes " reopen " ++ (decimal so.port ++ (codes " " ++ cap))) (append-nil (decimal so.cap))
    ∙ ap (λ text. codes " reopen " ++ text) (sym (append_assoc (decimal so.port) (codes " ") (decimal so.cap))) in
    record {
      stands = subst (λ text. Stands bs start text end) (sym whole) (stands-then spelled so.stands);
      fits = so.fits;
      of_edition = so.of_edition;
      no_exit = so.no_exit;
    }

-- a process, its step and a newline are a line
pub begins-line : (ed : Edition) (bs : List ℕ) (e : Entry) (at end : ℕ) → Stands bs 0 (decimal e.pid.0) at → e.pid.0 ≤ GREATEST_PID
    → StepStands ed bs at e.step end
    → get_or bs end 0 ≡ 10 → Begins ed bs e (end + 1)
begins-line ed bs e at end pid small step newline = record {
  spelled = grind (
    arith,
    common_steps,
    pid.spelled,
    step.stands.spelled,
    join-spaced (decimal e.pid.0) (step_fields e.step),
    drop-cons bs end 0 step.stands.inside,
  );
  inside = omega (arith, step.stands.inside);
  fits = record { pid = small; step = step.fits; of_edition = step.of_edition };
  no_exit = step.no_exit;
}

-- where the line ends
end-of-line : (bs : List ℕ) (e : Entry) (end : ℕ) → bs ≡ line e ++ drop end bs → end ≤ length bs → end ≡ length (line e)
end-of-line bs e end spelled inside =
    let l : length bs ≡ length (line e) + length (drop end bs) = ap length spelled ∙ length-append (line e) (drop end bs) in
    let r = length-drop end bs in omega (arith, l, r)

-- which is behind some byte
pub end-some : (bs : List ℕ) (e : Entry) (end : ℕ) → bs ≡ line e ++ drop end bs → end ≤ length bs → 0 < end
end-some bs e end spelled inside =
    let here = end-of-line bs e end spelled inside in let l = length-append (body e) (codes "\n") in omega (arith, here, l)

with-one : (e : Entry) (r : Reading) → behind (e ∷ []) r ≡ with_entry e r
with-one e (Reads head es) = refl
with-one e (Faulty k kind) = refl

-- a line that is spelled, within the limits, is read as its entry; so many steps stand behind it
any-line-again : (head : Head) (k start steps after : ℕ) (bs : List ℕ) (e : Entry) (end : ℕ) → bs ≡ line e ++ drop end bs → end ≤ length bs
    → Fits head.edition e → start + end ≤ MOST_BYTES → after ≡ steps + steps_of (e ∷ []) → after ≤ MOST_STEPS
    → entries_from head k start steps (rows bs)
    ≡ with_entry e (entries_from head (k + 1) (start + end) after (rows (take (length bs - end) (drop end bs))))
any-line-again head k start steps after bs e end spelled inside fits lim count few =
    let here = end-of-line bs e end spelled inside in
    let rest : take (length bs - end) (drop end bs) ≡ drop end bs = grind (arith, common_steps) in
    let all : length (flat_map line (e ∷ [])) ≡ length (line e) = ap length (append-nil (line e)) in
    ap (entries_from head k start steps) (ap rows spelled ∙ rows-entry head.edition e (drop end bs) fits)
    ∙ entries-again head (e ∷ []) (rows (drop end bs)) k start steps (k + 1) (start + end) after (fits, tt) refl
    (omega (arith, here, all)) count lim few
    ∙ with-one e (entries_from head (k + 1) (start + end) after (rows (drop end bs)))
    ∙ ap (λ r. with_entry e (entries_from head (k + 1) (start + end) after (rows r))) (sym rest)

-- that of a step counts
pub line-again : (head : Head) (k start steps : ℕ) (bs : List ℕ) (e : Entry) (end : ℕ) → Begins head.edition bs e end → start + end ≤ MOST_BYTES
    → steps < MOST_STEPS
    → entries_from head k start steps (rows bs)
    ≡ with_entry e (entries_from head (k + 1) (start + end) (steps + 1) (rows (take (length bs - end) (drop end bs))))
line-again head k start steps bs e end so lim few =
    let one : steps_of (e ∷ []) ≡ 1 = ap (λ b. cond b 0 1 + 0) so.no_exit in
    any-line-again head k start steps (steps + 1) bs e end so.spelled so.inside so.fits lim (omega (arith, one)) (omega arith)

-- each edition has exits
exit-fits : (ed : Edition) (e : Entry) → e.pid.0 ≤ GREATEST_PID → e.step ≡ Exit → Fits ed e
exit-fits ed e small exit = record { pid = small; step = subst StepFits (sym exit) (omega arith); of_edition = ap (is_of ed) exit }

-- that of an exit does not
pub exit-again : (head : Head) (k start steps : ℕ) (bs : List ℕ) (e : Entry) (end : ℕ) → BeginsExit bs e end → start + end ≤ MOST_BYTES
    → steps ≤ MOST_STEPS
    → entries_from head k start steps (rows bs)
    ≡ with_entry e (entries_from head (k + 1) (start + end) steps (rows (take (length bs - end) (drop end bs))))
exit-again head k start steps bs e end so lim few =
    let none : steps_of (e ∷ []) ≡ 0 = ap (λ step. cond (is_exit step) 0 1 + 0) so.exit in
    any-line-again head k start steps steps bs e end so.spelled so.inside (exit-fits head.edition e so.pid_fits so.exit) lim (omega (arith, none)) few
