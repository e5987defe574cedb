-- What the data say that an entry asks tells the entry: a byte of it is a letter, or part of a number or of a value.
use Rattle.std.proofs.Common.{◌≡◌, ℕ, zero, ◌==◌, Bool, true, false, not, ◌&&◌, ◌||◌, List, [], ◌∷◌, ◌++◌, codes, refl}
use Rattle.std.proofs.Common.{ap, ◌∙◌, arith, drop, append_assoc, append-nil, if◌then◌else◌}
use Rattle.std.proofs.lemmas.Bool.{and_parts}
use Rattle.std.proofs.lemmas.Grind.{common_steps, flat_map-append}
use Rattle.std.proofs.lemmas.List.Folds.{list_all-append}
use Rattle.std.specs.Prelude.{decimal, map}
use Rattle.std.specs.Char.{is_ascii_digit}
use Rattle.std.specs.List.{flat_map, join_with_byte, list_all}
use Rattle.hub_base.specs.declared.case.Case.{Case}
use Rattle.hub_base.specs.declared.case.Case.TheVariants.{Send, Recv}
use Rattle.hub_base.specs.declared.entry.Step.TheVariants.{Call, Exit, Reopen}
use Rattle.hub_base.specs.declared.value.Value.{Value}
use Rattle.hub_base.specs.Content.{Content, IsContent}
use Rattle.hub_base.specs.Content.Content.{Num, Bytes}
use Rattle.hub_base.specs.Entry.{Entry, Step}
use Rattle.hub_base.specs.Lines.{call_fields, case_field, default_field, is_hex, select_fields, step_fields}
use Rattle.hub_base.specs.Text.{body}
use Rattle.hub_base.specs.Value.{content, field_of, value_field}
use Rattle.hub_base.proofs.Decimals.{all-digits}
use Rattle.hub_base.proofs.HexDigits.{encoded-hex}
use Rattle.hub_base.proofs.Numerals.{all-lack, lacks}
use Rattle.hub_base.proofs.Values.{every_value}
use Rattle.hub_page.specs.Entries.{call_words, default_mark, entry_words, select_words, step_words}

-- ---- numbers and values
-- a byte of a number or of a value
abbrev in_value : ℕ → Bool
in_value c = is_hex c || (c == 35)

each : (p q : ℕ → Bool) (xs : List ℕ) → ((c : ℕ) → p c ≡ true → q c ≡ true) → list_all p xs ≡ true → list_all q xs ≡ true
each p q [] h all = refl
each p q (x ∷ xs) h all = let two = and_parts (p x) (list_all p xs) all in rw (h x two.0, each p q xs h two.1) refl

number-in : (n : ℕ) → list_all in_value (decimal n) ≡ true
number-in n = each is_ascii_digit in_value (decimal n) (λ c h. rw h refl) (all-digits n)

content-in : (c : Content) → IsContent c → list_all in_value (field_of c) ≡ true
content-in (Num n) fits = number-in n
content-in (Bytes bs) fits = each is_hex in_value (drop 1 (field_of (Bytes bs))) (λ c h. rw h refl) (encoded-hex bs fits.1)

value-in : (v : Value) → list_all in_value (value_field v) ≡ true
value-in v = content-in (content v) (every_value v).fits

-- ---- neither a newline nor a semicolon
abbrev pub in_line : ℕ → Bool
in_line c = not (c == 10)

abbrev in_word : ℕ → Bool
in_word c = in_line c && not (c == 59)

pub all-flat : {A : Type 0} (p : ℕ → Bool) (f : A → List ℕ) (xs : List A) → list_all p (flat_map f xs) ≡ list_all (λ x. list_all p (f x)) xs
all-flat p f [] = refl
all-flat p f (x ∷ xs) = list_all-append p (f x) (flat_map f xs) ∙ ap (λ b. list_all p (f x) && b) (all-flat p f xs)

pub each-true : {A : Type 0} (xs : List A) → list_all (λ x. true) xs ≡ true
each-true [] = refl
each-true (x ∷ xs) = each-true xs

value-word : (c : ℕ) → in_value c ≡ true → in_word c ≡ true
value-word c h = grind (arith, common_steps)

word-number : (n : ℕ) → list_all in_word (decimal n) ≡ true
word-number n = each in_value in_word (decimal n) value-word (number-in n)

word-case : (c : Case) → list_all in_word (case_field c) ≡ true
word-case (Send p v) =
    list_all-append in_word (decimal p.0) (58 ∷ value_field v)
    ∙ rw (word-number p.0) (each in_value in_word (value_field v) value-word (value-in v))
word-case (Recv p) = word-number p.0

word-default : (d : Bool) → list_all in_word (default_mark d) ≡ true
word-default true = refl
word-default false = refl

word-select : (cs : List Case) (d : Bool) (w : ℕ) → list_all in_word (select_words cs d w) ≡ true
word-select cs d w = simp (list_all-append, all-flat, each-true, word-number, word-case, word-default)

word-call : (cs : List Case) (d : Bool) (w : ℕ) → list_all in_word (call_words cs d w) ≡ true
word-call (c ∷ []) false zero = word-case c
word-call cs d w = word-select cs d w

word-step : (step : Step) → list_all in_word (step_words step) ≡ true
word-step (Call cases d w) = word-call cases.items d w
word-step Exit = refl
word-step (Reopen p cap) = simp (list_all-append, word-number)
word-step step = simp word-number

word-entry : (e : Entry) → list_all in_word (entry_words e) ≡ true
word-entry e = list_all-append in_word (decimal e.pid.0) (step_words e.step) ∙ rw (word-number e.pid.0) (word-step e.step)

word-line : (xs : List ℕ) → list_all in_word xs ≡ true → list_all in_line xs ≡ true
word-line xs h = each in_word in_line xs (λ c h. (and_parts (in_line c) (not (c == 59)) h).0) h

pub one-number : (n : ℕ) → list_all in_line (decimal n) ≡ true
one-number n = word-line (decimal n) (word-number n)

pub entry-line : (e : Entry) → list_all in_line (entry_words e) ≡ true
entry-line e = word-line (entry_words e) (word-entry e)

pub entry-word : (e : Entry) → lacks 59 (entry_words e) ≡ true
entry-word e = all-lack in_word 59 (entry_words e) (λ c h. (and_parts (in_line c) (not (c == 59)) h).1) (word-entry e)

-- ---- spelled as a journal does
-- a colon is a space there
abbrev colon : ℕ → List ℕ
colon c = if c == 58 then 32 ∷ [] else c ∷ []

-- in a select a space stands before each case and before a default
abbrev mark : ℕ → List ℕ
mark c = if (c == 115) || (c == 114) then 32 ∷ c ∷ [] else if c == 33 then codes " default" else c ∷ []

-- a step, by its letter; nothing of a sketch, which begins with `~`
abbrev lettered : ℕ → List ℕ → List ℕ
lettered c cs =
    if c == 109 then codes " make " ++ cs
    else if c == 115 then codes " send " ++ flat_map colon cs
    else if c == 114 then codes " recv " ++ cs
    else if c == 99 then codes " close " ++ cs
    else if c == 101 then codes " exit"
    else if c == 120 then codes " cancel " ++ cs
    else if c == 103 then codes " start " ++ cs
    else if c == 111 then codes " reopen " ++ flat_map colon cs
    else if c == 126 then []
    else codes " select " ++ flat_map mark cs

abbrev pub expanded : List ℕ → List ℕ
expanded [] = []
expanded (c ∷ cs) = if is_ascii_digit c then c ∷ expanded cs else lettered c cs

expanded-digits : (ds x : List ℕ) → list_all is_ascii_digit ds ≡ true → expanded (ds ++ x) ≡ ds ++ expanded x
expanded-digits [] x h = refl
expanded-digits (c ∷ cs) x h =
    let two = and_parts (is_ascii_digit c) (list_all is_ascii_digit cs) h in rw two.0 (ap (λ l. c ∷ l) (expanded-digits cs x two.1))

same : (f : ℕ → List ℕ) (xs : List ℕ) → ((c : ℕ) → in_value c ≡ true → f c ≡ c ∷ []) → list_all in_value xs ≡ true → flat_map f xs ≡ xs
same f [] h all = refl
same f (x ∷ xs) h all = let two = and_parts (in_value x) (list_all in_value xs) all in rw (h x two.0) (ap (λ l. x ∷ l) (same f xs h two.1))

no-colon : (c : ℕ) → in_value c ≡ true → colon c ≡ c ∷ []
no-colon c h = grind (arith, common_steps)

no-mark : (c : ℕ) → in_value c ≡ true → mark c ≡ c ∷ []
no-mark c h = grind (arith, common_steps)

colon-between : (xs ys : List ℕ) → list_all in_value xs ≡ true → list_all in_value ys ≡ true → flat_map colon (xs ++ 58 ∷ ys) ≡ xs ++ 32 ∷ ys
colon-between xs ys h k = flat_map-append colon xs (58 ∷ ys) ∙ rw (same colon xs no-colon h, same colon ys no-colon k) refl

marked-case : (c : Case) → flat_map mark (case_field c) ≡ 32 ∷ case_field c
marked-case (Send p v) =
    ap (λ l. 32 ∷ 115 ∷ l)
    (flat_map-append mark (decimal p.0) (58 ∷ value_field v)
    ∙ rw (same mark (decimal p.0) no-mark (number-in p.0), same mark (value_field v) no-mark (value-in v)) refl)
marked-case (Recv p) = ap (λ l. 32 ∷ 114 ∷ l) (same mark (decimal p.0) no-mark (number-in p.0))

marked-cases : (f : List ℕ) (cs : List Case) (d : Bool) →
    f ++ flat_map mark (flat_map case_field cs ++ default_mark d) ≡ join_with_byte 32 (f ∷ (map case_field cs ++ default_field d))
marked-cases f [] true = refl
marked-cases f [] false = append-nil f
marked-cases f (c ∷ cs) d =
    let more = flat_map case_field cs ++ default_mark d in
    ap (λ l. f ++ flat_map mark l) (append_assoc (case_field c) (flat_map case_field cs) (default_mark d))
    ∙ ap (λ l. f ++ l) (flat_map-append mark (case_field c) more ∙ ap (λ l. l ++ flat_map mark more) (marked-case c))
    ∙ ap (λ l. f ++ 32 ∷ l) (marked-cases (case_field c) cs d)

select-read : (f : List ℕ) (cs : List Case) (d : Bool) (w : ℕ) →
    f ++ expanded (select_words cs d w) ≡ join_with_byte 32 (f ∷ select_fields cs d w)
select-read f cs d w =
    let more = flat_map case_field cs ++ default_mark d in
    ap (λ l. f ++ (codes " select " ++ l))
    (ap (flat_map mark) (append_assoc (decimal w) (flat_map case_field cs) (default_mark d))
    ∙ flat_map-append mark (decimal w) more ∙ ap (λ l. l ++ flat_map mark more) (same mark (decimal w) no-mark (number-in w))
    ∙ marked-cases (decimal w) cs d)

call-read : (f : List ℕ) (cs : List Case) (d : Bool) (w : ℕ) → f ++ expanded (call_words cs d w) ≡ join_with_byte 32 (f ∷ call_fields cs d w)
call-read f (Send p v ∷ []) false zero =
    ap (λ l. f ++ (codes " send " ++ l)) (colon-between (decimal p.0) (value_field v) (number-in p.0) (value-in v))
call-read f (Recv p ∷ []) false zero = refl
call-read f cs d w = select-read f cs d w

step-read : (f : List ℕ) (step : Step) → f ++ expanded (step_words step) ≡ join_with_byte 32 (f ∷ step_fields step)
step-read f (Call cases d w) = call-read f cases.items d w
step-read f (Reopen p cap) =
    ap (λ l. f ++ (codes " reopen " ++ flat_map colon l)) (append_assoc (decimal p.0) (codes ":") (decimal cap))
    ∙ ap (λ l. f ++ (codes " reopen " ++ l)) (colon-between (decimal p.0) (decimal cap) (number-in p.0) (number-in cap))
step-read f step = refl

-- an entry of the data is the journal's line
pub entry-read : (e : Entry) → expanded (entry_words e) ≡ body e
entry-read e = expanded-digits (decimal e.pid.0) (step_words e.step) (all-digits e.pid.0) ∙ step-read (decimal e.pid.0) e.step
