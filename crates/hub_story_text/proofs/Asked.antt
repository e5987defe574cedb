-- What a step asks can be read in the line of a story: a line ends at its first newline, and a cell of it at its first two spaces.
use Rattle.std.proofs.Common.{◌≡◌, ◌≢◌, ℕ, zero, suc, ◌+◌, ◌-◌, ◌<◌, ◌==◌, Bool, true, false, cond, not, ◌&&◌, List, [], ◌∷◌, ◌++◌}
use Rattle.std.proofs.Common.{codes, refl, ap, ◌∙◌, sym, subst, arith, Option, Some, None, drop, length, replicate, nat_lt, append_assoc, if◌then◌else◌}
use Rattle.std.proofs.Math.Bool.{and_assoc}
use Rattle.std.proofs.lemmas.Bool.{and_parts, cond_both, ltb-true}
use Rattle.std.proofs.lemmas.Grind.{common_steps}
use Rattle.std.specs.Prelude.{decimal, map}
use Rattle.std.specs.Char.{is_ascii_digit}
use Rattle.std.specs.List.{flat_map, list_all}
use Rattle.std.specs.Option.{option_map_or}
use Rattle.std.specs.Result.{result_ok}
use Rattle.hub_base.specs.declared.case.Case.{Case}
use Rattle.hub_base.specs.declared.case.Case.TheVariants.{Send, Recv}
use Rattle.hub_base.specs.declared.entry.Step.TheVariants.{Call, Exit}
use Rattle.hub_base.specs.declared.head.Edition.{Edition}
use Rattle.hub_base.specs.declared.head.Edition.TheVariants.{Three}
use Rattle.hub_base.specs.declared.value.Value.{Value}
use Rattle.hub_base.specs.Content.{Content}
use Rattle.hub_base.specs.Content.Content.{Num, Bytes}
use Rattle.hub_base.specs.Entry.{Entry, Step}
use Rattle.hub_base.specs.Lines.{call_fields, case_field, default_field, join_front, pieces, read_fields, step_fields}
use Rattle.hub_base.specs.Reading.{Row, front, rows}
use Rattle.hub_base.specs.Text.{Fits, body}
use Rattle.hub_base.specs.Value.{content, field_of, value_field}
use Rattle.hub_base.proofs.Again.{fields-again}
use Rattle.hub_base.proofs.Bodies.{fields-lack, rows-line}
use Rattle.hub_base.proofs.Decimals.{are_digits, decimal-digits}
use Rattle.hub_base.proofs.Editions.{three-has}
use Rattle.hub_base.proofs.Numerals.{all-lack, lacks, lacks-joined, not-true, pieces-joined, pieces-more, pieces-some}
use Rattle.hub_base.proofs.ValueFields.{value-lacks}
use Rattle.hub_base.proofs.Values.{every_value}
use Rattle.hub_story_text.specs.Cells.{gap, spaces, with_cell}

-- ---- numbers
digit-other : (m : ℕ) → m < 35 → (c : ℕ) → is_ascii_digit c ≡ true → not (c == m) ≡ true
digit-other m low c h = grind (arith, common_steps)

decimal-lacks : (m n : ℕ) → m < 35 → lacks m (decimal n) ≡ true
decimal-lacks m n low = by (decimal n) (decimal-digits n) where
  by : (ds : List ℕ) → are_digits ds ≡ true → lacks m ds ≡ true
  by [] h = refl
  by (c ∷ cs) h = all-lack is_ascii_digit m (c ∷ cs) (digit-other m low) h

-- ---- no newline
abbrev pub OneLine : List ℕ → Type 0
OneLine xs = lacks 10 xs ≡ true

pub one-decimal : (n : ℕ) → OneLine (decimal n)
one-decimal n = decimal-lacks 10 n (omega arith)

pub one-value : (v : Value) → OneLine (value_field v)
one-value v = value-lacks 10 v (omega arith) (every_value v)

one-spaces : (n : ℕ) → OneLine (replicate n 32)
one-spaces zero = refl
one-spaces (suc n) = one-spaces n

pub one-both : (xs ys : List ℕ) → lacks 10 (xs ++ ys) ≡ (lacks 10 xs && lacks 10 ys)
one-both [] ys = refl
one-both (x ∷ xs) ys = ap (λ b. not (x == 10) && b) (one-both xs ys) ∙ sym (and_assoc (not (x == 10)) (lacks 10 xs) (lacks 10 ys))

pub one-flat : {A : Type 0} (f : A → List ℕ) (xs : List A) → lacks 10 (flat_map f xs) ≡ list_all (λ x. lacks 10 (f x)) xs
one-flat f [] = refl
one-flat f (x ∷ xs) = one-both (f x) (flat_map f xs) ∙ ap (λ b. lacks 10 (f x) && b) (one-flat f xs)

pub each-true : {A : Type 0} (xs : List A) → list_all (λ x. true) xs ≡ true
each-true [] = refl
each-true (x ∷ xs) = each-true xs

pub one-option : {A : Type 0} (f : A → List ℕ) (o : Option A) (d : List ℕ) →
    lacks 10 (option_map_or f o d) ≡ option_map_or (λ x. lacks 10 (f x)) o (lacks 10 d)
one-option f None d = refl
one-option f (Some x) d = refl

pub option-true : {A : Type 0} (o : Option A) → option_map_or (λ x. true) o true ≡ true
option-true None = refl
option-true (Some x) = refl

pub one-if : (b : Bool) (xs ys : List ℕ) → lacks 10 (cond b xs ys) ≡ cond b (lacks 10 xs) (lacks 10 ys)
one-if true xs ys = refl
one-if false xs ys = refl

pub if-true : (b : Bool) → cond b true true ≡ true
if-true true = refl
if-true false = refl

-- by their parts
pub ruleset parts = (one-both, one-flat, each-true, one-option, option-true, one-if, if-true, one-decimal)

-- ---- reading
-- the fields before two spaces, of the pieces between single spaces
abbrev fields : List (List ℕ) → List (List ℕ)
fields [] = []
fields ([] ∷ ps) = []
fields ((c ∷ cs) ∷ ps) = (c ∷ cs) ∷ fields ps

-- the entry that such fields spell, the first of which begins with a P
abbrev spelled : List (List ℕ) → Option Entry
spelled [] = None
spelled (f ∷ fs) = result_ok (read_fields Three (drop 1 f ∷ fs))

-- the entry that stands behind spaces, a number and two spaces
abbrev entry_in : List (List ℕ) → Option Entry
entry_in [] = None
entry_in ([] ∷ ps) = entry_in ps
entry_in ((c ∷ cs) ∷ []) = None
entry_in ((c ∷ cs) ∷ [] ∷ ps) = if is_ascii_digit c then spelled (fields ps) else None
entry_in ((c ∷ cs) ∷ (d ∷ ds) ∷ ps) = None

abbrev begins_space : List ℕ → Bool
begins_space [] = false
begins_space (c ∷ cs) = c == 32

-- before what is read behind it; a line that begins with a space is passed over, and any other one ends the lines of steps
abbrev with_line : Option Entry → Bool → List Entry → List Entry
with_line (Some e) below more = e ∷ more
with_line None true more = more
with_line None false more = []

abbrev asked_in : List Row → List Entry
asked_in [] = []
asked_in (r ∷ rs) = with_line (entry_in (pieces 32 r.bytes)) (begins_space r.bytes) (asked_in rs)

-- the entries of the steps of whose story this is the text
abbrev pub asked : List ℕ → List Entry
asked text = asked_in (rows text)

-- ---- lines
-- these lines tell these entries
abbrev pub Says : List ℕ → List Entry → Type 0
Says text es = (rest : List ℕ) → asked (text ++ rest) ≡ es ++ asked rest

pub says-both : (x y : List ℕ) (es fs : List Entry) → Says x es → Says y fs → Says (x ++ y) (es ++ fs)
says-both x y es fs h k rest = ap asked (append_assoc x y rest) ∙ h (y ++ rest) ∙ ap (λ l. es ++ l) (k rest) ∙ sym (append_assoc es fs (asked rest))

line-read : (bytes rest : List ℕ) → OneLine bytes →
    asked (bytes ++ codes "\n" ++ rest) ≡ with_line (entry_in (pieces 32 bytes)) (begins_space bytes) (asked rest)
line-read bytes rest one = ap asked (append_assoc bytes (codes "\n") rest) ∙ ap asked_in (rows-line bytes rest one)

-- what is read in such a line is told by it
pub record Tells (line : List ℕ) (e : Entry) : Type 0 where
  pub entry : entry_in (pieces 32 line) ≡ Some e
  pub one : OneLine line

pub says-line : (line : List ℕ) (e : Entry) → Tells line e → Says (line ++ codes "\n") (e ∷ [])
says-line line e so rest = line-read line rest so.one ∙ ap (λ o. with_line o (begins_space line) (asked rest)) so.entry

pub skips-line : (bytes : List ℕ) → OneLine bytes → entry_in (pieces 32 bytes) ≡ None → begins_space bytes ≡ true → Says (bytes ++ codes "\n") []
skips-line bytes one none space rest = line-read bytes rest one ∙ rw (none, space) refl

-- no entry is read behind what begins with no digit
pub no-digit : (c : ℕ) (ps : List (List ℕ)) → is_ascii_digit c ≡ false → entry_in (join_front c ps) ≡ None
no-digit c [] h = refl
no-digit c (p ∷ []) h = refl
no-digit c (p ∷ [] ∷ qs) h = rw h refl
no-digit c (p ∷ (d ∷ ds) ∷ qs) h = refl

-- ---- the number of a line
behind-spaces : (k : ℕ) (x : List ℕ) → entry_in (pieces 32 (replicate k 32 ++ x)) ≡ entry_in (pieces 32 x)
behind-spaces zero x = refl
behind-spaces (suc k) x = behind-spaces k x

behind-number : (k n : ℕ) (x : List ℕ) → entry_in (pieces 32 (replicate k 32 ++ (decimal n ++ 32 ∷ 32 ∷ x))) ≡ spelled (fields (pieces 32 x))
behind-number k n x =
    behind-spaces k (decimal n ++ 32 ∷ 32 ∷ x) ∙ ap entry_in (pieces-more 32 (decimal n) (32 ∷ x) (decimal-lacks 32 n (omega arith)))
    ∙ by (decimal n) (decimal-digits n)
  where
    by : (ds : List ℕ) → are_digits ds ≡ true → entry_in (ds ∷ [] ∷ pieces 32 x) ≡ spelled (fields (pieces 32 x))
    by [] h = cc
    by (c ∷ cs) h = rw (and_parts (is_ascii_digit c) (list_all is_ascii_digit cs) h).0 refl

-- ---- lines that end those of steps
-- one that begins with a letter
pub ends-letter : (text : List ℕ) → asked (112 ∷ text) ≡ []
ends-letter text = by (rows text) where
  by : (rs : List Row) → asked_in (front 112 rs) ≡ []
  by [] = refl
  by (r ∷ rs) = ap (λ o. with_line o false (asked_in rs)) (no-digit 112 (pieces 32 r.bytes) refl)

-- and one that begins with a number, behind which one space stands
pub ends-number : (n : ℕ) (bytes rest : List ℕ) → OneLine (decimal n ++ 32 ∷ 111 ∷ bytes) → asked (decimal n ++ 32 ∷ 111 ∷ bytes ++ codes "\n" ++ rest) ≡ []
ends-number n bytes rest one =
    line-read (decimal n ++ 32 ∷ 111 ∷ bytes) rest one
    ∙ ap (λ ps. with_line (entry_in ps) (begins_space (decimal n ++ 32 ∷ 111 ∷ bytes)) (asked rest))
    (pieces-more 32 (decimal n) (111 ∷ bytes) (decimal-lacks 32 n (omega arith)))
    ∙ by (decimal n) (pieces 32 bytes) (decimal-digits n)
  where
    by : (ds : List ℕ) (ps : List (List ℕ)) → are_digits ds ≡ true →
        with_line (entry_in (ds ∷ join_front 111 ps)) (begins_space (ds ++ 32 ∷ 111 ∷ bytes)) (asked rest) ≡ []
    by [] ps h = cc
    by (c ∷ cs) [] h = rw (not-true (c == 32) (digit-other 32 (omega arith) c (and_parts (is_ascii_digit c) (list_all is_ascii_digit cs) h).0)) refl
    by (c ∷ cs) (p ∷ ps) h = rw (not-true (c == 32) (digit-other 32 (omega arith) c (and_parts (is_ascii_digit c) (list_all is_ascii_digit cs) h).0)) refl

-- ---- the line of a step
abbrev is_some : List ℕ → Bool
is_some [] = false
is_some (c ∷ cs) = true

some-digits : (ds : List ℕ) → are_digits ds ≡ true → is_some ds ≡ true
some-digits [] h = h
some-digits (c ∷ cs) h = refl

some-number : (n : ℕ) → is_some (decimal n) ≡ true
some-number n = some-digits (decimal n) (decimal-digits n)

some-field : (c : Content) → is_some (field_of c) ≡ true
some-field (Num n) = some-number n
some-field (Bytes bs) = refl

some-case : (c : Case) → is_some (case_field c) ≡ true
some-case (Send p v) = refl
some-case (Recv p) = refl

some-cases : (cs : List Case) (d : Bool) → list_all is_some (map case_field cs ++ default_field d) ≡ true
some-cases [] true = refl
some-cases [] false = refl
some-cases (c ∷ cs) d = rw (some-case c) (some-cases cs d)

some-call : (cs : List Case) (d : Bool) (w : ℕ) → list_all is_some (call_fields cs d w) ≡ true
some-call (Send p v ∷ []) false zero = rw (some-number p.0, some-field (content v)) refl
some-call (Recv p ∷ []) false zero = rw (some-number p.0) refl
some-call cs d w = rw (some-number w) (some-cases cs d)

-- no field of a step is empty
some-step : (step : Step) → list_all is_some (step_fields step) ≡ true
some-step (Call cases d w) = some-call cases.items d w
some-step Exit = refl
some-step step = simp some-number

fields-some : (fs : List (List ℕ)) → list_all is_some fs ≡ true → fields fs ≡ fs
fields-some [] h = refl
fields-some ([] ∷ fs) h = cc
fields-some ((c ∷ cs) ∷ fs) h = ap (λ l. (c ∷ cs) ∷ l) (fields-some fs h)

-- an entry that fits an edition fits the last one
fits-last : (ed : Edition) (e : Entry) → Fits ed e → Fits Three e
fits-last ed e fits = record { pid = fits.pid; step = fits.step; of_edition = three-has e.step }

-- the line that has no more than what a step asks
pub asks-told : (ed : Edition) (e : Entry) (k n : ℕ) → Fits ed e → Tells (replicate k 32 ++ decimal n ++ replicate 2 32 ++ 80 ∷ body e) e
asks-told ed e k n fits = record {
  entry = ap (λ l. entry_in (pieces 32 l)) (parts (replicate k 32) (decimal n) (80 ∷ body e)) ∙ behind-number k n (80 ∷ body e)
      ∙ ap (λ ps. spelled (fields (join_front 80 ps))) (pieces-joined 32 (decimal e.pid.0) (step_fields e.step) (fields-lack ed 32 e (omega arith) fits))
      ∙ ap (λ fs. spelled ((80 ∷ decimal e.pid.0) ∷ fs)) (fields-some (step_fields e.step) (some-step e.step))
      ∙ ap result_ok (fields-again Three e (fits-last ed e fits));
  one = (let said : OneLine (body e) = lacks-joined 10 (decimal e.pid.0) (step_fields e.step) refl (fields-lack ed 10 e (omega arith) fits) in
      simp (one-both, one-spaces, one-decimal, said));
}
  where
    parts : (a b c : List ℕ) → a ++ b ++ replicate 2 32 ++ c ≡ a ++ (b ++ 32 ∷ 32 ∷ c)
    parts a b c = simp append_assoc

-- ---- cells behind it
front-append : (c : ℕ) (ps qs : List (List ℕ)) → ps ≢ [] → join_front c (ps ++ qs) ≡ join_front c ps ++ qs
front-append c [] qs some = absurd (some refl)
front-append c (p ∷ ps) qs some = refl

pieces-both : (xs ys : List ℕ) → pieces 32 (xs ++ 32 ∷ ys) ≡ pieces 32 xs ++ pieces 32 ys
pieces-both [] ys = refl
pieces-both (c ∷ cs) ys = by (c == 32) (pieces-both cs ys) where
  by : (b : Bool) → pieces 32 (cs ++ 32 ∷ ys) ≡ pieces 32 cs ++ pieces 32 ys →
      cond b ([] ∷ pieces 32 (cs ++ 32 ∷ ys)) (join_front c (pieces 32 (cs ++ 32 ∷ ys)))
      ≡ cond b ([] ∷ pieces 32 cs) (join_front c (pieces 32 cs)) ++ pieces 32 ys
  by true rest = ap (λ ps. [] ∷ ps) rest
  by false rest = ap (join_front c) rest ∙ front-append c (pieces 32 cs) (pieces 32 ys) (pieces-some 32 cs)

fields-more : (ps qs : List (List ℕ)) → fields (ps ++ [] ∷ qs) ≡ fields ps
fields-more [] qs = refl
fields-more ([] ∷ ps) qs = refl
fields-more ((c ∷ cs) ∷ ps) qs = ap (λ l. (c ∷ cs) ∷ l) (fields-more ps qs)

entry-more : (ps qs : List (List ℕ)) (e : Entry) → entry_in ps ≡ Some e → entry_in (ps ++ [] ∷ qs) ≡ Some e
entry-more [] qs e h = cc
entry-more ([] ∷ ps) qs e h = entry-more ps qs e h
entry-more ((c ∷ cs) ∷ []) qs e h = cc
entry-more ((c ∷ cs) ∷ [] ∷ ps) qs e h = ap (λ fs. if is_ascii_digit c then spelled fs else None) (fields-more ps qs) ∙ h
entry-more ((c ∷ cs) ∷ (d ∷ ds) ∷ ps) qs e h = cc

gap-wide : (column len : ℕ) → gap column len ≡ suc (suc (gap column len - 2))
gap-wide column len =
    cond_both (nat_lt (len + 2) column) (column - len) 2 (λ n. n ≡ suc (suc (n - 2))) (λ h. omega (arith, ltb-true (len + 2) column h)) (λ h. refl)

-- a line tells the same with a cell more
pub cell-told : {line : List ℕ} {e : Entry} (column : ℕ) (words : List ℕ) → Tells line e → OneLine words → Tells (with_cell column line words) e
cell-told {line} {e} column [] so one = so
cell-told {line} {e} column (c ∷ cs) so one =
    let k = gap column (length line) - 2 in
    let x = replicate k 32 ++ c ∷ cs in
    subst (λ g. Tells (line ++ spaces g ++ c ∷ cs) e) (sym (gap-wide column (length line))) (record {
      entry = ap (λ l. entry_in (pieces 32 l)) (append_assoc line (spaces (suc (suc k))) (c ∷ cs))
          ∙ ap entry_in (pieces-both line (32 ∷ x)) ∙ entry-more (pieces 32 line) (pieces 32 x) e so.entry;
      one = let first = so.one in simp (one-both, one-spaces, first, one);
    })
