-- An event's line has one newline, and a journal's events have so few lines that their number fits 32 bits.
use Rattle.std.proofs.Common.{◌≡◌, ◌≢◌, ℕ, zero, suc, ◌+◌, ◌-◌, ◌*◌, ◌/◌, ◌%◌, ◌^◌, ◌<◌, ◌≤◌, ◌==◌, Bool, true}
use Rattle.std.proofs.Common.{false, cond, List, [], ◌∷◌, ◌++◌, length, refl, ap, ◌∙◌, arith, length-append}
use Rattle.std.specs.Prelude.{codes, decimal, nat_lt, not, slice_index}
use Rattle.std.specs.List.{flat_map, join_with_byte, list_all}
use Rattle.hex.specs.Hex.{encode_lower, encode_with, lower_digits}
use Rattle.std.specs.Fmt.{digits, digits_onto, digit_glyph}
use Rattle.std.proofs.lemmas.Bool.{and_parts, ne_eqb, not-true}
use Rattle.std.proofs.lemmas.List.Sums.{sum_by-append}
use Rattle.hub_base.specs.declared.head.Head.{Head}
use Rattle.hub_base.specs.declared.case.Case.{Case}
use Rattle.hub_base.specs.declared.case.Case.TheVariants.{Send, Recv}
use Rattle.hub_base.specs.Entry.{Entry, Step}
use Rattle.hub_base.specs.declared.entry.Step.TheVariants.{Make, Call, Close, Exit, Cancel, Start, Reopen}
use Rattle.hub_base.specs.declared.event.Event.{Event}
use Rattle.hub_base.specs.declared.event.Outcome.{Outcome}
use Rattle.hub_base.specs.declared.event.Outcome.TheVariants.{Sent, Got, Drained, Closed}
use Rattle.hub_base.specs.declared.event.What.{What}
use Rattle.hub_base.specs.declared.event.What.TheVariants as what
use Rattle.hub_base.specs.declared.limits.TheConstants.{MOST_EVENTS}
use Rattle.hub_base.specs.EventText.{event_line, what_text, outcome_text}
use Rattle.hub_base.specs.Faults.{fault_number}
use Rattle.hub_base.specs.Lines.{line, step_fields, call_fields}
use Rattle.hub_base.specs.Reading.{head_lines}
use Rattle.hub_base.specs.Runs.{events}
use Rattle.hub_base.specs.Text.{IsText}
use Rattle.hub_base.specs.Content.{Content}
use Rattle.hub_base.specs.Value.{content, field_of, value_field}
use Rattle.hub_base.specs.Content.Content.{Num, Bytes}
use Rattle.hub_replay.specs.Replay.{event_lines}
use Rattle.hub_replay.specs.Verify.{newlines_in}

pub newlines_in-append : (xs ys : List ℕ) → newlines_in (xs ++ ys) ≡ newlines_in xs + newlines_in ys
newlines_in-append xs ys = sum_by-append (λ c. cond (c == 10) 1 0) xs ys

-- a digit is no newline
glyph-by : (b : Bool) (d : ℕ) → cond b (48 + d) (87 + d) ≢ 10
glyph-by true d e = absurd (omega arith)
glyph-by false d e = absurd (omega arith)

newlines_in-glyph : (d : ℕ) (xs : List ℕ) → newlines_in (digit_glyph false d ∷ xs) ≡ newlines_in xs
newlines_in-glyph d xs =
    let one : newlines_in (digit_glyph false d ∷ []) ≡ 0 = ap (λ b. 0 + cond {A = ℕ} b 1 0) (ne_eqb (digit_glyph false d) 10 (glyph-by (nat_lt d 10) d)) in
    let all = newlines_in-append (digit_glyph false d ∷ []) xs in
    omega (arith, one, all)

newlines_in-digits_by : (b : Bool) (xs ys zs : List ℕ) → newlines_in xs ≡ newlines_in zs → newlines_in ys ≡ newlines_in zs
    → newlines_in (cond b xs ys) ≡ newlines_in zs
newlines_in-digits_by true xs ys zs h k = h
newlines_in-digits_by false xs ys zs h k = k

newlines_in-digits_onto : (k n : ℕ) (acc : List ℕ) → newlines_in (digits_onto k 10 false n acc) ≡ newlines_in acc
newlines_in-digits_onto zero n acc = refl
newlines_in-digits_onto (suc k) n acc =
    let one = newlines_in-glyph (n % 10) acc in
    newlines_in-digits_by (n / 10 == 0) (digit_glyph false (n % 10) ∷ acc) _ acc one
    (newlines_in-digits_onto k (n / 10) (digit_glyph false (n % 10) ∷ acc) ∙ one)

newlines_in-decimal : (n : ℕ) → newlines_in (decimal n) ≡ 0
unfolding digits
newlines_in-decimal n = newlines_in-digits_onto 64 n []

-- a text without a newline, and a number behind it
none-behind : (front : List ℕ) (n : ℕ) → newlines_in front ≡ 0 → newlines_in (front ++ decimal n) ≡ 0
none-behind front n none =
    let all = newlines_in-append front (decimal n) in
    let digits = newlines_in-decimal n in
    omega (arith, all, none, digits)

digit-apart : (t : List ℕ) (k : ℕ) → list_all (λ c. not (c == 10)) t ≡ true → (slice_index t k == 10) ≡ false
digit-apart [] k none = refl
digit-apart (c ∷ t) zero none = let own = and_parts (not (c == 10)) (list_all (λ c. not (c == 10)) t) none in not-true (c == 10) own.0
digit-apart (c ∷ t) (suc k) none = digit-apart t k (and_parts (not (c == 10)) (list_all (λ c. not (c == 10)) t) none).1

-- a hexadecimal digit is no newline
newlines_in-hex_digit : (k : ℕ) (xs : List ℕ) → newlines_in (slice_index lower_digits k ∷ xs) ≡ newlines_in xs
newlines_in-hex_digit k xs =
    let one : newlines_in (slice_index lower_digits k ∷ []) ≡ 0 = ap (λ b. 0 + cond {A = ℕ} b 1 0) (digit-apart lower_digits k refl) in
    let all = newlines_in-append (slice_index lower_digits k ∷ []) xs in
    omega (arith, one, all)

newlines_in-hex : (bs : List ℕ) → newlines_in (encode_lower bs) ≡ 0
unfolding encode_with
newlines_in-hex [] = refl
newlines_in-hex (b ∷ bs) =
    newlines_in-hex_digit (b / 16) (slice_index lower_digits (b % 16) ∷ encode_lower bs) ∙ newlines_in-hex_digit (b % 16) (encode_lower bs)
    ∙ newlines_in-hex bs

newlines_in-field : (c : Content) → newlines_in (field_of c) ≡ 0
newlines_in-field (Num n) = newlines_in-decimal n
newlines_in-field (Bytes bs) =
    let all = newlines_in-append (codes "#") (encode_lower bs) in let digits = newlines_in-hex bs in omega (arith, all, digits)

outcome : (o : Outcome) → newlines_in (outcome_text o) ≡ 0
outcome Sent = refl
outcome (Got v) =
    let all = newlines_in-append (codes " got ") (value_field v) in let field = newlines_in-field (content v) in omega (arith, all, field)
outcome Drained = refl
outcome Closed = refl

what_is_told : (w : What) → newlines_in (what_text w) ≡ 0
what_is_told (what.Made p) = none-behind (codes " made ") p.0 refl
what_is_told (what.Fired i o) =
    let all = newlines_in-append (codes " case " ++ decimal i) (outcome_text o) in
    let front = newlines_in-append (codes " case ") (decimal i) in
    let digits = newlines_in-decimal i in
    let ended = outcome o in
    omega (arith, all, front, digits, ended)
what_is_told what.Default = refl
what_is_told what.Done = refl
what_is_told what.Parked = refl
what_is_told what.Stalled = refl
what_is_told (what.Fault f) = none-behind (codes " fault ") (fault_number f) refl
what_is_told what.Cancelled = refl

-- an event's line has one
newlines_in-event_line : (e : Event) → newlines_in (event_line e) ≡ 1
newlines_in-event_line e =
    let all = newlines_in-append (decimal e.pid.0 ++ what_text e.what) (codes "\n") in
    let front = newlines_in-append (decimal e.pid.0) (what_text e.what) in
    let digits = newlines_in-decimal e.pid.0 in
    let told = what_is_told e.what in
    omega (arith, all, front, digits, told)

-- the lines of events have as many as there are events
newlines_in-events : (es : List Event) → newlines_in (flat_map event_line es) ≡ length es
newlines_in-events [] = refl
newlines_in-events (e ∷ es) =
    let all = newlines_in-append (event_line e) (flat_map event_line es) in
    let one = newlines_in-event_line e in
    let rest = newlines_in-events es in
    omega (arith, all, one, rest)

-- the fields behind the first are more bytes, with a space before them
joined-long : (front : List ℕ) (fields : List (List ℕ)) → 0 < length fields → 0 < length (join_with_byte 32 (front ∷ fields))
joined-long front [] some = absurd (omega arith)
joined-long front (f ∷ fs) some = let all = length-append front (32 ∷ join_with_byte 32 (f ∷ fs)) in omega (arith, all)

call-long : (cases : List Case) (default : Bool) (word : ℕ) → 0 < length (call_fields cases default word)
call-long [] default word = omega arith
call-long (Send p v ∷ []) false zero = omega arith
call-long (Send p v ∷ []) false (suc word) = omega arith
call-long (Send p v ∷ []) true word = omega arith
call-long (Recv p ∷ []) false zero = omega arith
call-long (Recv p ∷ []) false (suc word) = omega arith
call-long (Recv p ∷ []) true word = omega arith
call-long (Send p v ∷ d ∷ ds) default word = omega arith
call-long (Recv p ∷ d ∷ ds) default word = omega arith

step-long : (s : Step) → 0 < length (step_fields s)
step-long (Make cap) = omega arith
step-long (Call cases default word) = call-long cases.items default word
step-long (Close p) = omega arith
step-long Exit = omega arith
step-long (Cancel q) = omega arith
step-long (Start q) = omega arith
step-long (Reopen p cap) = omega arith

-- a line of a journal has two bytes at least
line_is_long : (e : Entry) → 2 ≤ length (line e)
line_is_long e =
    let all = length-append (join_with_byte 32 (decimal e.pid.0 ∷ step_fields e.step)) (codes "\n") in
    let some = joined-long (decimal e.pid.0) (step_fields e.step) (step-long e.step) in
    omega (arith, all, some)

lines_are_long : (es : List Entry) → 2 * length es ≤ length (flat_map line es)
lines_are_long [] = omega arith
lines_are_long (e ∷ es) =
    let all = length-append (line e) (flat_map line es) in
    let one = line_is_long e in
    let rest = lines_are_long es in
    omega (arith, all, one, rest)

-- no journal has so many events that their number passes 32 bits
pub lines-few : {bytes told : List ℕ} {head : Head} {es : List Entry} → told ≡ event_lines head es
    → length (events head es) ≤ MOST_EVENTS * length es → IsText bytes head es → newlines_in told < 2 ^ 32 - 1
lines-few {bytes} {told} {head} {es} is few spelled =
    let counted = ap newlines_in is ∙ newlines_in-events (events head es) in
    let long = lines_are_long es in
    let size = ap length spelled.spelled ∙ length-append (head_lines head) (flat_map line es) in
    let fit = spelled.bytes_fit in
    omega (arith, counted, few, long, size, fit)
