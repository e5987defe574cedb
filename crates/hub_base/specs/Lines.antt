-- The line of an entry: the fields that spell it, and what the fields of any line say. Each entry
-- has one spelling. Numbers are decimal, without sign and without a leading zero.
use Rattle.std.specs.Prelude.{ℕ, zero, ◌*◌, ◌==◌, ◌&&◌, ◌||◌, not, nat_lt, nat_le, Bool, true, false, List, [], ◌∷◌, ◌++◌}
use Rattle.std.specs.Prelude.{length, map, codes, decimal, Option, None, Some, Result, Ok, Err, if◌then◌else◌}
use Rattle.std.specs.Option.{option_map}
use Rattle.std.specs.List.{list_all, join_with_byte}
use Rattle.std.specs.Char.{is_ascii_digit}
use Rattle.std.specs.Str.Parse.{digits_value}
use Rattle.hex.specs.declared.error.FromHexError.{FromHexError}
use Rattle.hex.specs.Hex.{decode_of}
use Rattle.hub_base.specs.declared.case.Case.{Case}
use Rattle.hub_base.specs.declared.case.Case.TheVariants.{Send, Recv}
use Rattle.hub_base.specs.Entry.{Entry, Step}
use Rattle.hub_base.specs.declared.entry.Step.TheVariants.{Make, Call, Close, Exit, Cancel, Start, Reopen}
use Rattle.hub_base.specs.declared.head.Edition.{Edition}
use Rattle.hub_base.specs.Head.{has_bytes, has_cancel, has_lives}
use Rattle.hub_base.specs.declared.value.Value.{Value}
use Rattle.hub_base.specs.Content.{Content}
use Rattle.hub_base.specs.Value.{saying, value_field}
use Rattle.hub_base.specs.Content.Content.{Num, Bytes}
use Rattle.hub_base.specs.declared.read_fault.Kind.{Kind}
use Rattle.hub_base.specs.declared.limits.TheConstants.{CASE_PLACES, GREATEST_PID, GREATEST_PORT, GREATEST_CAP, GREATEST_VALUE, GREATEST_WORD}
use Rattle.hub_base.specs.declared.limits.TheConstants.{MOST_VALUE_BYTES}
use Rattle.hub_base.specs.declared.read_fault.Kind.TheVariants.{BadStep, BadNumber}

-- ---- writing
-- a case of a select: `s1:7` or `r1`; 58 is the colon
abbrev pub case_field : Case → List ℕ
case_field (Send p v) = codes "s" ++ (decimal p.0 ++ 58 ∷ value_field v)
case_field (Recv p) = codes "r" ++ decimal p.0

-- the field of a default, if there is one
abbrev pub default_field : Bool → List (List ℕ)
default_field true = codes "default" ∷ []
default_field false = []

-- a select: its word, its cases, and perhaps a default
abbrev pub select_fields : List Case → Bool → ℕ → List (List ℕ)
select_fields cases default word =
    codes "select" ∷ decimal word ∷ map case_field cases ++ default_field default

-- a call of one case without default and with word 0 has a short form
abbrev pub call_fields : List Case → Bool → ℕ → List (List ℕ)
call_fields (Send p v ∷ []) false zero = codes "send" ∷ decimal p.0 ∷ value_field v ∷ []
call_fields (Recv p ∷ []) false zero = codes "recv" ∷ decimal p.0 ∷ []
call_fields cases default word = select_fields cases default word

-- the fields of a step, behind that of the process
abbrev pub step_fields : Step → List (List ℕ)
step_fields (Make cap) = codes "make" ∷ decimal cap ∷ []
step_fields (Call cases default word) = call_fields cases.items default word
step_fields (Close p) = codes "close" ∷ decimal p.0 ∷ []
step_fields Exit = codes "exit" ∷ []
step_fields (Cancel q) = codes "cancel" ∷ decimal q.0 ∷ []
step_fields (Start q) = codes "start" ∷ decimal q.0 ∷ []
step_fields (Reopen p cap) = codes "reopen" ∷ decimal p.0 ∷ decimal cap ∷ []

-- the fields with single spaces between them, and a newline
abbrev pub line : Entry → List ℕ
line e = join_with_byte 32 (decimal e.pid.0 ∷ step_fields e.step) ++ codes "\n"

-- ---- reading
-- whether two lists of bytes are the same
abbrev pub same_text : List ℕ → List ℕ → Bool
same_text [] [] = true
same_text (x ∷ xs) (y ∷ ys) = (x == y) && same_text xs ys
same_text [] (y ∷ ys) = false
same_text (x ∷ xs) [] = false

-- the number, where it is a numeral at all and at most `most`
abbrev pub one_number : Bool → ℕ → ℕ → Option ℕ
one_number false n most = None
one_number true n most = if nat_le n most then Some n else None

-- `0`, or a digit from 1 to 9 followed by digits; 48 is the zero
abbrev pub is_numeral : List ℕ → Bool
is_numeral [] = false
is_numeral (c ∷ cs) = list_all is_ascii_digit (c ∷ cs) && (not (c == 48) || (length cs == 0))

-- the number that these bytes spell, where it is at most `most`
abbrev pub number : ℕ → List ℕ → Option ℕ
number most bs = one_number (is_numeral bs) (digits_value 10 bs) most

-- the next reading, unless there is a fault already
infixl 10 ◌>>=◌
abbrev pub ◌>>=◌ : {A B : Type 0} → Result A Kind → (A → Result B Kind) → Result B Kind
(Ok x) >>= f = f x
(Err e) >>= f = Err e

-- what has to be there, or this fault
abbrev pub must : {A : Type 0} → Kind → Option A → Result A Kind
must kind None = Err kind
must kind (Some x) = Ok x

-- a field that has to be a number
abbrev pub numeral : ℕ → List ℕ → Result ℕ Kind
numeral most bs = must BadNumber (number most bs)

-- a hexadecimal digit in lower case: 97 to 102 are the letters a to f
abbrev pub is_hex : ℕ → Bool
is_hex c = is_ascii_digit c || (nat_le 97 c && nat_le c 102)

-- the bytes that were decoded
abbrev pub decoded : Result (List ℕ) FromHexError → Option Content
decoded (Ok bytes) = Some (Bytes bytes)
decoded (Err error) = None

-- the bytes that such digits spell, two digits each
abbrev pub bytes_value : List ℕ → Option Content
bytes_value digits =
    if list_all is_hex digits && nat_le (length digits) (2 * MOST_VALUE_BYTES) then decoded (decode_of digits) else None

-- what the value says that a field spells in a journal of this edition: 35 is the mark `#`, behind which bytes stand
abbrev pub value : Edition → List ℕ → Option Content
value edition [] = None
value edition (c ∷ cs) =
    if has_bytes edition && (c == 35) then bytes_value cs else option_map Num (number GREATEST_VALUE (c ∷ cs))

-- a field that has to be a value
abbrev pub value_read : Edition → List ℕ → Result Value Kind
value_read edition bs = must BadNumber (option_map saying (value edition bs))

-- the first piece with this byte before it
abbrev pub join_front : ℕ → List (List ℕ) → List (List ℕ)
join_front c [] = (c ∷ []) ∷ []
join_front c (piece ∷ pieces) = (c ∷ piece) ∷ pieces

-- the first piece with these bytes before it
abbrev pub joins : List ℕ → List (List ℕ) → List (List ℕ)
joins xs [] = xs ∷ []
joins xs (piece ∷ pieces) = (xs ++ piece) ∷ pieces

-- the pieces between single marks: at least one, and a piece may be empty
abbrev pub pieces : ℕ → List ℕ → List (List ℕ)
pieces mark [] = [] ∷ []
pieces mark (c ∷ cs) = if c == mark then [] ∷ pieces mark cs else join_front c (pieces mark cs)

-- a case field that has the right shape: by its letter, its parts, which may be no numbers
pub data Draft : Type 0 where
  Sends : List ℕ → List ℕ → Draft
  Receives : List ℕ → Draft

-- behind an `s`: a port and a value, with one colon between them
abbrev pub send_draft : List (List ℕ) → Result Draft Kind
send_draft (p ∷ v ∷ []) = Ok (Sends p v)
send_draft other = Err BadStep

-- behind an `r`: a port, without a colon
abbrev pub recv_draft : List (List ℕ) → Result Draft Kind
recv_draft (p ∷ []) = Ok (Receives p)
recv_draft other = Err BadStep

-- a case field; 115 is the letter s, and 114 is r
abbrev pub draft_of : List ℕ → Result Draft Kind
draft_of [] = Err BadStep
draft_of (c ∷ cs) =
    if c == 115 then send_draft (pieces 58 cs)
    else if c == 114 then recv_draft (pieces 58 cs)
    else Err BadStep

-- all case fields of a select
abbrev pub drafts_of : List (List ℕ) → Result (List Draft) Kind
drafts_of [] = Ok []
drafts_of (f ∷ fs) = draft_of f >>= λ d. drafts_of fs >>= λ ds. Ok (d ∷ ds)

-- the case that receives from the port of this number
abbrev pub recv_case : List ℕ → Result Case Kind
recv_case p = numeral GREATEST_PORT p >>= λ p. Ok (Recv (record { 0 = p }))

-- the case of such a field, where its parts are a number and a value
abbrev pub case_of : Edition → Draft → Result Case Kind
case_of edition (Sends p v) =
    numeral GREATEST_PORT p >>= λ p. value_read edition v >>= λ v. Ok (Send (record { 0 = p }) v)
case_of edition (Receives p) = recv_case p

-- a fault of its shape, or else what its parts say
abbrev pub case_read : Edition → List ℕ → Result (Result Case Kind) Kind
case_read edition field = draft_of field >>= λ draft. Ok (case_of edition draft)

-- the cases of such fields
abbrev pub cases_of : Edition → List Draft → Result (List Case) Kind
cases_of edition [] = Ok []
cases_of edition (d ∷ ds) = case_of edition d >>= λ c. cases_of edition ds >>= λ cs. Ok (c ∷ cs)

-- whether a field is a `default` with no field behind it
abbrev pub last_default : List ℕ → List (List ℕ) → Bool
last_default f [] = same_text f (codes "default")
last_default f (g ∷ fs) = false

-- the case fields, and whether a last `default` stands behind them
abbrev pub ends_default : List (List ℕ) → (List (List ℕ)) × Bool
ends_default [] = ([], false)
ends_default (f ∷ []) = if same_text f (codes "default") then ([], true) else (f ∷ [], false)
ends_default (f ∷ g ∷ fs) = (f ∷ (ends_default (g ∷ fs)).0, (ends_default (g ∷ fs)).1)

-- a step of this process
abbrev pub by : ℕ → Step → Entry
by pid step = record { pid = record { 0 = pid }; step = step }

-- a call of these cases
abbrev pub call : List Case → Bool → ℕ → Step
call cases default word = Call (record { items = cases }) default word

-- a call that was spelled as a select; one that has a short form is no select
abbrev pub spelled : List Case → Bool → ℕ → Result Step Kind
spelled (c ∷ []) false zero = Err BadStep
spelled cases default word = Ok (call cases default word)

-- a select whose fields have the right shape: its numbers, and then its spelling
abbrev pub choose : List ℕ → List ℕ → Result (List Case) Kind → Bool → Result Entry Kind
choose pid word cases default =
    numeral GREATEST_PID pid >>= λ pid. numeral GREATEST_WORD word >>= λ word.
    cases >>= λ cases. spelled cases default word >>= λ step. Ok (by pid step)

-- the fields behind the word of a select: all shapes are looked at before any number
abbrev pub read_select : Edition → List ℕ → List ℕ → (List (List ℕ)) × Bool → Result Entry Kind
read_select edition pid word fields =
    drafts_of fields.0 >>= λ drafts.
    if nat_lt CASE_PLACES (length drafts) then Err BadStep
    else choose pid word (cases_of edition drafts) fields.1

-- a word with one number up to `most` behind it, which says this step
abbrev pub read_one : ℕ → (ℕ → Step) → List ℕ → List (List ℕ) → Result Entry Kind
read_one most step pid (n ∷ []) =
    numeral GREATEST_PID pid >>= λ pid. numeral most n >>= λ n. Ok (by pid (step n))
read_one most step pid other = Err BadStep

-- `P make C`
abbrev pub read_make : List ℕ → List (List ℕ) → Result Entry Kind
read_make = read_one GREATEST_CAP Make

-- `P send PORT V`
abbrev pub read_send : Edition → List ℕ → List (List ℕ) → Result Entry Kind
read_send edition pid (p ∷ v ∷ []) =
    numeral GREATEST_PID pid >>= λ pid. case_of edition (Sends p v) >>= λ c.
    Ok (by pid (call (c ∷ []) false 0))
read_send edition pid other = Err BadStep

-- `P recv PORT`
abbrev pub read_recv : List ℕ → List (List ℕ) → Result Entry Kind
read_recv = read_one GREATEST_PORT (λ p. call (Recv (record { 0 = p }) ∷ []) false 0)

-- `P close PORT`
abbrev pub read_close : List ℕ → List (List ℕ) → Result Entry Kind
read_close = read_one GREATEST_PORT (λ p. Close (record { 0 = p }))

-- `P exit`
abbrev pub read_exit : List ℕ → List (List ℕ) → Result Entry Kind
read_exit pid [] = numeral GREATEST_PID pid >>= λ pid. Ok (by pid Exit)
read_exit pid other = Err BadStep

-- `P cancel Q`
abbrev pub read_cancel : List ℕ → List (List ℕ) → Result Entry Kind
read_cancel = read_one GREATEST_PID (λ q. Cancel (record { 0 = q }))

-- `P start Q`
abbrev pub read_start : List ℕ → List (List ℕ) → Result Entry Kind
read_start = read_one GREATEST_PID (λ q. Start (record { 0 = q }))

-- `P reopen PORT C`
abbrev pub read_reopen : List ℕ → List (List ℕ) → Result Entry Kind
read_reopen pid (p ∷ c ∷ []) =
    numeral GREATEST_PID pid >>= λ pid. numeral GREATEST_PORT p >>= λ p. numeral GREATEST_CAP c >>= λ cap.
    Ok (by pid (Reopen (record { 0 = p }) cap))
read_reopen pid other = Err BadStep

-- `P select W CASE.. [default]`
abbrev pub read_choice : Edition → List ℕ → List (List ℕ) → Result Entry Kind
read_choice edition pid [] = Err BadStep
read_choice edition pid (word ∷ fields) = read_select edition pid word (ends_default fields)

-- the second field says which step it is; a journal of the first edition has no cancel, and no value that is bytes, and only
-- one of the third has a start or a reopen
abbrev pub read_step : Edition → List ℕ → List ℕ → List (List ℕ) → Result Entry Kind
read_step edition pid word rest =
    if same_text word (codes "make") then read_make pid rest
    else if same_text word (codes "send") then read_send edition pid rest
    else if same_text word (codes "recv") then read_recv pid rest
    else if same_text word (codes "select") then read_choice edition pid rest
    else if same_text word (codes "close") then read_close pid rest
    else if same_text word (codes "exit") then read_exit pid rest
    else if has_cancel edition && same_text word (codes "cancel") then read_cancel pid rest
    else if has_lives edition && same_text word (codes "start") then read_start pid rest
    else if has_lives edition && same_text word (codes "reopen") then read_reopen pid rest
    else Err BadStep

-- what the fields of a line say in a journal of this edition
abbrev pub read_fields : Edition → List (List ℕ) → Result Entry Kind
read_fields edition (pid ∷ word ∷ rest) = read_step edition pid word rest
read_fields edition other = Err BadStep
