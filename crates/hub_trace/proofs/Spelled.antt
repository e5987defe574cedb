-- Numbers, values, entries and events are spelled with few bytes.
use Rattle.std.proofs.Common.{◌≡◌, ℕ, zero, suc, ◌<◌, ◌≤◌, ◌^◌, Bool, true, false, List, [], ◌∷◌, ◌++◌, codes, refl, arith}
use Rattle.std.proofs.Common.{◌∙◌, append_assoc, sym, map, drop, length}
use Rattle.std.proofs.lemmas.Bool.{and_parts}
use Rattle.std.proofs.lemmas.Grind.{common_steps}
use Rattle.std.proofs.lemmas.List.Folds.{list_all-append}
use Rattle.std.specs.Prelude.{decimal}
use Rattle.std.specs.List.{list_all, join_with_byte, AllByRecursion}
use Rattle.std.specs.Char.{is_ascii_digit}
use Rattle.hex.specs.Hex.{encode_lower}
use Rattle.hub_base.specs.declared.value.Value.{Value}
use Rattle.hub_base.specs.declared.limits.TheConstants.{GREATEST_CAP, GREATEST_PID, GREATEST_PORT, GREATEST_WORD}
use Rattle.hub_base.specs.declared.case.Case.{Case}
use Rattle.hub_base.specs.declared.case.Case.TheVariants.{Send, Recv}
use Rattle.hub_base.specs.Entry.{Entry, Step}
use Rattle.hub_base.specs.declared.entry.Step.TheVariants.{Make, Call, Close, Exit, Cancel, Start, Reopen}
use Rattle.hub_base.specs.declared.head.Edition.{Edition}
use Rattle.hub_base.specs.Content.{Content, IsContent}
use Rattle.hub_base.specs.Value.{content, field_of, value_field}
use Rattle.hub_base.specs.Content.Content.{Num, Bytes}
use Rattle.hub_base.specs.declared.fault.Fault.{Fault}
use Rattle.hub_base.specs.declared.event.Outcome.{Outcome}
use Rattle.hub_base.specs.declared.event.Outcome.TheVariants.{Sent, Got, Drained, Closed}
use Rattle.hub_base.specs.declared.event.What.{What}
use Rattle.hub_base.specs.declared.event.What.TheVariants as what
use Rattle.hub_base.specs.declared.event.Event.{Event}
use Rattle.hub_base.specs.Faults.{fault_number}
use Rattle.hub_base.specs.EventText.{WhatFits, EventFits, outcome_text, what_text}
use Rattle.hub_base.specs.Lines.{is_hex, case_field, default_field, select_fields, call_fields, step_fields}
use Rattle.hub_base.specs.Text.{CaseFits, CallFits, StepFits, Fits}
use Rattle.hub_base.proofs.Values.{every_value}
use Rattle.hub_base.proofs.Decimals.{digits-of}
use Rattle.hub_base.proofs.HexDigits.{encoded-hex}
use Rattle.hub_trace.specs.declared.pieces.Piece.{Piece}
use Rattle.hub_trace.specs.Pieces.{is_spelled, Grows, IsSpelled, Stands}

pub both-spelled : (xs ys : List ℕ) → IsSpelled xs → IsSpelled ys → IsSpelled (xs ++ ys)
both-spelled xs ys hx hy = list_all-append is_spelled xs ys ∙ rw (hx, hy) refl

-- what is left of it too
pub rest-spelled : (n : ℕ) (xs : List ℕ) → IsSpelled xs → IsSpelled (drop n xs)
rest-spelled zero xs h = h
rest-spelled (suc n) [] h = refl
rest-spelled (suc n) (x ∷ xs) h = rest-spelled n xs (and_parts (is_spelled x) (list_all is_spelled xs) h).1

each-spelled : (P : ℕ → Bool) (xs : List ℕ) → ((c : ℕ) → P c ≡ true → is_spelled c ≡ true) → list_all P xs ≡ true → IsSpelled xs
each-spelled P [] h all = refl
each-spelled P (x ∷ xs) h all =
    let parts = and_parts (P x) (list_all P xs) all in
    rw (h x parts.0, each-spelled P xs h parts.1) refl

digit-spelled : (c : ℕ) → is_ascii_digit c ≡ true → is_spelled c ≡ true
digit-spelled c d = grind (arith, common_steps)

hex-spelled : (c : ℕ) → is_hex c ≡ true → is_spelled c ≡ true
hex-spelled c d = grind (arith, common_steps)

pub number-spelled : (n : ℕ) → n < 2 ^ 64 → IsSpelled (decimal n)
number-spelled n small = each-spelled is_ascii_digit (decimal n) digit-spelled (digits-of (decimal n) n small refl)

content-spelled : (c : Content) → IsContent c → IsSpelled (field_of c)
content-spelled (Num n) fits = number-spelled n (omega (arith, fits))
content-spelled (Bytes bs) fits = each-spelled is_hex (encode_lower bs) hex-spelled (encoded-hex bs fits.1)

pub value-spelled : (v : Value) → IsSpelled (value_field v)
value-spelled v = content-spelled (content v) (every_value v).fits

-- a word, and a number up to so much
small : (n most : ℕ) → n ≤ most → most < 2 ^ 64 → IsSpelled (decimal n)
small n most fits below = number-spelled n (omega (arith, fits, below))

worded : (word : List ℕ) (n most : ℕ) → IsSpelled word → n ≤ most → most < 2 ^ 64 → IsSpelled (word ++ decimal n)
worded word n most h fits below = both-spelled word (decimal n) h (small n most fits below)

-- ---- entries
spaced : (f : List ℕ) (fs : List (List ℕ)) → IsSpelled f → AllByRecursion IsSpelled fs → IsSpelled (join_with_byte 32 (f ∷ fs))
spaced f [] h all = h
spaced f (g ∷ gs) h all = both-spelled f (32 ∷ join_with_byte 32 (g ∷ gs)) h (spaced g gs all.0 all.1)

case-spelled : (c : Case) → CaseFits c → IsSpelled (case_field c)
case-spelled (Send p v) fits =
    both-spelled (codes "s") (decimal p.0 ++ 58 ∷ value_field v) refl
    (both-spelled (decimal p.0) (58 ∷ value_field v) (small p.0 GREATEST_PORT fits.0 (omega arith)) (value-spelled v))
case-spelled (Recv p) fits = worded (codes "r") p.0 GREATEST_PORT refl fits (omega arith)

cases-spelled : (cs : List Case) (default : Bool) → AllByRecursion CaseFits cs →
    AllByRecursion IsSpelled (map case_field cs ++ default_field default)
cases-spelled [] true all = (refl, _)
cases-spelled [] false all = _
cases-spelled (c ∷ cs) default all = (case-spelled c all.0, cases-spelled cs default all.1)

select-spelled : (cs : List Case) (default : Bool) (word : ℕ) → CallFits cs word → AllByRecursion IsSpelled (select_fields cs default word)
select-spelled cs default word fits =
    (refl, (small word GREATEST_WORD fits.word_fits (omega arith), cases-spelled cs default fits.each))

call-spelled : (cs : List Case) (default : Bool) (word : ℕ) → CallFits cs word → AllByRecursion IsSpelled (call_fields cs default word)
call-spelled (Send p v ∷ []) false zero fits = (refl, (small p.0 GREATEST_PORT fits.each.0.0 (omega arith), (value-spelled v, _)))
call-spelled (Recv p ∷ []) false zero fits = (refl, (small p.0 GREATEST_PORT fits.each.0 (omega arith), _))
call-spelled [] default word fits = select-spelled [] default word fits
call-spelled (Send p v ∷ []) true word fits = select-spelled (Send p v ∷ []) true word fits
call-spelled (Send p v ∷ []) false (suc word) fits = select-spelled (Send p v ∷ []) false (suc word) fits
call-spelled (Recv p ∷ []) true word fits = select-spelled (Recv p ∷ []) true word fits
call-spelled (Recv p ∷ []) false (suc word) fits = select-spelled (Recv p ∷ []) false (suc word) fits
call-spelled (Send p v ∷ d ∷ cs) default word fits = select-spelled (Send p v ∷ d ∷ cs) default word fits
call-spelled (Recv p ∷ d ∷ cs) default word fits = select-spelled (Recv p ∷ d ∷ cs) default word fits

step-spelled : (s : Step) → StepFits s → AllByRecursion IsSpelled (step_fields s)
step-spelled (Make most) fits = (refl, (small most GREATEST_CAP fits (omega arith), _))
step-spelled (Call cases default word) fits = call-spelled cases.items default word fits
step-spelled (Close p) fits = (refl, (small p.0 GREATEST_PORT fits (omega arith), _))
step-spelled Exit fits = (refl, _)
step-spelled (Cancel q) fits = (refl, (small q.0 GREATEST_PID fits (omega arith), _))
step-spelled (Start q) fits = (refl, (small q.0 GREATEST_PID fits (omega arith), _))
step-spelled (Reopen p cap) fits = (refl, (small p.0 GREATEST_PORT fits.0 (omega arith), (small cap GREATEST_CAP fits.1 (omega arith), _)))

pub entry-spelled : (edition : Edition) (e : Entry) → Fits edition e → IsSpelled (join_with_byte 32 (decimal e.pid.0 ∷ step_fields e.step))
entry-spelled edition e fits =
    spaced (decimal e.pid.0) (step_fields e.step) (small e.pid.0 GREATEST_PID fits.pid (omega arith)) (step-spelled e.step fits.step)

-- ---- events
outcome-spelled : (o : Outcome) → IsSpelled (outcome_text o)
outcome-spelled Sent = refl
outcome-spelled (Got v) = both-spelled (codes " got ") (value_field v) refl (value-spelled v)
outcome-spelled Drained = refl
outcome-spelled Closed = refl

fault-small : (f : Fault) → fault_number f ≤ 255
fault-small f = grind arith

what-spelled : (w : What) → WhatFits w → IsSpelled (what_text w)
what-spelled (what.Made p) fits = worded (codes " made ") p.0 GREATEST_PORT refl fits (omega arith)
what-spelled (what.Fired i o) fits =
    both-spelled (codes " case " ++ decimal i) (outcome_text o) (worded (codes " case ") i 255 refl fits.0 (omega arith)) (outcome-spelled o)
what-spelled what.Default fits = refl
what-spelled what.Done fits = refl
what-spelled what.Parked fits = refl
what-spelled what.Stalled fits = refl
what-spelled (what.Fault f) fits = worded (codes " fault ") (fault_number f) 255 refl (fault-small f) (omega arith)
what-spelled what.Cancelled fits = refl

pub event-spelled : (e : Event) → EventFits e → IsSpelled (decimal e.pid.0 ++ what_text e.what)
event-spelled e fits =
    both-spelled (decimal e.pid.0) (what_text e.what) (number-spelled e.pid.0 (omega (arith, fits.pid))) (what-spelled e.what fits.what)

-- ---- a line without its process and its newline
pub taken : (p : Piece) (old mid new words : List ℕ) (at : ℕ) → at ≡ length old → mid ≡ old ++ (words ++ codes "\n") → IsSpelled words →
    ((text : List ℕ) → IsSpelled text → Stands p text) →
    ((front rest : List ℕ) → mid ≡ front ++ rest ++ codes "\n" → length front ≡ at → (n : ℕ) × (new ≡ front ++ drop n rest)) → Grows p old new
taken p old mid new words at begins is spelled stands left =
    let (n, so) = left old words (is ∙ sym (append_assoc old words (codes "\n"))) (sym begins) in
    record { text = drop n words; is = so; stands = stands (drop n words) (rest-spelled n words spelled) }
