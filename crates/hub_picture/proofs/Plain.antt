-- Words, numbers, lines of entries and of events have only plain bytes.
use Rattle.std.proofs.Common.{◌≡◌, ℕ, zero, suc, ◌<◌, ◌≤◌, ◌^◌, ◌&&◌, Bool, true, false, List, [], ◌∷◌, ◌++◌, codes, refl, arith, ◌∙◌, map}
use Rattle.std.proofs.lemmas.Grind.{common_steps}
use Rattle.std.proofs.lemmas.List.Folds.{list_all-append}
use Rattle.std.specs.Prelude.{decimal}
use Rattle.std.specs.List.{list_all, join_with_byte, AllByRecursion}
use Rattle.std.specs.Char.{is_ascii_digit}
use Rattle.hex.specs.Hex.{encode_lower}
use Rattle.hub_base.specs.declared.value.Value.{Value}
use Rattle.hub_base.specs.declared.limits.TheConstants.{GREATEST_CAP, GREATEST_PID, GREATEST_PORT, GREATEST_WORD}
use Rattle.hub_base.specs.declared.case.Case.{Case}
use Rattle.hub_base.specs.declared.case.Case.TheVariants.{Send, Recv}
use Rattle.hub_base.specs.Entry.{Entry, Step}
use Rattle.hub_base.specs.declared.entry.Step.TheVariants.{Make, Call, Close, Exit, Cancel, Start, Reopen}
use Rattle.hub_base.specs.declared.head.Edition.{Edition}
use Rattle.hub_base.specs.Content.{Content, IsContent}
use Rattle.hub_base.specs.Value.{IsValue, content, field_of, value_field}
use Rattle.hub_base.specs.Content.Content.{Num, Bytes}
use Rattle.hub_base.specs.declared.event.Event.{Event}
use Rattle.hub_base.specs.declared.event.Outcome.{Outcome}
use Rattle.hub_base.specs.declared.event.Outcome.TheVariants.{Sent, Got, Drained, Closed}
use Rattle.hub_base.specs.declared.event.What.{What}
use Rattle.hub_base.specs.declared.event.What.TheVariants as what
use Rattle.hub_base.specs.declared.fault.Fault.{Fault}
use Rattle.hub_base.specs.EventText.{EventFits, OutcomeFits, WhatFits, event_line, outcome_text, what_text}
use Rattle.hub_base.specs.Faults.{fault_number}
use Rattle.hub_base.specs.Lines.{is_hex, case_field, default_field, select_fields, call_fields, step_fields, line}
use Rattle.hub_base.specs.Text.{CaseFits, CallFits, StepFits, Fits}
use Rattle.hub_base.proofs.Decimals.{digits-of}
use Rattle.hub_base.proofs.HexDigits.{encoded-hex}
use Rattle.hub_picture.specs.Reading.{IsPlain}
use Rattle.hub_picture.specs.Xml.{is_plain}

plain-both : (xs ys : List ℕ) → IsPlain xs → IsPlain ys → IsPlain (xs ++ ys)
plain-both xs ys hx hy = list_all-append is_plain xs ys ∙ rw (hx, hy) refl

both : (a b : Bool) → (a && b) ≡ true → (a ≡ true) × (b ≡ true)
both true true h = (refl, refl)
both true false h = cc
both false b h = cc

each-plain : (P : ℕ → Bool) (xs : List ℕ) → ((c : ℕ) → P c ≡ true → is_plain c ≡ true) → list_all P xs ≡ true → IsPlain xs
each-plain P [] h all = refl
each-plain P (x ∷ xs) h all =
    let parts = both (P x) (list_all P xs) all in
    rw (h x parts.0, each-plain P xs h parts.1) refl

digit-plain : (c : ℕ) → is_ascii_digit c ≡ true → is_plain c ≡ true
digit-plain c d = grind (arith, common_steps)

hex-plain : (c : ℕ) → is_hex c ≡ true → is_plain c ≡ true
hex-plain c d = grind (arith, common_steps)

pub plain-number : (n : ℕ) → n < 2 ^ 64 → IsPlain (decimal n)
plain-number n small = each-plain is_ascii_digit (decimal n) digit-plain (digits-of (decimal n) n small refl)

content-plain : (c : Content) → IsContent c → IsPlain (field_of c)
content-plain (Num n) fits = plain-number n (omega (arith, fits))
content-plain (Bytes bs) fits = each-plain is_hex (encode_lower bs) hex-plain (encoded-hex bs fits.1)

plain-value : (v : Value) → IsValue v → IsPlain (value_field v)
plain-value v is = content-plain (content v) is.fits

-- ---- several texts with spaces between them
plain-spaced : (f : List ℕ) (fs : List (List ℕ)) → IsPlain f → AllByRecursion IsPlain fs → IsPlain (join_with_byte 32 (f ∷ fs))
plain-spaced f [] h all = h
plain-spaced f (g ∷ gs) h all = plain-both f (32 ∷ join_with_byte 32 (g ∷ gs)) h (plain-spaced g gs all.0 all.1)

-- ---- entries
small : (n most : ℕ) → n ≤ most → most < 2 ^ 64 → IsPlain (decimal n)
small n most fits below = plain-number n (omega (arith, fits, below))

case-plain : (c : Case) → CaseFits c → IsPlain (case_field c)
case-plain (Send p v) fits =
    plain-both (codes "s") (decimal p.0 ++ 58 ∷ value_field v) refl
    (plain-both (decimal p.0) (58 ∷ value_field v) (small p.0 GREATEST_PORT fits.0 (omega arith)) (plain-value v fits.1))
case-plain (Recv p) fits = plain-both (codes "r") (decimal p.0) refl (small p.0 GREATEST_PORT fits (omega arith))

cases-plain : (cs : List Case) (default : Bool) → AllByRecursion CaseFits cs →
    AllByRecursion IsPlain (map case_field cs ++ default_field default)
cases-plain [] true all = (refl, _)
cases-plain [] false all = _
cases-plain (c ∷ cs) default all = (case-plain c all.0, cases-plain cs default all.1)

select-plain : (cs : List Case) (default : Bool) (word : ℕ) → CallFits cs word → AllByRecursion IsPlain (select_fields cs default word)
select-plain cs default word fits =
    (refl, (small word GREATEST_WORD fits.word_fits (omega arith), cases-plain cs default fits.each))

call-plain : (cs : List Case) (default : Bool) (word : ℕ) → CallFits cs word → AllByRecursion IsPlain (call_fields cs default word)
call-plain (Send p v ∷ []) false zero fits = (refl, (small p.0 GREATEST_PORT fits.each.0.0 (omega arith), (plain-value v fits.each.0.1, _)))
call-plain (Recv p ∷ []) false zero fits = (refl, (small p.0 GREATEST_PORT fits.each.0 (omega arith), _))
call-plain [] default word fits = select-plain [] default word fits
call-plain (Send p v ∷ []) true word fits = select-plain (Send p v ∷ []) true word fits
call-plain (Send p v ∷ []) false (suc word) fits = select-plain (Send p v ∷ []) false (suc word) fits
call-plain (Recv p ∷ []) true word fits = select-plain (Recv p ∷ []) true word fits
call-plain (Recv p ∷ []) false (suc word) fits = select-plain (Recv p ∷ []) false (suc word) fits
call-plain (Send p v ∷ d ∷ cs) default word fits = select-plain (Send p v ∷ d ∷ cs) default word fits
call-plain (Recv p ∷ d ∷ cs) default word fits = select-plain (Recv p ∷ d ∷ cs) default word fits

step-plain : (s : Step) → StepFits s → AllByRecursion IsPlain (step_fields s)
step-plain (Make most) fits = (refl, (small most GREATEST_CAP fits (omega arith), _))
step-plain (Call cases default word) fits = call-plain cases.items default word fits
step-plain (Close p) fits = (refl, (small p.0 GREATEST_PORT fits (omega arith), _))
step-plain Exit fits = (refl, _)
step-plain (Cancel q) fits = (refl, (small q.0 GREATEST_PID fits (omega arith), _))
step-plain (Start q) fits = (refl, (small q.0 GREATEST_PID fits (omega arith), _))
step-plain (Reopen p cap) fits = (refl, (small p.0 GREATEST_PORT fits.0 (omega arith), (small cap GREATEST_CAP fits.1 (omega arith), _)))

pub plain-line : (edition : Edition) (e : Entry) → Fits edition e → IsPlain (line e)
plain-line edition e fits =
    plain-both (join_with_byte 32 (decimal e.pid.0 ∷ step_fields e.step)) (codes "\n")
    (plain-spaced (decimal e.pid.0) (step_fields e.step) (small e.pid.0 GREATEST_PID fits.pid (omega arith)) (step-plain e.step fits.step)) refl

-- ---- events
fault-small : (f : Fault) → fault_number f ≤ 255
fault-small f = grind arith

-- a word, and a number up to so much
worded : (word : List ℕ) (n most : ℕ) → IsPlain word → n ≤ most → most < 2 ^ 64 → IsPlain (word ++ decimal n)
worded word n most plain fits below = plain-both word (decimal n) plain (plain-number n (omega (arith, fits, below)))

outcome-plain : (o : Outcome) → OutcomeFits o → IsPlain (outcome_text o)
outcome-plain Sent fits = refl
outcome-plain (Got v) fits = plain-both (codes " got ") (value_field v) refl (plain-value v fits)
outcome-plain Drained fits = refl
outcome-plain Closed fits = refl

what-plain : (w : What) → WhatFits w → IsPlain (what_text w)
what-plain (what.Made p) fits = worded (codes " made ") p.0 GREATEST_PORT refl fits (omega arith)
what-plain (what.Fired i o) fits =
    plain-both (codes " case " ++ decimal i) (outcome_text o) (worded (codes " case ") i 255 refl fits.0 (omega arith)) (outcome-plain o fits.1)
what-plain what.Default fits = refl
what-plain what.Done fits = refl
what-plain what.Parked fits = refl
what-plain what.Stalled fits = refl
what-plain (what.Fault f) fits = worded (codes " fault ") (fault_number f) 255 refl (fault-small f) (omega arith)
what-plain what.Cancelled fits = refl

pub plain-event : (e : Event) → EventFits e → IsPlain (event_line e)
plain-event e fits =
    plain-both (decimal e.pid.0 ++ what_text e.what) (codes "\n")
    (plain-both (decimal e.pid.0) (what_text e.what) (plain-number e.pid.0 (omega (arith, fits.pid))) (what-plain e.what fits.what)) refl
