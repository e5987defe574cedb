-- No event's line begins another's: a line is cut into its fields, and these are read as its event.
use Rattle.std.proofs.Common.{◌≡◌, ℕ, ◌≤◌, ◌<◌, ◌^◌, ◌==◌, Bool, true, false, List, [], ◌∷◌, ◌++◌, length, refl, ap, ◌∙◌}
use Rattle.std.proofs.Common.{sym, Option, Some, None, arith, codes, append_assoc, append-nil, ◌&&◌, length-append}
use Rattle.std.specs.Prelude.{decimal, if◌then◌else◌}
use Rattle.std.specs.List.{AllByRecursion, flat_map, join_with_byte}
use Rattle.std.specs.Option.{option_map}
use mathlib.Core.List.{IsPrefix}
use Rattle.hub_base.specs.declared.event.Event.{Event}
use Rattle.hub_base.specs.declared.event.Outcome.{Outcome}
use Rattle.hub_base.specs.declared.event.Outcome.TheVariants.{Sent, Got, Drained, Closed}
use Rattle.hub_base.specs.declared.event.What.{What}
use Rattle.hub_base.specs.declared.event.What.TheVariants as what
use Rattle.hub_base.specs.declared.fault.Fault.{Fault}
use Rattle.hub_base.specs.declared.fault.Fault.TheVariants as fault
use Rattle.hub_base.specs.declared.limits.TheConstants.{GREATEST_PORT}
use Rattle.hub_base.specs.EventText.{event_line, what_text, outcome_text, EventFits, WhatFits, OutcomeFits}
use Rattle.hub_base.specs.Faults.{fault_number}
use Rattle.hub_base.specs.declared.head.Edition.TheVariants.{Two}
use Rattle.hub_base.specs.Lines.{number, value, pieces, same_text}
use Rattle.hub_base.specs.Reading.{Row, rows}
use Rattle.hub_base.specs.Head.{has_content}
use Rattle.hub_base.specs.Content.{Content}
use Rattle.hub_base.specs.Value.{content, saying, value_field}
use Rattle.hub_base.specs.Content.Content.{Num, Bytes}
use Rattle.hub_base.proofs.ValueFields.{value-again, value-lacks}
use Rattle.hub_base.proofs.Bodies.{lacks-high, rows-line}
use Rattle.hub_base.proofs.Heads.{rows-one}
use Rattle.hub_base.proofs.Numerals.{all_lack, lacks, decimal-lacks, lacks-joined, number-again, pieces-joined}

-- ---- the fields of a line

abbrev outcome_fields : Outcome → List (List ℕ)
outcome_fields Sent = codes "sent" ∷ []
outcome_fields (Got v) = codes "got" ∷ value_field v ∷ []
outcome_fields Drained = codes "drained" ∷ []
outcome_fields Closed = codes "closed" ∷ []

abbrev what_fields : What → List (List ℕ)
what_fields (what.Made p) = codes "made" ∷ decimal p.0 ∷ []
what_fields (what.Fired i o) = codes "case" ∷ decimal i ∷ outcome_fields o
what_fields what.Default = codes "default" ∷ []
what_fields what.Done = codes "done" ∷ []
what_fields what.Parked = codes "parked" ∷ []
what_fields what.Stalled = codes "stalled" ∷ []
what_fields (what.Fault f) = codes "fault" ∷ decimal (fault_number f) ∷ []
what_fields what.Cancelled = codes "cancelled" ∷ []

-- the line without its newline
abbrev event_body : Event → List ℕ
event_body e = join_with_byte 32 (decimal e.pid.0 ∷ what_fields e.what)

outcome-joined : (front : List ℕ) (o : Outcome) → join_with_byte 32 (front ∷ outcome_fields o) ≡ front ++ outcome_text o
outcome-joined front Sent = refl
outcome-joined front (Got v) = refl
outcome-joined front Drained = refl
outcome-joined front Closed = refl

what-joined : (front : List ℕ) (w : What) → join_with_byte 32 (front ∷ what_fields w) ≡ front ++ what_text w
what-joined front (what.Made p) = refl
what-joined front (what.Fired i o) = ap (λ xs. front ++ (codes " case " ++ xs)) (outcome-joined (decimal i) o)
what-joined front what.Default = refl
what-joined front what.Done = refl
what-joined front what.Parked = refl
what-joined front what.Stalled = refl
what-joined front (what.Fault f) = refl
what-joined front what.Cancelled = refl

line-body : (e : Event) → event_line e ≡ event_body e ++ codes "\n"
line-body e = ap (λ xs. xs ++ codes "\n") (sym (what-joined (decimal e.pid.0) e.what))

-- ---- neither a space nor a newline stands in them

both : (a b : Bool) → a ≡ true → b ≡ true → (a && b) ≡ true
both true true h k = refl
both true false h k = cc
both false b h k = cc

one-lacks : (m n : ℕ) → m < 35 → n < 2 ^ 64 → all_lack m (decimal n ∷ []) ≡ true
one-lacks m n low small = both (lacks m (decimal n)) true (decimal-lacks m n low small) refl

fault-small : (f : Fault) → fault_number f ≤ 255
fault-small f = grind arith

small : (n most : ℕ) → n ≤ most → most < 2 ^ 64 → n < 2 ^ 64
small n most h k = omega arith

outcome-lacks : (m : ℕ) (o : Outcome) → m < 35 → OutcomeFits o → all_lack m (outcome_fields o) ≡ true
outcome-lacks m Sent low fits = both (lacks m (codes "sent")) true (lacks-high m (codes "sent") low refl) refl
outcome-lacks m (Got v) low fits =
    both (lacks m (codes "got")) (all_lack m (value_field v ∷ [])) (lacks-high m (codes "got") low refl)
    (both (lacks m (value_field v)) true (value-lacks m v low fits) refl)
outcome-lacks m Drained low fits = both (lacks m (codes "drained")) true (lacks-high m (codes "drained") low refl) refl
outcome-lacks m Closed low fits = both (lacks m (codes "closed")) true (lacks-high m (codes "closed") low refl) refl

word-lacks : (m : ℕ) (word : List ℕ) → lacks m word ≡ true → all_lack m (word ∷ []) ≡ true
word-lacks m word h = both (lacks m word) true h refl

what-lacks : (m : ℕ) (w : What) → m < 35 → WhatFits w → all_lack m (what_fields w) ≡ true
what-lacks m (what.Made p) low fits =
    both (lacks m (codes "made")) (all_lack m (decimal p.0 ∷ [])) (lacks-high m (codes "made") low refl)
    (one-lacks m p.0 low (small p.0 GREATEST_PORT fits (omega arith)))
what-lacks m (what.Fired i o) low fits =
    both (lacks m (codes "case")) (all_lack m (decimal i ∷ outcome_fields o)) (lacks-high m (codes "case") low refl)
    (both (lacks m (decimal i)) (all_lack m (outcome_fields o)) (decimal-lacks m i low (small i 255 fits.0 (omega arith))) (outcome-lacks m o low fits.1))
what-lacks m what.Default low fits = word-lacks m (codes "default") (lacks-high m (codes "default") low refl)
what-lacks m what.Done low fits = word-lacks m (codes "done") (lacks-high m (codes "done") low refl)
what-lacks m what.Parked low fits = word-lacks m (codes "parked") (lacks-high m (codes "parked") low refl)
what-lacks m what.Stalled low fits = word-lacks m (codes "stalled") (lacks-high m (codes "stalled") low refl)
what-lacks m (what.Fault f) low fits =
    both (lacks m (codes "fault")) (all_lack m (decimal (fault_number f) ∷ [])) (lacks-high m (codes "fault") low refl)
    (one-lacks m (fault_number f) low (small (fault_number f) 255 (fault-small f) (omega arith)))
what-lacks m what.Cancelled low fits = word-lacks m (codes "cancelled") (lacks-high m (codes "cancelled") low refl)

fields-lack : (m : ℕ) (e : Event) → m < 35 → EventFits e → all_lack m (decimal e.pid.0 ∷ what_fields e.what) ≡ true
fields-lack m e low fits =
    both (lacks m (decimal e.pid.0)) (all_lack m (what_fields e.what)) (decimal-lacks m e.pid.0 low (small e.pid.0 255 fits.pid (omega arith)))
    (what-lacks m e.what low fits.what)

-- ---- fields are read as their event

abbrev read_fault : ℕ → Fault
read_fault n =
    if n == 1 then fault.NoProcess else if n == 2 then fault.Gone else if n == 3 then fault.Busy
    else if n == 4 then fault.TooManyCases else if n == 5 then fault.NoPort else if n == 6 then fault.BadCap
    else if n == 7 then fault.TooManyPorts else if n == 8 then fault.NilClose else if n == 9 then fault.AlreadyClosed
    else if n == 10 then fault.JournalFull else if n == 11 then fault.NoMemory else if n == 16 then fault.InUse
    else if n == 17 then fault.NotGone else fault.NotParked

fault-again : (f : Fault) → read_fault (fault_number f) ≡ f
fault-again f = grind arith

abbrev read_outcome : List (List ℕ) → Option Outcome
read_outcome [] = None
read_outcome (word ∷ []) =
    if same_text word (codes "sent") then Some Sent else if same_text word (codes "drained") then Some Drained else Some Closed
read_outcome (word ∷ bytes ∷ more) = option_map Got (option_map saying (value Two bytes))

-- a journal of the second edition can have each value
has-two : (c : Content) → has_content Two c ≡ true
has-two (Num n) = refl
has-two (Bytes bs) = refl

outcome-again : (o : Outcome) → OutcomeFits o → read_outcome (outcome_fields o) ≡ Some o
outcome-again Sent fits = refl
outcome-again (Got v) fits = ap (option_map Got) (value-again Two v fits (has-two (content v)))
outcome-again Drained fits = refl
outcome-again Closed fits = refl

abbrev read_fired : Option ℕ → Option Outcome → Option What
read_fired None o = None
read_fired (Some i) o = option_map (λ o. what.Fired i o) o

abbrev read_what : List (List ℕ) → Option What
read_what [] = None
read_what (word ∷ []) =
    if same_text word (codes "default") then Some what.Default else if same_text word (codes "done") then Some what.Done
    else if same_text word (codes "parked") then Some what.Parked else if same_text word (codes "stalled") then Some what.Stalled
    else Some what.Cancelled
read_what (word ∷ n ∷ []) =
    if same_text word (codes "made") then option_map (λ p. what.Made (record { 0 = p })) (number GREATEST_PORT n)
    else option_map (λ n. what.Fault (read_fault n)) (number 255 n)
read_what (word ∷ i ∷ ended ∷ more) = read_fired (number 255 i) (read_outcome (ended ∷ more))

outcome-some : (word : List ℕ) (i : ℕ) (o : Outcome) → OutcomeFits o → i ≤ 255 → read_what (word ∷ decimal i ∷ outcome_fields o) ≡ Some (what.Fired i o)
outcome-some word i Sent fits few = ap (λ n. read_fired n (Some Sent)) (number-again 255 i (omega arith) few)
outcome-some word i (Got v) fits few =
    ap (λ n. read_fired n (read_outcome (outcome_fields (Got v)))) (number-again 255 i (omega arith) few)
    ∙ ap (λ o. read_fired (Some i) o) (outcome-again (Got v) fits)
outcome-some word i Drained fits few = ap (λ n. read_fired n (Some Drained)) (number-again 255 i (omega arith) few)
outcome-some word i Closed fits few = ap (λ n. read_fired n (Some Closed)) (number-again 255 i (omega arith) few)

what-again : (w : What) → WhatFits w → read_what (what_fields w) ≡ Some w
what-again (what.Made p) fits = ap (option_map (λ p. what.Made (record { 0 = p }))) (number-again GREATEST_PORT p.0 (omega arith) fits)
what-again (what.Fired i o) fits = outcome-some (codes "case") i o fits.1 fits.0
what-again what.Default fits = refl
what-again what.Done fits = refl
what-again what.Parked fits = refl
what-again what.Stalled fits = refl
what-again (what.Fault f) fits =
    ap (option_map (λ n. what.Fault (read_fault n))) (number-again 255 (fault_number f) (omega arith) (fault-small f))
    ∙ ap (λ f. Some (what.Fault f)) (fault-again f)
what-again what.Cancelled fits = refl

abbrev read_told : Option ℕ → Option What → Option Event
read_told None w = None
read_told (Some p) w = option_map (λ w. record { pid = record { 0 = p }; what = w }) w

abbrev read_event : List (List ℕ) → Option Event
read_event [] = None
read_event (p ∷ fields) = read_told (number 255 p) (read_what fields)

event-again : (e : Event) → EventFits e → read_event (decimal e.pid.0 ∷ what_fields e.what) ≡ Some e
event-again e fits =
    ap (λ p. read_told p (read_what (what_fields e.what))) (number-again 255 e.pid.0 (omega arith) fits.pid)
    ∙ ap (read_told (Some e.pid.0)) (what-again e.what fits.what)

body-again : (e : Event) → EventFits e → read_event (pieces 32 (event_body e)) ≡ Some e
body-again e fits = ap read_event (pieces-joined 32 (decimal e.pid.0) (what_fields e.what) (fields-lack 32 e (omega arith) fits)) ∙ event-again e fits

-- ---- a line is one line

abbrev event_row : Event → Row
event_row e = record { bytes = event_body e; whole = true }

rows-event : (e : Event) (rest : List ℕ) → EventFits e → rows (event_line e ++ rest) ≡ event_row e ∷ rows rest
rows-event e rest fits =
    ap (λ xs. rows (xs ++ rest)) (line-body e)
    ∙ ap rows (append_assoc (event_body e) (codes "\n") rest)
    ∙ rows-line (event_body e) rest (lacks-joined 10 (decimal e.pid.0) (what_fields e.what) refl (fields-lack 10 e (omega arith) fits))

abbrev told : Event → Option Event
told e = Some e

some-one : (e f : Event) → told e ≡ told f → e ≡ f
some-one e f h = cc

-- no event's line begins another's
pub one-line : (e f : Event) (x y : List ℕ) → EventFits e → EventFits f → event_line e ++ x ≡ event_line f ++ y → (e ≡ f) × (x ≡ y)
one-line e f x y fe ff h =
    let one = rows-one (λ bs. read_event (pieces 32 bs)) (event_row e) (event_row f) x y (sym (rows-event e x fe) ∙ ap rows h ∙ rows-event f y ff) in
    (some-one e f (sym (body-again e fe) ∙ one.0 ∙ body-again f ff), one.1)

-- a line has a byte at least
some-line : (e : Event) (rest : List ℕ) → [] ≡ event_line e ++ rest → ⊥
some-line e rest h =
    let all = length-append (event_line e) rest in
    let line = ap length (line-body e) ∙ length-append (event_body e) (codes "\n") in
    absurd (omega (arith, ap length h, all, line))

-- a list of events whose text begins another's begins it
pub one-text : (es fs : List Event) (rest : List ℕ) → AllByRecursion EventFits es → AllByRecursion EventFits fs →
    flat_map event_line es ++ rest ≡ flat_map event_line fs → (gs : List Event) × (es ++ gs ≡ fs) × (rest ≡ flat_map event_line gs)
one-text [] fs rest fe ff h = (fs, refl, h)
one-text (e ∷ es) [] rest fe ff h =
    absurd (some-line e (flat_map event_line es ++ rest) (sym h ∙ append_assoc (event_line e) (flat_map event_line es) rest))
one-text (e ∷ es) (f ∷ fs) rest fe ff h =
    let one = one-line e f (flat_map event_line es ++ rest) (flat_map event_line fs) fe.0 ff.0
    (sym (append_assoc (event_line e) (flat_map event_line es) rest) ∙ h) in
    let more = one-text es fs rest fe.1 ff.1 one.1 in
    (more.0, ap (λ x. x ∷ es ++ more.0) one.0 ∙ ap (λ xs. f ∷ xs) more.1, more.2)

no-lines : (gs : List Event) → [] ≡ flat_map event_line gs → gs ≡ []
no-lines [] h = refl
no-lines (g ∷ gs) h = absurd (some-line g (flat_map event_line gs) h)

-- a text of events is that of one list
pub one-events : (es fs : List Event) → AllByRecursion EventFits es → AllByRecursion EventFits fs → flat_map event_line es ≡ flat_map event_line fs → es ≡ fs
one-events es fs fe ff h =
    let one = one-text es fs [] fe ff (append-nil (flat_map event_line es) ∙ h) in
    sym (append-nil es) ∙ ap (λ xs. es ++ xs) (sym (no-lines one.0 one.2)) ∙ one.1

-- and begins another's only where its list does
pub begins : (es fs : List Event) (rest : List ℕ) → AllByRecursion EventFits es → AllByRecursion EventFits fs →
    flat_map event_line es ++ rest ≡ flat_map event_line fs → IsPrefix es fs
begins es fs rest fe ff h = let one = one-text es fs rest fe ff h in (one.0, one.1)
