-- A line of an entry holds no space but between its fields, and no newline but at its end.
use Rattle.std.proofs.Common.{◌≡◌, ℕ, zero, suc, ◌≤◌, ◌<◌, ◌^◌, Bool, true, false, List, [], ◌∷◌, ◌++◌}
use Rattle.std.proofs.Common.{map, refl, ap, ◌∙◌, Ok, arith, codes, not, ◌==◌, ◌&&◌, append_assoc}
use Rattle.std.proofs.lemmas.Bool.{and_parts}
use Rattle.std.proofs.lemmas.Grind.{common_steps}
use Rattle.std.specs.Prelude.{decimal, nat_le}
use Rattle.std.specs.List.{AllByRecursion, list_all, flat_map}
use Rattle.hub_base.specs.declared.case.Case.{Case}
use Rattle.hub_base.specs.declared.case.Case.TheVariants.{Send, Recv}
use Rattle.hub_base.specs.Entry.{Entry, Step}
use Rattle.hub_base.specs.declared.head.Edition.{Edition}
use Rattle.hub_base.specs.declared.limits.TheConstants.{GREATEST_PID, GREATEST_PORT, GREATEST_CAP, GREATEST_WORD}
use Rattle.hub_base.specs.declared.entry.Step.TheVariants.{Make, Call, Close, Exit, Cancel, Start, Reopen}
use Rattle.hub_base.specs.Lines.{step_fields, call_fields, select_fields, default_field, case_field, read_fields, pieces, line}
use Rattle.hub_base.specs.Reading.{rows, front}
use Rattle.hub_base.specs.Value.{value_field}
use Rattle.hub_base.specs.Text.{Fits, CaseFits, CallFits, StepFits, fields_of, body, row_of}
use Rattle.hub_base.proofs.Numerals.{lacks, all_lack, not-true, lacks-append, decimal-lacks, pieces-joined, lacks-joined}
use Rattle.hub_base.proofs.ValueFields.{value-lacks}
use Rattle.hub_base.proofs.Again.{fields-again}

both : (a b : Bool) → a ≡ true → b ≡ true → (a && b) ≡ true
both true true h k = refl
both true false h k = cc
both false b h k = cc

high : (m c : ℕ) → m < 35 → nat_le 48 c ≡ true → not (c == m) ≡ true
high m c low h = grind (arith, common_steps)

-- a mark below those of values stands in no bytes from the digits on
pub lacks-high : (m : ℕ) (xs : List ℕ) → m < 35 → list_all (nat_le 48) xs ≡ true → lacks m xs ≡ true
lacks-high m [] low h = refl
lacks-high m (x ∷ xs) low h =
    let s = and_parts (nat_le 48 x) (list_all (nat_le 48) xs) h in
    both (not (x == m)) (lacks m xs) (high m x low s.0) (lacks-high m xs low s.1)

small : (n most : ℕ) → n ≤ most → most < 2 ^ 64 → n < 2 ^ 64
small n most h k = omega arith

case-lacks : (m : ℕ) (c : Case) → m < 35 → CaseFits c → lacks m (case_field c) ≡ true
case-lacks m (Send p v) low fits =
    let port = decimal-lacks m p.0 low (small p.0 GREATEST_PORT fits.0 (omega arith)) in
    let value = value-lacks m v low fits.1 in
    both (not (115 == m)) (lacks m (decimal p.0 ++ 58 ∷ value_field v)) (high m 115 low refl)
    (lacks-append m (decimal p.0) (58 ∷ value_field v) port (both (not (58 == m)) (lacks m (value_field v)) (high m 58 low refl) value))
case-lacks m (Recv p) low fits =
    both (not (114 == m)) (lacks m (decimal p.0)) (high m 114 low refl) (decimal-lacks m p.0 low (small p.0 GREATEST_PORT fits (omega arith)))

default-lacks : (m : ℕ) (d : Bool) → m < 35 → all_lack m (default_field d) ≡ true
default-lacks m true low = both (lacks m (codes "default")) true (lacks-high m (codes "default") low refl) refl
default-lacks m false low = refl

cases-lack : (m : ℕ) (cs : List Case) (d : Bool) → m < 35 → AllByRecursion CaseFits cs → all_lack m (map case_field cs ++ default_field d) ≡ true
cases-lack m [] d low fits = default-lacks m d low
cases-lack m (c ∷ cs) d low fits =
    both (lacks m (case_field c)) (all_lack m (map case_field cs ++ default_field d)) (case-lacks m c low fits.0) (cases-lack m cs d low fits.1)

select-lacks : (m : ℕ) (cs : List Case) (d : Bool) (w : ℕ) → m < 35 → CallFits cs w → all_lack m (select_fields cs d w) ≡ true
select-lacks m cs d w low fits =
    both (lacks m (codes "select")) (all_lack m (decimal w ∷ map case_field cs ++ default_field d)) (lacks-high m (codes "select") low refl)
    (both (lacks m (decimal w)) (all_lack m (map case_field cs ++ default_field d))
    (decimal-lacks m w low (small w GREATEST_WORD fits.word_fits (omega arith))) (cases-lack m cs d low fits.each))

one-lacks : (m most n : ℕ) → m < 35 → most < 2 ^ 64 → n ≤ most → all_lack m (decimal n ∷ []) ≡ true
one-lacks m most n low wide fits = both (lacks m (decimal n)) true (decimal-lacks m n low (small n most fits wide)) refl

named : (m : ℕ) (name : List ℕ) (fs : List (List ℕ)) → m < 35 → list_all (nat_le 48) name ≡ true → all_lack m fs ≡ true → all_lack m (name ∷ fs) ≡ true
named m name fs low h k = both (lacks m name) (all_lack m fs) (lacks-high m name low h) k

call-lacks : (m : ℕ) (cs : List Case) (d : Bool) (w : ℕ) → m < 35 → CallFits cs w → all_lack m (call_fields cs d w) ≡ true
call-lacks m [] d w low fits = select-lacks m [] d w low fits
call-lacks m (Send p v ∷ []) true w low fits = select-lacks m (Send p v ∷ []) true w low fits
call-lacks m (Send p v ∷ []) false zero low fits =
    named m (codes "send") (decimal p.0 ∷ value_field v ∷ []) low refl
    (both (lacks m (decimal p.0)) (all_lack m (value_field v ∷ [])) (decimal-lacks m p.0 low (small p.0 GREATEST_PORT fits.each.0.0 (omega arith)))
    (both (lacks m (value_field v)) true (value-lacks m v low fits.each.0.1) refl))
call-lacks m (Send p v ∷ []) false (suc w) low fits = select-lacks m (Send p v ∷ []) false (suc w) low fits
call-lacks m (Recv p ∷ []) true w low fits = select-lacks m (Recv p ∷ []) true w low fits
call-lacks m (Recv p ∷ []) false zero low fits =
    named m (codes "recv") (decimal p.0 ∷ []) low refl (one-lacks m GREATEST_PORT p.0 low (omega arith) fits.each.0)
call-lacks m (Recv p ∷ []) false (suc w) low fits = select-lacks m (Recv p ∷ []) false (suc w) low fits
call-lacks m (Send p v ∷ c ∷ cs) d w low fits = select-lacks m (Send p v ∷ c ∷ cs) d w low fits
call-lacks m (Recv p ∷ c ∷ cs) d w low fits = select-lacks m (Recv p ∷ c ∷ cs) d w low fits

step-lacks : (m : ℕ) (step : Step) → m < 35 → StepFits step → all_lack m (step_fields step) ≡ true
step-lacks m (Make cap) low fits = named m (codes "make") (decimal cap ∷ []) low refl (one-lacks m GREATEST_CAP cap low (omega arith) fits)
step-lacks m (Call cases d w) low fits = call-lacks m cases.items d w low fits
step-lacks m (Close p) low fits = named m (codes "close") (decimal p.0 ∷ []) low refl (one-lacks m GREATEST_PORT p.0 low (omega arith) fits)
step-lacks m Exit low fits = named m (codes "exit") [] low refl refl
step-lacks m (Start q) low fits = named m (codes "start") (decimal q.0 ∷ []) low refl (one-lacks m GREATEST_PID q.0 low (omega arith) fits)
step-lacks m (Reopen p cap) low fits =
    named m (codes "reopen") (decimal p.0 ∷ decimal cap ∷ []) low refl
    (both (lacks m (decimal p.0)) (all_lack m (decimal cap ∷ [])) (decimal-lacks m p.0 low (small p.0 GREATEST_PORT fits.0 (omega arith)))
    (one-lacks m GREATEST_CAP cap low (omega arith) fits.1))
step-lacks m (Cancel q) low fits = named m (codes "cancel") (decimal q.0 ∷ []) low refl (one-lacks m GREATEST_PID q.0 low (omega arith) fits)

-- no field of an entry holds such a mark
pub fields-lack : (ed : Edition) (m : ℕ) (e : Entry) → m < 35 → Fits ed e → all_lack m (fields_of e) ≡ true
fields-lack ed m e low fits = both (lacks m (decimal e.pid.0)) (all_lack m (step_fields e.step))
    (decimal-lacks m e.pid.0 low (small e.pid.0 GREATEST_PID fits.pid (omega arith))) (step-lacks m e.step low fits.step)

-- a line without its newline is read as its entry
pub body-again : (ed : Edition) (e : Entry) → Fits ed e → read_fields ed (pieces 32 (body e)) ≡ Ok e
body-again ed e fits = ap (read_fields ed) (pieces-joined 32 (decimal e.pid.0) (step_fields e.step) (fields-lack ed 32 e (omega arith) fits))
    ∙ fields-again ed e fits

-- a line ends at its newline
pub rows-line : (b rest : List ℕ) → lacks 10 b ≡ true → rows (b ++ 10 ∷ rest) ≡ record { bytes = b; whole = true } ∷ rows rest
rows-line [] rest h = refl
rows-line (c ∷ cs) rest h =
    let s = and_parts (not (c == 10)) (lacks 10 cs) h in
    rw (not-true (c == 10) s.0) (ap (front c) (rows-line cs rest s.1))

-- the line of an entry is one line
pub rows-entry : (ed : Edition) (e : Entry) (rest : List ℕ) → Fits ed e → rows (line e ++ rest) ≡ row_of e ∷ rows rest
rows-entry ed e rest fits =
    ap rows (append_assoc (body e) (codes "\n") rest)
    ∙ rows-line (body e) rest (lacks-joined 10 (decimal e.pid.0) (step_fields e.step) refl (fields-lack ed 10 e (omega arith) fits))

-- and the lines of entries are as many
pub rows-entries : (ed : Edition) (es : List Entry) (rest : List ℕ) → AllByRecursion (Fits ed) es
    → rows (flat_map line es ++ rest) ≡ map row_of es ++ rows rest
rows-entries ed [] rest fits = refl
rows-entries ed (e ∷ es) rest fits =
    ap rows (append_assoc (line e) (flat_map line es) rest) ∙ rows-entry ed e (flat_map line es ++ rest) fits.0
    ∙ ap (λ rs. row_of e ∷ rs) (rows-entries ed es rest fits.1)
