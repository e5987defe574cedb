-- What an entry spells is read as that entry.
use Rattle.std.proofs.Common.{◌≡◌, ℕ, zero, suc, ◌≤◌, ◌<◌, ◌^◌, Bool, true, false, cond, List, []}
use Rattle.std.proofs.Common.{◌∷◌, ◌++◌, length, map, refl, ap, ◌∙◌, Ok, Err, arith, codes}
use Rattle.std.proofs.lemmas.Bool.{and_parts}
use Rattle.std.proofs.lemmas.Grind.{common_steps}
use Rattle.std.proofs.lemmas.List.{length-map}
use Rattle.std.specs.Prelude.{decimal, nat_lt}
use Rattle.std.specs.List.{AllByRecursion, list_all}
use Rattle.hub_base.specs.declared.case.Case.{Case}
use Rattle.hub_base.specs.declared.case.Case.TheVariants.{Send, Recv}
use Rattle.hub_base.specs.Entry.{Entry, Step}
use Rattle.hub_base.specs.declared.entry.Step.TheVariants.{Make, Call, Close, Exit, Cancel, Start, Reopen}
use Rattle.hub_base.specs.declared.head.Edition.{Edition}
use Rattle.hub_base.specs.declared.limits.TheConstants.{CASE_PLACES, GREATEST_PID, GREATEST_PORT, GREATEST_CAP, GREATEST_WORD}
use Rattle.hub_base.specs.declared.read_fault.Kind.TheVariants.{BadStep}
use Rattle.hub_base.specs.Head.{has_cancel, has_case, has_lives, is_of}
use Rattle.hub_base.specs.declared.head.Edition.TheVariants.{One, Two, Three}
use Rattle.hub_base.specs.Value.{value_field}
use Rattle.hub_base.specs.Lines.Draft.{Sends, Receives}
use Rattle.hub_base.specs.Lines.{numeral, ◌>>=◌, Draft, read_one, read_select, read_fields, choose, step_fields, call_fields}
use Rattle.hub_base.specs.Lines.{select_fields, default_field, case_field, case_of, cases_of, draft_of, drafts_of}
use Rattle.hub_base.specs.Lines.{send_draft, recv_draft, spelled, ends_default, last_default, same_text, by, call}
use Rattle.hub_base.specs.Text.{Fits, CaseFits, CallFits, StepFits, fields_of}
use Rattle.hub_base.proofs.Takes.{send-field}
use Rattle.hub_base.proofs.ValueFields.{read-again, value-lacks-colon}
use Rattle.hub_base.proofs.Numerals.{numeral-again, pieces-more, pieces-last, decimal-lacks-colon}

-- a field that is no last `default` is the first of the case fields
pub ends-step : (f : List ℕ) (fs : List (List ℕ)) → last_default f fs ≡ false → ends_default (f ∷ fs) ≡ (f ∷ (ends_default fs).0, (ends_default fs).1)
ends-step f [] h = rw h refl
ends-step f (g ∷ fs) h = refl

-- the shape of a case's field
abbrev pub draft_for : Case → Draft
draft_for (Send p v) = Sends (decimal p.0) (value_field v)
draft_for (Recv p) = Receives (decimal p.0)

below : (n most : ℕ) → n ≤ most → most < 2 ^ 64 → n < 2 ^ 64
below n most h k = omega arith

-- the field of a case has its shape
pub draft-again : (c : Case) → CaseFits c → draft_of (case_field c) ≡ Ok (draft_for c)
draft-again (Send p v) fits =
    let port = decimal-lacks-colon p.0 (below p.0 GREATEST_PORT fits.0 (omega arith)) in
    ap draft_of (send-field p.0 v)
    ∙ ap send_draft (pieces-more 58 (decimal p.0) (value_field v) port
    ∙ ap (λ ps. decimal p.0 ∷ ps) (pieces-last 58 (value_field v) (value-lacks-colon v fits.1)))
draft-again (Recv p) fits =
    ap recv_draft (pieces-last 58 (decimal p.0) (decimal-lacks-colon p.0 (below p.0 GREATEST_PORT fits (omega arith))))

-- and so have all of a select
pub drafts-again : (cs : List Case) → AllByRecursion CaseFits cs → drafts_of (map case_field cs) ≡ Ok (map draft_for cs)
drafts-again [] fits = refl
drafts-again (c ∷ cs) fits = rw (draft-again c fits.0, drafts-again cs fits.1) refl

-- the parts of that shape are the case
pub case-again : (ed : Edition) (c : Case) → CaseFits c → has_case ed c ≡ true → case_of ed (draft_for c) ≡ Ok c
case-again ed (Send p v) fits has = rw (numeral-again GREATEST_PORT p.0 (omega arith) fits.0, read-again ed v fits.1 has) refl
case-again ed (Recv p) fits has = rw (numeral-again GREATEST_PORT p.0 (omega arith) fits) refl

-- and all of a select are its cases
pub cases-again : (ed : Edition) (cs : List Case) → AllByRecursion CaseFits cs → list_all (has_case ed) cs ≡ true
    → cases_of ed (map draft_for cs) ≡ Ok cs
cases-again ed [] fits has = refl
cases-again ed (c ∷ cs) fits has =
    let each = and_parts (has_case ed c) (list_all (has_case ed) cs) has in
    rw (case-again ed c fits.0 each.0, cases-again ed cs fits.1 each.1) refl

no-default : (c : Case) → same_text (case_field c) (codes "default") ≡ false
no-default (Send p v) = refl
no-default (Recv p) = refl

not-last : (c : Case) (fs : List (List ℕ)) → last_default (case_field c) fs ≡ false
not-last c [] = no-default c
not-last c (f ∷ fs) = refl

-- the cases of a select end where its default stands
pub ends-again : (cs : List Case) (d : Bool) → ends_default (map case_field cs ++ default_field d) ≡ (map case_field cs, d)
ends-again [] true = refl
ends-again [] false = refl
ends-again (c ∷ cs) d =
    ends-step (case_field c) (map case_field cs ++ default_field d) (not-last c (map case_field cs ++ default_field d))
    ∙ ap (λ (r : (List (List ℕ)) × Bool). (case_field c ∷ r.0, r.1)) (ends-again cs d)

few : (n : ℕ) → n ≤ CASE_PLACES → nat_lt CASE_PLACES n ≡ false
few n h = grind (arith, common_steps)

-- a select is read as it is spelled
pub select-again : (ed : Edition) (pid : ℕ) (cs : List Case) (d : Bool) (w : ℕ) → pid ≤ GREATEST_PID → CallFits cs w → list_all (has_case ed) cs ≡ true
    → spelled cs d w ≡ Ok (call cs d w)
    → call_fields cs d w ≡ select_fields cs d w → read_fields ed (decimal pid ∷ call_fields cs d w) ≡ Ok (by pid (call cs d w))
select-again ed pid cs d w small fits has whole fields =
    let ends = ends-again cs d in
    let count : nat_lt CASE_PLACES (length (map draft_for cs)) ≡ false =
    (let n = length-map cs draft_for in few (length (map draft_for cs)) (omega (arith, n, fits.few))) in
    ap (λ gs. read_fields ed (decimal pid ∷ gs)) fields
    ∙ ap (read_select ed (decimal pid) (decimal w)) ends
    ∙ ap (λ r. r >>= λ ds. cond (nat_lt CASE_PLACES (length ds)) (Err BadStep) (choose (decimal pid) (decimal w) (cases_of ed ds) d))
    (drafts-again cs fits.each)
    ∙ ap (λ b. cond b (Err BadStep) (choose (decimal pid) (decimal w) (cases_of ed (map draft_for cs)) d)) count
    ∙ ap (λ r. choose (decimal pid) (decimal w) r d) (cases-again ed cs fits.each has)
    ∙ ap (λ r. r >>= λ pid. numeral GREATEST_WORD (decimal w) >>= λ word. spelled cs d word >>= λ step. Ok (by pid step))
    (numeral-again GREATEST_PID pid (omega arith) small)
    ∙ ap (λ r. r >>= λ word. spelled cs d word >>= λ step. Ok (by pid step)) (numeral-again GREATEST_WORD w (omega arith) fits.word_fits)
    ∙ ap (λ r. r >>= λ step. Ok (by pid step)) whole

-- a word with one number is read as it is spelled
one-again : (most : ℕ) (step : ℕ → Step) (pid n : ℕ) → most < 2 ^ 64 → pid ≤ GREATEST_PID → n ≤ most
    → read_one most step (decimal pid) (decimal n ∷ []) ≡ Ok (by pid (step n))
one-again most step pid n wide small fits =
    ap (λ r. r >>= λ pid. numeral most (decimal n) >>= λ n. Ok (by pid (step n))) (numeral-again GREATEST_PID pid (omega arith) small)
    ∙ ap (λ r. r >>= λ n. Ok (by pid (step n))) (numeral-again most n wide fits)

-- a call is read as it is spelled, in its short form or as a select
pub call-again : (ed : Edition) (pid : ℕ) (cs : List Case) (d : Bool) (w : ℕ) → pid ≤ GREATEST_PID → CallFits cs w → list_all (has_case ed) cs ≡ true
    → read_fields ed (decimal pid ∷ call_fields cs d w) ≡ Ok (by pid (call cs d w))
call-again ed pid [] d w small fits has = select-again ed pid [] d w small fits has refl refl
call-again ed pid (Send p v ∷ []) true w small fits has = select-again ed pid (Send p v ∷ []) true w small fits has refl refl
call-again ed pid (Send p v ∷ []) false zero small fits has =
    ap (λ r. r >>= λ pid. case_of ed (Sends (decimal p.0) (value_field v)) >>= λ c. Ok (by pid (call (c ∷ []) false 0)))
    (numeral-again GREATEST_PID pid (omega arith) small)
    ∙ ap (λ r. r >>= λ c. Ok (by pid (call (c ∷ []) false 0))) (case-again ed (Send p v) fits.each.0 (and_parts (has_case ed (Send p v)) true has).0)
call-again ed pid (Send p v ∷ []) false (suc w) small fits has = select-again ed pid (Send p v ∷ []) false (suc w) small fits has refl refl
call-again ed pid (Recv p ∷ []) true w small fits has = select-again ed pid (Recv p ∷ []) true w small fits has refl refl
call-again ed pid (Recv p ∷ []) false zero small fits has =
    one-again GREATEST_PORT (λ p. call (Recv (record { 0 = p }) ∷ []) false 0) pid p.0 (omega arith) small fits.each.0
call-again ed pid (Recv p ∷ []) false (suc w) small fits has = select-again ed pid (Recv p ∷ []) false (suc w) small fits has refl refl
call-again ed pid (Send p v ∷ c ∷ cs) d w small fits has = select-again ed pid (Send p v ∷ c ∷ cs) d w small fits has refl refl
call-again ed pid (Recv p ∷ c ∷ cs) d w small fits has = select-again ed pid (Recv p ∷ c ∷ cs) d w small fits has refl refl

cancel-again : (ed : Edition) (pid q : ℕ) → pid ≤ GREATEST_PID → q ≤ GREATEST_PID → has_cancel ed ≡ true
    → read_fields ed (decimal pid ∷ step_fields (Cancel (record { 0 = q }))) ≡ Ok (by pid (Cancel (record { 0 = q })))
cancel-again One pid q small fits has = cc
cancel-again Two pid q small fits has = one-again GREATEST_PID (λ q. Cancel (record { 0 = q })) pid q (omega arith) small fits
cancel-again Three pid q small fits has = one-again GREATEST_PID (λ q. Cancel (record { 0 = q })) pid q (omega arith) small fits

start-again : (ed : Edition) (pid q : ℕ) → pid ≤ GREATEST_PID → q ≤ GREATEST_PID → has_lives ed ≡ true
    → read_fields ed (decimal pid ∷ step_fields (Start (record { 0 = q }))) ≡ Ok (by pid (Start (record { 0 = q })))
start-again One pid q small fits has = cc
start-again Two pid q small fits has = cc
start-again Three pid q small fits has = one-again GREATEST_PID (λ q. Start (record { 0 = q })) pid q (omega arith) small fits

reopen-again : (ed : Edition) (pid p cap : ℕ) → pid ≤ GREATEST_PID → p ≤ GREATEST_PORT → cap ≤ GREATEST_CAP → has_lives ed ≡ true
    → read_fields ed (decimal pid ∷ step_fields (Reopen (record { 0 = p }) cap)) ≡ Ok (by pid (Reopen (record { 0 = p }) cap))
reopen-again One pid p cap small fits few has = cc
reopen-again Two pid p cap small fits few has = cc
reopen-again Three pid p cap small fits few has =
    ap (λ r. r >>= λ pid. numeral GREATEST_PORT (decimal p) >>= λ p. numeral GREATEST_CAP (decimal cap) >>= λ cap. Ok (by pid (Reopen (record { 0 = p }) cap)))
    (numeral-again GREATEST_PID pid (omega arith) small)
    ∙ ap (λ r. r >>= λ p. numeral GREATEST_CAP (decimal cap) >>= λ cap. Ok (by pid (Reopen (record { 0 = p }) cap)))
    (numeral-again GREATEST_PORT p (omega arith) fits)
    ∙ ap (λ r. r >>= λ cap. Ok (by pid (Reopen (record { 0 = p }) cap))) (numeral-again GREATEST_CAP cap (omega arith) few)

step-again : (ed : Edition) (pid : ℕ) (step : Step) → pid ≤ GREATEST_PID → StepFits step → is_of ed step ≡ true
    → read_fields ed (decimal pid ∷ step_fields step) ≡ Ok (by pid step)
step-again ed pid (Make cap) small fits of_edition = one-again GREATEST_CAP Make pid cap (omega arith) small fits
step-again ed pid (Call cases d w) small fits of_edition = call-again ed pid cases.items d w small fits of_edition
step-again ed pid (Close p) small fits of_edition = one-again GREATEST_PORT (λ p. Close (record { 0 = p })) pid p.0 (omega arith) small fits
step-again ed pid Exit small fits of_edition = ap (λ r. r >>= λ pid. Ok (by pid Exit)) (numeral-again GREATEST_PID pid (omega arith) small)
step-again ed pid (Start q) small fits of_edition = start-again ed pid q.0 small fits of_edition
step-again ed pid (Reopen p cap) small fits of_edition = reopen-again ed pid p.0 cap small fits.0 fits.1 of_edition
step-again ed pid (Cancel q) small fits of_edition = cancel-again ed pid q.0 small fits of_edition

-- what an entry spells is read as that entry
pub fields-again : (ed : Edition) (e : Entry) → Fits ed e → read_fields ed (fields_of e) ≡ Ok e
fields-again ed e fits = step-again ed e.pid.0 e.step fits.pid fits.step fits.of_edition
