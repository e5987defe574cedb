-- What is read in an edition can stand in a journal of that edition.
use Rattle.std.proofs.Common.{◌≡◌, ℕ, ◌+◌, Bool, true, false, List, [], ◌∷◌, length, codes, nat_le, nat_lt, Option, Some, None, IfSome}
use Rattle.std.proofs.Common.{Result, Ok, Err, IfOk, if◌then◌else◌, refl, subst}
use Rattle.std.specs.List.{list_all}
use Rattle.std.specs.Option.{option_map}
use Rattle.std.proofs.lemmas.List.Elements.{All-nil, All-cons}
use Rattle.toml.specs.Data.{Data, string, Items, no_items, item}
use Rattle.hub_base.specs.declared.case.Case.{Case}
use Rattle.hub_base.specs.declared.case.Case.TheVariants.{Send, Recv}
use Rattle.hub_base.specs.declared.head.Edition.{Edition}
use Rattle.hub_base.specs.declared.head.Edition.TheVariants.{One, Two, Three}
use Rattle.hub_base.specs.declared.limits.TheConstants.{CASE_PLACES, GREATEST_PORT, GREATEST_VALUE}
use Rattle.hub_base.specs.declared.read_fault.Kind.{Kind}
use Rattle.hub_base.specs.declared.read_fault.Kind.TheVariants.{BadNumber}
use Rattle.hub_base.specs.declared.value.Port.{Port}
use Rattle.hub_base.specs.declared.value.Value.{Value}
use Rattle.hub_base.specs.Head.{has_bytes, has_content, has_value, has_case}
use Rattle.hub_base.specs.Lines as lines
use Rattle.hub_base.specs.Lines.Draft.{Sends, Receives}
use Rattle.hub_base.specs.Content.{Content, form_of, places_of, said}
use Rattle.hub_base.specs.Content.Content.{Num, Bytes}
use Rattle.hub_base.specs.Value.{content, saying, value_of}
use Rattle.hub_scenario.specs.declared.fault.ScenarioFault.{ScenarioFault}
use Rattle.hub_scenario.specs.declared.fault.ScenarioFault.TheVariants.{BadScript}
use Rattle.hub_scenario.specs.declared.limits.TheConstants.{MOST_SCRIPT_STEPS}
use Rattle.hub_scenario.specs.declared.script.ScriptStep.{ScriptStep}
use Rattle.hub_scenario.specs.declared.script.ScriptStep.TheVariants as step
use Rattle.hub_scenario.specs.Faults.{must, cons_ok, cons_some}
use Rattle.hub_scenario.specs.Scripts.{step_in, step_at, script_from, scripts_from, AreOf}
use Rattle.hub_scenario.specs.Steps.{port_in, only_port, right_value, value_in, send, recv, close, range, send_of, right_case, case_in}
use Rattle.hub_scenario.specs.Steps.{cases_in, select, step_by, step_of_fields, step_of, has_step}

-- ---- values
-- an edition that has bytes has every value
all_has : (ed : Edition) (c : Content) → has_bytes ed ≡ true → has_content ed c ≡ true
all_has ed (Num n) bytes = refl
all_has ed (Bytes bs) bytes = bytes

all_reads : (ed : Edition) (r : Result Value Kind) → has_bytes ed ≡ true → IfOk r (λ v. has_value ed v ≡ true)
all_reads ed (Ok v) bytes = all_has ed (content v) bytes
all_reads ed (Err k) bytes = tt

-- the first every number
number-has : (n : ℕ) → has_value One (value_of n) ≡ true
unfolding saying
number-has n = by (nat_le n GREATEST_VALUE) where
  by : (b : Bool) → let c = if b then Num n else Num 0 in has_content One (said (form_of c) (places_of c)) ≡ true
  by true = refl
  by false = refl

-- and it reads them alone
one_reads : (o : Option ℕ) → IfOk (lines.must BadNumber (option_map saying (option_map Num o))) (λ v. has_value One v ≡ true)
one_reads None = tt
one_reads (Some n) = number-has n

value-read : (ed : Edition) (bs : List ℕ) → IfOk (lines.value_read ed bs) (λ v. has_value ed v ≡ true)
value-read One [] = tt
value-read One (b ∷ bs) = one_reads (lines.number GREATEST_VALUE (b ∷ bs))
value-read Two bs = all_reads Two (lines.value_read Two bs) refl
value-read Three bs = all_reads Three (lines.value_read Three bs) refl

right-value : (ed : Edition) (r : Result Value Kind) → IfOk r (λ v. has_value ed v ≡ true) → IfSome (right_value r) (λ v. has_value ed v ≡ true)
right-value ed (Ok v) h = h
right-value ed (Err k) h = tt

-- ---- cases
sends : (ed : Edition) (n : Result ℕ Kind) (r : Result Value Kind) → IfOk r (λ v. has_value ed v ≡ true)
    → IfSome (right_case (Ok (lines.◌>>=◌ n (λ p. lines.◌>>=◌ r (λ v. Ok (Send (record { 0 = p }) v)))))) (λ c. has_case ed c ≡ true)
sends ed (Err k) r h = tt
sends ed (Ok n) (Err k) h = tt
sends ed (Ok n) (Ok v) h = h

receives : (ed : Edition) (n : Result ℕ Kind)
    → IfSome (right_case (Ok (lines.◌>>=◌ n (λ p. Ok (Recv (record { 0 = p })))))) (λ c. has_case ed c ≡ true)
receives ed (Err k) = tt
receives ed (Ok n) = refl

drafted : (ed : Edition) (r : Result lines.Draft Kind)
    → IfSome (right_case (lines.◌>>=◌ r (λ d. Ok (lines.case_of ed d)))) (λ c. has_case ed c ≡ true)
drafted ed (Err k) = tt
drafted ed (Ok (Sends p v)) = sends ed (lines.numeral GREATEST_PORT p) (lines.value_read ed v) (value-read ed v)
drafted ed (Ok (Receives p)) = receives ed (lines.numeral GREATEST_PORT p)

one_more : (ed : Edition) (o : Option Case) (os : Option (List Case)) → IfSome o (λ c. has_case ed c ≡ true)
    → IfSome os (λ cs. list_all (has_case ed) cs ≡ true) → IfSome (cons_some o os) (λ cs. list_all (has_case ed) cs ≡ true)
one_more ed None None h hs = tt
one_more ed None (Some cs) h hs = tt
one_more ed (Some c) None h hs = tt
one_more ed (Some c) (Some cs) h hs = rw (h, hs) refl

cases-in : (ed : Edition) (fs : List (List ℕ)) → IfSome (cases_in ed fs) (λ cs. list_all (has_case ed) cs ≡ true)
cases-in ed [] = refl
cases-in ed (f ∷ fs) = one_more ed (case_in ed f) (cases_in ed fs) (drafted ed (lines.draft_of f)) (cases-in ed fs)

-- ---- steps
-- a step that was read is one of this edition
abbrev Has : Edition → Option ScriptStep → Type 0
Has ed o = IfSome o (λ s. has_step ed s ≡ true)

either : (ed : Edition) (b : Bool) (x y : Option ScriptStep) → Has ed x → Has ed y → Has ed (if b then x else y)
either ed true x y h k = h
either ed false x y h k = k

sent : (ed : Edition) (p : Option Port) (v : Option Value) → IfSome v (λ v. has_value ed v ≡ true) → Has ed (send p v)
sent ed None None h = tt
sent ed None (Some v) h = tt
sent ed (Some p) None h = tt
sent ed (Some p) (Some v) h = h

send-of : (ed : Edition) (fs : List (List ℕ)) → Has ed (send_of ed fs)
send-of ed [] = tt
send-of ed (p ∷ []) = tt
send-of ed (p ∷ v ∷ []) = sent ed (port_in p) (value_in ed v) (right-value ed (lines.value_read ed v) (value-read ed v))
send-of ed (p ∷ v ∷ f ∷ fs) = tt

received : (ed : Edition) (p : Option Port) → Has ed (recv p)
received ed None = tt
received ed (Some p) = refl

closed : (ed : Edition) (p : Option Port) → Has ed (close p)
closed ed None = tt
closed ed (Some p) = refl

ranged : (ed : Edition) (p : Option Port) → Has ed (range p)
ranged ed None = tt
ranged ed (Some p) = refl

selected : (ed : Edition) (o : Option (List Case)) (default : Bool) → IfSome o (λ cs. list_all (has_case ed) cs ≡ true) → Has ed (select o default)
selected ed None default h = tt
selected ed (Some cs) default h = either ed (nat_le (length cs) CASE_PLACES) (Some (step.Select (record { items = cs }) default)) None h tt

step-by : (ed : Edition) (keyword : List ℕ) (rest : List (List ℕ)) → Has ed (step_by ed keyword rest)
step-by ed keyword rest =
    either ed (lines.same_text keyword (codes "send")) _ _ (send-of ed rest)
    (either ed (lines.same_text keyword (codes "recv")) _ _ (received ed (only_port rest))
    (either ed (lines.same_text keyword (codes "select")) _ _
    (selected ed (cases_in ed (lines.ends_default rest).0) (lines.ends_default rest).1 (cases-in ed (lines.ends_default rest).0))
    (either ed (lines.same_text keyword (codes "close")) _ _ (closed ed (only_port rest))
    (either ed (lines.same_text keyword (codes "range")) _ _ (ranged ed (only_port rest)) tt))))

step-of-fields : (ed : Edition) (fs : List (List ℕ)) → Has ed (step_of_fields ed fs)
step-of-fields ed [] = tt
step-of-fields ed (keyword ∷ rest) = step-by ed keyword rest

step-of : (ed : Edition) (text : List ℕ) → Has ed (step_of ed text)
unfolding step_of
step-of ed text = step-of-fields ed (lines.pieces 32 text)

step-in : (ed : Edition) (d : Data) → Has ed (step_in ed d)
step-in ed (string text) = step-of ed text
step-in ed d = tt

-- ---- scripts
script-cons : (ed : Edition) (e : ScenarioFault) (o : Option ScriptStep) (r : Result (List ScriptStep) ScenarioFault) → Has ed o
    → IfOk r (λ ss. list_all (has_step ed) ss ≡ true) → IfOk (cons_ok (must e o) r) (λ ss. list_all (has_step ed) ss ≡ true)
script-cons ed e None r h hs = tt
script-cons ed e (Some s) (Err f) h hs = tt
script-cons ed e (Some s) (Ok ss) h hs = rw (h, hs) refl

script-from : (ed : Edition) (p i : ℕ) (ds : Items) → IfOk (script_from ed p i ds) (λ ss. list_all (has_step ed) ss ≡ true)
script-from ed p i no_items = refl
script-from ed p i (item d ds) =
    script-cons ed (BadScript p i) (step_at ed i d) (script_from ed p (i + 1) ds)
    (either ed (nat_lt i MOST_SCRIPT_STEPS) (step_in ed d) None (step-in ed d) tt) (script-from ed p (i + 1) ds)

scripts-cons : (ed : Edition) (r : Result (List ScriptStep) ScenarioFault) (rs : Result (List (List ScriptStep)) ScenarioFault)
    → IfOk r (λ ss. list_all (has_step ed) ss ≡ true) → IfOk rs (AreOf ed) → IfOk (cons_ok r rs) (AreOf ed)
scripts-cons ed (Err e) rs h hs = tt
scripts-cons ed (Ok ss) (Err e) h hs = tt
scripts-cons ed (Ok ss) (Ok sss) h hs = All-cons (λ steps. list_all (has_step ed) steps ≡ true) ss sss h hs

scripts-from : (ed : Edition) (p : ℕ) (dss : List Items) → IfOk (scripts_from ed p dss) (AreOf ed)
scripts-from ed p [] = All-nil (λ steps. list_all (has_step ed) steps ≡ true)
scripts-from ed p (ds ∷ dss) =
    scripts-cons ed (script_from ed p 0 ds) (scripts_from ed (p + 1) dss) (script-from ed p 0 ds) (scripts-from ed (p + 1) dss)

-- scripts that were read are of this edition
pub scripts-are-of : (ed : Edition) (p : ℕ) (dss : List Items) (scripts : List (List ScriptStep)) → scripts_from ed p dss ≡ Ok scripts → AreOf ed scripts
scripts-are-of ed p dss scripts read = subst (λ r. IfOk r (AreOf ed)) read (scripts-from ed p dss)
