-- What is left of a select while its case fields are read.
use Rattle.std.proofs.Common.{◌≡◌, ℕ, ◌+◌, ◌≤◌, Bool, true, false, cond, List, [], ◌∷◌, ◌++◌, length, refl, ap, ◌∙◌}
use Rattle.std.proofs.Common.{sym, Option, Some, None, Result, Ok, Err, arith, append_assoc, append-nil, ◌==◌}
use Rattle.std.proofs.lemmas.Grind.{common_steps}
use Rattle.std.specs.Prelude.{nat_lt}
use Rattle.hub_base.specs.declared.case.Case.{Case}
use Rattle.hub_base.specs.Entry.{Entry}
use Rattle.hub_base.specs.declared.head.Edition.{Edition}
use Rattle.hub_base.specs.declared.read_fault.Kind.{Kind}
use Rattle.hub_base.specs.declared.limits.TheConstants.{CASE_PLACES, GREATEST_PORT}
use Rattle.hub_base.specs.declared.read_fault.Kind.TheVariants.{BadStep, BadNumber}
use Rattle.std.specs.Option.{option_map}
use Rattle.hub_base.specs.Value.{saying}
use Rattle.hub_base.specs.Lines.Draft.{Sends, Receives}
use Rattle.hub_base.specs.Lines.{◌>>=◌, Draft, draft_of, send_draft, recv_draft, drafts_of, case_of, cases_of, case_read}
use Rattle.hub_base.proofs.Again.{ends-step}
use Rattle.hub_base.specs.Lines.{choose, read_select, ends_default, last_default, numeral, number, must, pieces, value, value_read}

-- the cases so far, unless a number was wrong
abbrev pub so_far : Bool → List Case → Result (List Case) Kind
so_far fine cases = cond fine (Ok cases) (Err BadNumber)

-- the cases of two parts of a select, one after the other
abbrev pub joined : Result (List Case) Kind → Result (List Case) Kind → Result (List Case) Kind
joined acc r = acc >>= λ a. r >>= λ b. Ok (a ++ b)

-- a select of which so many cases were read, and what their numbers say
abbrev pub rest_of : Edition → List ℕ → List ℕ → ℕ → Result (List Case) Kind → (List (List ℕ)) × Bool → Result Entry Kind
rest_of ed pid word n acc fields =
    drafts_of fields.0 >>= λ ds. cond (nat_lt CASE_PLACES (n + length ds)) (Err BadStep) (choose pid word (joined acc (cases_of ed ds)) fields.1)

joined-nil : (r : Result (List Case) Kind) → joined (Ok []) r ≡ r
joined-nil (Ok cs) = refl
joined-nil (Err k) = refl

joined-none : (r : Result (List Case) Kind) → joined r (Ok []) ≡ r
joined-none (Ok cs) = ap (λ xs. Ok xs) (append-nil cs)
joined-none (Err k) = refl

joined-assoc : (a b c : Result (List Case) Kind) → joined a (joined b c) ≡ joined (joined a b) c
joined-assoc (Ok a) (Ok b) (Ok c) = ap (λ xs. Ok xs) (sym (append_assoc a b c))
joined-assoc (Ok a) (Ok b) (Err k) = refl
joined-assoc (Ok a) (Err k) c = refl
joined-assoc (Err k) b c = refl

-- the case of one field, as a list
abbrev pub one : Result Case Kind → Result (List Case) Kind
one r = r >>= λ c. Ok (c ∷ [])

cases-first : (r : Result Case Kind) (rs : Result (List Case) Kind) → (r >>= λ c. rs >>= λ cs. Ok (c ∷ cs)) ≡ joined (one r) rs
cases-first (Ok c) (Ok cs) = refl
cases-first (Ok c) (Err k) = refl
cases-first (Err k) rs = refl

-- at first none
pub rest-init : (ed : Edition) (pid word : List ℕ) (fs : (List (List ℕ)) × Bool) → read_select ed pid word fs ≡ rest_of ed pid word 0 (Ok []) fs
rest-init ed pid word fs = init ed pid word (drafts_of fs.0) fs.1 where
  init : (ed : Edition) (pid word : List ℕ) (ds : Result (List Draft) Kind) (d : Bool)
      → (ds >>= λ ds. cond (nat_lt CASE_PLACES (length ds)) (Err BadStep) (choose pid word (cases_of ed ds) d))
      ≡ (ds >>= λ ds. cond (nat_lt CASE_PLACES (0 + length ds)) (Err BadStep) (choose pid word (joined (Ok []) (cases_of ed ds)) d))
  init ed pid word (Ok ds) d =
      let zero : 0 + length ds ≡ length ds = omega arith in
      rw zero (ap (λ r. cond (nat_lt CASE_PLACES (length ds)) (Err BadStep) (choose pid word r d)) (sym (joined-nil (cases_of ed ds))))
  init ed pid word (Err k) d = refl

small : (n : ℕ) → n ≤ CASE_PLACES → nat_lt CASE_PLACES (n + 0) ≡ false
small n h = grind (arith, common_steps)

-- at the end all
pub rest-end : (ed : Edition) (pid word : List ℕ) (n : ℕ) (acc : Result (List Case) Kind) (d : Bool) → n ≤ CASE_PLACES
    → rest_of ed pid word n acc ([], d) ≡ choose pid word acc d
rest-end ed pid word n acc d h = rw (small n h) (ap (λ r. choose pid word r d) (joined-none acc))

after-draft : (ed : Edition) (pid word : List ℕ) (n : ℕ) (acc : Result (List Case) Kind) (f : Draft) (ds : Result (List Draft) Kind) (d : Bool) →
    ((ds >>= λ ds. Ok (f ∷ ds)) >>= λ ds. cond (nat_lt CASE_PLACES (n + length ds)) (Err BadStep) (choose pid word (joined acc (cases_of ed ds)) d))
    ≡ (ds >>= λ ds. cond (nat_lt CASE_PLACES ((n + 1) + length ds)) (Err BadStep)
    (choose pid word (joined (joined acc (one (case_of ed f))) (cases_of ed ds)) d))
after-draft ed pid word n acc f (Err k) d = refl
after-draft ed pid word n acc f (Ok ds) d =
    let more : n + length (f ∷ ds) ≡ (n + 1) + length ds = omega arith in
    let cases : joined acc (cases_of ed (f ∷ ds)) ≡ joined (joined acc (one (case_of ed f))) (cases_of ed ds) =
    ap (joined acc) (cases-first (case_of ed f) (cases_of ed ds)) ∙ joined-assoc acc (one (case_of ed f)) (cases_of ed ds) in
    ap (λ m. cond (nat_lt CASE_PLACES m) (Err BadStep) (choose pid word (joined acc (cases_of ed (f ∷ ds))) d)) more
    ∙ ap (λ r. cond (nat_lt CASE_PLACES ((n + 1) + length ds)) (Err BadStep) (choose pid word r d)) cases

-- behind one more field of the right shape
pub rest-step : (ed : Edition) (pid word : List ℕ) (n : ℕ) (acc : Result (List Case) Kind) (f : List ℕ) (draft : Draft) (fs : (List (List ℕ)) × Bool)
    → draft_of f ≡ Ok draft → rest_of ed pid word n acc (f ∷ fs.0, fs.1) ≡ rest_of ed pid word (n + 1) (joined acc (one (case_of ed draft))) fs
rest-step ed pid word n acc f draft fs e = rw e (after-draft ed pid word n acc draft (drafts_of fs.0) fs.1)

-- behind a field of a wrong shape
pub rest-bad : (ed : Edition) (pid word : List ℕ) (n : ℕ) (acc : Result (List Case) Kind) (f : List ℕ) (fs : (List (List ℕ)) × Bool) (k : Kind)
    → draft_of f ≡ Err k →
    rest_of ed pid word n acc (f ∷ fs.0, fs.1) ≡ Err k
rest-bad ed pid word n acc f fs k e = rw e refl

-- a wrong shape is always one fault
send-bad : (ps : List (List ℕ)) (k : Kind) → send_draft ps ≡ Err k → k ≡ BadStep
send-bad [] k e = cc
send-bad (p ∷ []) k e = cc
send-bad (p ∷ v ∷ []) k e = cc
send-bad (p ∷ v ∷ q ∷ ps) k e = cc

recv-bad : (ps : List (List ℕ)) (k : Kind) → recv_draft ps ≡ Err k → k ≡ BadStep
recv-bad [] k e = cc
recv-bad (p ∷ []) k e = cc
recv-bad (p ∷ v ∷ ps) k e = cc

letter-bad : (s r : Bool) (a b : Result Draft Kind) (k : Kind) → ((k : Kind) → a ≡ Err k → k ≡ BadStep)
    → ((k : Kind) → b ≡ Err k → k ≡ BadStep) → cond s a (cond r b (Err BadStep)) ≡ Err k → k ≡ BadStep
letter-bad true r a b k f g e = f k e
letter-bad false true a b k f g e = g k e
letter-bad false false a b k f g e = cc

-- a wrong shape is a bad step
pub draft-bad : (f : List ℕ) (k : Kind) → draft_of f ≡ Err k → k ≡ BadStep
draft-bad [] k e = cc
draft-bad (c ∷ cs) k e =
    letter-bad (c == 115) (c == 114) (send_draft (pieces 58 cs)) (recv_draft (pieces 58 cs)) k (send-bad (pieces 58 cs)) (recv-bad (pieces 58 cs)) e

two-bad : (r : Result Draft Kind) (rs : Result (List Draft) Kind) (k : Kind) → ((k : Kind) → r ≡ Err k → k ≡ BadStep)
    → ((k : Kind) → rs ≡ Err k → k ≡ BadStep) → (r >>= λ d. rs >>= λ ds. Ok (d ∷ ds)) ≡ Err k → k ≡ BadStep
two-bad (Ok d) (Ok ds) k f g e = cc
two-bad (Ok d) (Err j) k f g e = g k (cc)
two-bad (Err j) rs k f g e = f k (cc)

-- in any field
pub drafts-bad : (fs : List (List ℕ)) (k : Kind) → drafts_of fs ≡ Err k → k ≡ BadStep
drafts-bad [] k e = cc
drafts-bad (f ∷ fs) k e = two-bad (draft_of f) (drafts_of fs) k (draft-bad f) (drafts-bad fs) e

many : (ds : Result (List Draft) Kind) (draft : Draft) (x : List Draft → Result Entry Kind) → ((k : Kind) → ds ≡ Err k → k ≡ BadStep) →
    ((ds >>= λ ds. Ok (draft ∷ ds)) >>= λ ds. cond (nat_lt CASE_PLACES (CASE_PLACES + length ds)) (Err BadStep) (x ds)) ≡ Err BadStep
many (Ok ds) draft x h = let big : nat_lt CASE_PLACES (CASE_PLACES + length (draft ∷ ds)) ≡ true = grind (arith, common_steps) in rw big refl
many (Err k) draft x h = ap (λ k. Err k) (h k refl)

-- a case behind sixteen is a bad step
pub rest-many : (ed : Edition) (pid word : List ℕ) (acc : Result (List Case) Kind) (f : List ℕ) (draft : Draft) (fs : (List (List ℕ)) × Bool)
    → draft_of f ≡ Ok draft →
    rest_of ed pid word CASE_PLACES acc (f ∷ fs.0, fs.1) ≡ Err BadStep
rest-many ed pid word acc f draft fs e = rw e (many (drafts_of fs.0) draft (λ ds. choose pid word (joined acc (cases_of ed ds)) fs.1) (drafts-bad fs.0))

-- a wrong number is always one fault
must-bad : {A : Type 0} (o : Option A) (k : Kind) → must BadNumber o ≡ Err k → k ≡ BadNumber
must-bad None k e = cc
must-bad (Some x) k e = cc

one-bad : {A B : Type 0} (r : Result A Kind) (f : A → B) (k : Kind) → ((k : Kind) → r ≡ Err k → k ≡ BadNumber) → (r >>= λ x. Ok (f x)) ≡ Err k → k ≡ BadNumber
one-bad (Ok x) f k h e = cc
one-bad (Err j) f k h e = h k (cc)

both-bad : {A B C : Type 0} (r : Result A Kind) (s : Result B Kind) (f : A → B → C) (k : Kind) → ((k : Kind) → r ≡ Err k → k ≡ BadNumber)
    → ((k : Kind) → s ≡ Err k → k ≡ BadNumber) → (r >>= λ x. s >>= λ y. Ok (f x y)) ≡ Err k → k ≡ BadNumber
both-bad (Ok x) s f k h g e = one-bad s (f x) k g e
both-bad (Err j) s f k h g e = h k (cc)

-- a wrong number is a bad number
pub case-bad : (ed : Edition) (d : Draft) (k : Kind) → case_of ed d ≡ Err k → k ≡ BadNumber
case-bad ed (Sends p v) k e =
    both-bad (numeral GREATEST_PORT p) (value_read ed v) _ k (must-bad (number GREATEST_PORT p)) (must-bad (option_map saying (value ed v))) e
case-bad ed (Receives p) k e = one-bad (numeral GREATEST_PORT p) _ k (must-bad (number GREATEST_PORT p)) e

-- one more case
pub joined-ok : (fine : Bool) (cases : List Case) (c : Case) → joined (so_far fine cases) (one (Ok c)) ≡ so_far fine (cases ++ c ∷ [])
joined-ok true cases c = refl
joined-ok false cases c = refl

-- a case whose numbers are wrong
pub joined-err : (ed : Edition) (fine : Bool) (cases : List Case) (d : Draft) (k : Kind) → case_of ed d ≡ Err k
    → joined (so_far fine cases) (one (case_of ed d)) ≡ so_far false cases
joined-err ed true cases d k e = rw e (ap (λ k. Err k) (case-bad ed d k e))
joined-err ed false cases d k e = refl

-- a last default ends the cases
pub ends-last : (f : List ℕ) (fs : List (List ℕ)) → last_default f fs ≡ true → ends_default (f ∷ fs) ≡ ([], true)
ends-last f [] h = rw h refl
ends-last f (g ∷ fs) h = cc

-- a field of the right shape
pub read-of : (ed : Edition) (f : List ℕ) (r : Result Case Kind) → case_read ed f ≡ Ok r → (draft : Draft) × (draft_of f ≡ Ok draft) × (case_of ed draft ≡ r)
read-of ed f r e = go (draft_of f) r e where
  go : (ds : Result Draft Kind) (r : Result Case Kind) → (ds >>= λ d. Ok (case_of ed d)) ≡ Ok r → (draft : Draft) × (ds ≡ Ok draft) × (case_of ed draft ≡ r)
  go (Ok d) r e = (d, refl, cc)
  go (Err k) r e = cc

-- a field of a wrong shape
pub read-bad : (ed : Edition) (f : List ℕ) (k : Kind) → case_read ed f ≡ Err k → draft_of f ≡ Err k
read-bad ed f k e = go (draft_of f) k e where
  go : (ds : Result Draft Kind) (k : Kind) → (ds >>= λ d. Ok (case_of ed d)) ≡ Err k → ds ≡ Err k
  go (Ok d) k e = cc
  go (Err j) k e = cc

goes : (ed : Edition) (pid word f : List ℕ) (fields rest : List (List ℕ)) (n : ℕ) (acc next : Result (List Case) Kind) (whole : Result Entry Kind)
    (draft : Draft)
    → whole ≡ rest_of ed pid word n acc (ends_default fields) → fields ≡ f ∷ rest → last_default f rest ≡ false → draft_of f ≡ Ok draft
    → joined acc (one (case_of ed draft)) ≡ next → whole ≡ rest_of ed pid word (n + 1) next (ends_default rest)
goes ed pid word f fields rest n acc next whole draft same is plain d now =
    same ∙ ap (λ fs. rest_of ed pid word n acc (ends_default fs)) is ∙ ap (rest_of ed pid word n acc) (ends-step f rest plain)
    ∙ rest-step ed pid word n acc f draft (ends_default rest) d ∙ ap (λ r. rest_of ed pid word (n + 1) r (ends_default rest)) now

-- ---- one turn of the loop, by what its field is
-- a case
pub goes-ok : (ed : Edition) (pid word f : List ℕ) (fields rest : List (List ℕ)) (n : ℕ) (fine : Bool) (cases new : List Case)
    (whole : Result Entry Kind) (r : Result Case Kind) (c : Case) → whole ≡ rest_of ed pid word n (so_far fine cases) (ends_default fields)
    → fields ≡ f ∷ rest → last_default f rest ≡ false → Ok r ≡ case_read ed f → r ≡ Ok c → new ≡ cases ++ c ∷ []
    → whole ≡ rest_of ed pid word (n + 1) (so_far fine new) (ends_default rest)
goes-ok ed pid word f fields rest n fine cases new whole r c same is plain read ok grown =
    let d = read-of ed f r (sym read) in
    goes ed pid word f fields rest n (so_far fine cases) (so_far fine new) whole d.0 same is plain d.1
    (ap (λ r. joined (so_far fine cases) (one r)) (d.2 ∙ ok) ∙ joined-ok fine cases c ∙ ap (so_far fine) (sym grown))

-- a case behind one whose numbers are wrong
pub goes-late : (ed : Edition) (pid word f : List ℕ) (fields rest : List (List ℕ)) (n : ℕ) (fine : Bool) (cases : List Case) (whole : Result Entry Kind)
    (r : Result Case Kind) (c : Case) → whole ≡ rest_of ed pid word n (so_far fine cases) (ends_default fields) → fields ≡ f ∷ rest
    → last_default f rest ≡ false → Ok r ≡ case_read ed f → r ≡ Ok c → fine ≡ false
    → whole ≡ rest_of ed pid word (n + 1) (so_far fine cases) (ends_default rest)
goes-late ed pid word f fields rest n fine cases whole r c same is plain read ok late =
    let d = read-of ed f r (sym read) in
    goes ed pid word f fields rest n (so_far fine cases) (so_far fine cases) whole d.0 same is plain d.1
    (ap (λ r. joined (so_far fine cases) (one r)) (d.2 ∙ ok) ∙ joined-ok fine cases c
    ∙ ap (λ b. so_far b (cases ++ c ∷ [])) late ∙ sym (ap (λ b. so_far b cases) late))

-- a case whose numbers are wrong
pub goes-err : (ed : Edition) (pid word f : List ℕ) (fields rest : List (List ℕ)) (n : ℕ) (fine : Bool) (cases : List Case) (whole : Result Entry Kind)
    (r : Result Case Kind) (k : Kind) → whole ≡ rest_of ed pid word n (so_far fine cases) (ends_default fields) → fields ≡ f ∷ rest
    → last_default f rest ≡ false → Ok r ≡ case_read ed f → r ≡ Err k → whole ≡ rest_of ed pid word (n + 1) (Err BadNumber) (ends_default rest)
goes-err ed pid word f fields rest n fine cases whole r k same is plain read bad =
    let d = read-of ed f r (sym read) in
    goes ed pid word f fields rest n (so_far fine cases) (Err BadNumber) whole d.0 same is plain d.1 (joined-err ed fine cases d.0 k (d.2 ∙ bad))

-- a seventeenth case
pub goes-many : (ed : Edition) (pid word f : List ℕ) (fields rest : List (List ℕ)) (n : ℕ) (acc : Result (List Case) Kind) (whole : Result Entry Kind)
    (r : Result Case Kind)
    → whole ≡ rest_of ed pid word n acc (ends_default fields) → fields ≡ f ∷ rest → last_default f rest ≡ false → Ok r ≡ case_read ed f
    → n ≡ CASE_PLACES → whole ≡ Err BadStep
goes-many ed pid word f fields rest n acc whole r same is plain read full =
    let d = read-of ed f r (sym read) in
    same ∙ ap (λ fs. rest_of ed pid word n acc (ends_default fs)) is ∙ ap (rest_of ed pid word n acc) (ends-step f rest plain)
    ∙ ap (λ n. rest_of ed pid word n acc (f ∷ (ends_default rest).0, (ends_default rest).1)) full ∙ rest-many ed pid word acc f d.0 (ends_default rest) d.1

-- a field of a wrong shape
pub goes-bad : (ed : Edition) (pid word f : List ℕ) (fields rest : List (List ℕ)) (n : ℕ) (acc : Result (List Case) Kind) (whole : Result Entry Kind)
    (k : Kind) →
    whole ≡ rest_of ed pid word n acc (ends_default fields) → fields ≡ f ∷ rest → last_default f rest ≡ false → Err k ≡ case_read ed f → whole ≡ Err k
goes-bad ed pid word f fields rest n acc whole k same is plain read =
    same ∙ ap (λ fs. rest_of ed pid word n acc (ends_default fs)) is ∙ ap (rest_of ed pid word n acc) (ends-step f rest plain)
    ∙ rest-bad ed pid word n acc f (ends_default rest) k (read-bad ed f k (sym read))

-- a last default
pub goes-last : (ed : Edition) (pid word f : List ℕ) (fields rest : List (List ℕ)) (n : ℕ) (acc : Result (List Case) Kind) (whole : Result Entry Kind) →
    whole ≡ rest_of ed pid word n acc (ends_default fields) → fields ≡ f ∷ rest → last_default f rest ≡ true → n ≤ CASE_PLACES
    → whole ≡ choose pid word acc true
goes-last ed pid word f fields rest n acc whole same is last few =
    same ∙ ap (λ fs. rest_of ed pid word n acc (ends_default fs)) is ∙ ap (rest_of ed pid word n acc) (ends-last f rest last)
    ∙ rest-end ed pid word n acc true few
