-- What fields say is what they spell.
use Rattle.std.proofs.Common.{◌<◌, ◌^◌, ◌≡◌, ℕ, zero, suc, ◌≤◌, Bool, true, false, cond, List, [], ◌∷◌, ◌++◌, ◌&&◌, length}
use Rattle.std.proofs.Common.{map, refl, ap, ◌∙◌, sym, subst, Result, Ok, Err, arith, codes, ◌==◌}
use Rattle.std.proofs.lemmas.Grind.{common_steps}
use Rattle.std.specs.Prelude.{decimal, nat_lt}
use Rattle.std.specs.List.{join_with_byte, list_all, AllByRecursion}
use Rattle.hub_base.specs.declared.case.Case.{Case}
use Rattle.hub_base.specs.declared.case.Case.TheVariants.{Send, Recv}
use Rattle.hub_base.specs.Entry.{Entry, Step}
use Rattle.hub_base.specs.declared.entry.Step.TheVariants.{Make, Close, Exit, Cancel, Start, Reopen}
use Rattle.hub_base.specs.declared.head.Edition.{Edition}
use Rattle.hub_base.specs.declared.read_fault.Kind.{Kind}
use Rattle.hub_base.specs.Head.{has_cancel, has_lives, has_value, has_case, is_of}
use Rattle.hub_base.specs.declared.value.Value.{Value}
use Rattle.hub_base.specs.Value.{IsValue, value_field}
use Rattle.hub_base.specs.declared.limits.TheConstants.{CASE_PLACES, GREATEST_PID, GREATEST_PORT, GREATEST_CAP, GREATEST_WORD}
use Rattle.hub_base.specs.declared.read_fault.Kind.TheVariants.{BadStep}
use Rattle.hub_base.specs.Lines.Draft.{Sends, Receives}
use Rattle.hub_base.specs.Lines.{numeral, value_read, ◌>>=◌, Draft, read_one, read_close, read_make, read_cancel, read_start, read_reopen, read_exit}
use Rattle.hub_base.specs.Lines.{read_send, read_recv}
use Rattle.hub_base.specs.Lines.{read_choice, read_select}
use Rattle.hub_base.specs.Lines.{read_step, read_fields, choose, step_fields, call_fields, select_fields, default_field, case_field, case_of}
use Rattle.hub_base.specs.Lines.{cases_of, draft_of, drafts_of, send_draft, recv_draft, spelled, ends_default, same_text, by, call, pieces}
use Rattle.hub_base.specs.Text.{CaseFits, StepFits, Spells}
use Rattle.hub_base.proofs.Bound.{bind_ok, numeral-ok}
use Rattle.hub_base.proofs.ValueFields.{read-takes}
use Rattle.hub_base.proofs.Numerals.{same-true, joined-pieces}

-- a word with one number that was read was so spelled
one-takes : (ed : Edition) (word : List ℕ) (most : ℕ) (step : ℕ → Step) (pid : List ℕ) (fs : List (List ℕ)) (e : Entry) → most < 2 ^ 64
    → ((n : ℕ) → step_fields (step n) ≡ word ∷ decimal n ∷ []) → ((n : ℕ) → n ≤ most → StepFits (step n)) → ((n : ℕ) → is_of ed (step n) ≡ true)
    → read_one most step pid fs ≡ Ok e → Spells ed (pid ∷ word ∷ fs) e
one-takes ed word most step pid [] e wide fields fits of_edition h = cc
one-takes ed word most step pid (p ∷ []) e wide fields fits of_edition h =
    let a = bind_ok (numeral GREATEST_PID pid) (λ pid. numeral most p >>= λ n. Ok (by pid (step n))) e h in
    let b = bind_ok (numeral most p) (λ n. Ok (by a.0 (step n))) e a.2 in
    let x = numeral-ok GREATEST_PID pid a.0 (omega arith) a.1 in
    let y = numeral-ok most p b.0 wide b.1 in
    let is : by a.0 (step b.0) ≡ e = cc in
    subst (Spells ed (pid ∷ word ∷ p ∷ [])) is (
      ap (λ f. f ∷ word ∷ p ∷ []) x.0 ∙ ap (λ f. decimal a.0 ∷ word ∷ f ∷ []) y.0 ∙ ap (λ fs. decimal a.0 ∷ fs) (sym (fields b.0)),
      record { pid = x.1; step = fits b.0 y.1; of_edition = of_edition b.0 },
    )
one-takes ed word most step pid (p ∷ q ∷ fs) e wide fields fits of_edition h = cc

-- a make
pub make-takes : (ed : Edition) (pid : List ℕ) (fs : List (List ℕ)) (e : Entry) → read_make pid fs ≡ Ok e → Spells ed (pid ∷ codes "make" ∷ fs) e
make-takes ed pid fs e h = one-takes ed (codes "make") GREATEST_CAP Make pid fs e (omega arith) (λ n. refl) (λ n fits. fits) (λ n. refl) h

-- a close
pub close-spells : (ed : Edition) (pid : List ℕ) (fs : List (List ℕ)) (e : Entry) → read_close pid fs ≡ Ok e → Spells ed (pid ∷ codes "close" ∷ fs) e
close-spells ed pid fs e h =
    one-takes ed (codes "close") GREATEST_PORT (λ p. Close (record { 0 = p })) pid fs e (omega arith) (λ n. refl) (λ n fits. fits) (λ n. refl) h

-- a cancel
pub cancel-takes : (ed : Edition) (pid : List ℕ) (fs : List (List ℕ)) (e : Entry) → has_cancel ed ≡ true → read_cancel pid fs ≡ Ok e
    → Spells ed (pid ∷ codes "cancel" ∷ fs) e
cancel-takes ed pid fs e has h =
    one-takes ed (codes "cancel") GREATEST_PID (λ q. Cancel (record { 0 = q })) pid fs e (omega arith) (λ n. refl) (λ n fits. fits) (λ n. has) h

-- a start
pub start-takes : (ed : Edition) (pid : List ℕ) (fs : List (List ℕ)) (e : Entry) → has_lives ed ≡ true → read_start pid fs ≡ Ok e
    → Spells ed (pid ∷ codes "start" ∷ fs) e
start-takes ed pid fs e has h =
    one-takes ed (codes "start") GREATEST_PID (λ q. Start (record { 0 = q })) pid fs e (omega arith) (λ n. refl) (λ n fits. fits) (λ n. has) h

-- a reopen
pub reopen-takes : (ed : Edition) (pid : List ℕ) (fs : List (List ℕ)) (e : Entry) → has_lives ed ≡ true → read_reopen pid fs ≡ Ok e
    → Spells ed (pid ∷ codes "reopen" ∷ fs) e
reopen-takes ed pid [] e has h = cc
reopen-takes ed pid (p ∷ []) e has h = cc
reopen-takes ed pid (p ∷ n ∷ []) e has h =
    let a = bind_ok (numeral GREATEST_PID pid)
    (λ pid. numeral GREATEST_PORT p >>= λ p. numeral GREATEST_CAP n >>= λ cap. Ok (by pid (Reopen (record { 0 = p }) cap))) e h in
    let b = bind_ok (numeral GREATEST_PORT p) (λ p. numeral GREATEST_CAP n >>= λ cap. Ok (by a.0 (Reopen (record { 0 = p }) cap))) e a.2 in
    let c = bind_ok (numeral GREATEST_CAP n) (λ cap. Ok (by a.0 (Reopen (record { 0 = b.0 }) cap))) e b.2 in
    let x = numeral-ok GREATEST_PID pid a.0 (omega arith) a.1 in
    let y = numeral-ok GREATEST_PORT p b.0 (omega arith) b.1 in
    let z = numeral-ok GREATEST_CAP n c.0 (omega arith) c.1 in
    let is : by a.0 (Reopen (record { 0 = b.0 }) c.0) ≡ e = cc in
    subst (Spells ed (pid ∷ codes "reopen" ∷ p ∷ n ∷ [])) is (
      ap (λ f. f ∷ codes "reopen" ∷ p ∷ n ∷ []) x.0 ∙ ap (λ f. decimal a.0 ∷ codes "reopen" ∷ f ∷ n ∷ []) y.0
          ∙ ap (λ f. decimal a.0 ∷ codes "reopen" ∷ decimal b.0 ∷ f ∷ []) z.0,
      record { pid = x.1; step = (y.1, z.1); of_edition = has },
    )
reopen-takes ed pid (p ∷ n ∷ q ∷ fs) e has h = cc

-- an exit
pub exit-takes : (ed : Edition) (pid : List ℕ) (fs : List (List ℕ)) (e : Entry) → read_exit pid fs ≡ Ok e → Spells ed (pid ∷ codes "exit" ∷ fs) e
exit-takes ed pid [] e h =
    let a = bind_ok (numeral GREATEST_PID pid) (λ pid. Ok (by pid Exit)) e h in
    let x = numeral-ok GREATEST_PID pid a.0 (omega arith) a.1 in
    let is : by a.0 Exit ≡ e = cc in
    subst (Spells ed (pid ∷ codes "exit" ∷ [])) is (ap (λ f. f ∷ codes "exit" ∷ []) x.0, record { pid = x.1; step = omega arith; of_edition = refl })
exit-takes ed pid (q ∷ fs) e h = cc

-- a draft as a field
abbrev pub draft_field : Draft → List ℕ
draft_field (Sends p v) = 115 ∷ (p ++ 58 ∷ v)
draft_field (Receives p) = 114 ∷ p

-- the spelling of a case that sends
pub record SendSpelled (ed : Edition) (p v : List ℕ) (c : Case) : Type 0 where
  pub port : ℕ
  pub value : Value
  pub port_is : p ≡ decimal port
  pub value_is : v ≡ value_field value
  pub is : Send (record { 0 = port }) value ≡ c
  pub port_fits : port ≤ GREATEST_PORT
  pub value_fits : IsValue value
  pub has : has_value ed value ≡ true

-- a sending case that was read was so spelled
pub sends-takes : (ed : Edition) (p v : List ℕ) (c : Case) → case_of ed (Sends p v) ≡ Ok c → SendSpelled ed p v c
sends-takes ed p v c h =
    let a = bind_ok (numeral GREATEST_PORT p) (λ p. value_read ed v >>= λ v. Ok (Send (record { 0 = p }) v)) c h in
    let b = bind_ok (value_read ed v) (λ v. Ok (Send (record { 0 = a.0 }) v)) c a.2 in
    let x = numeral-ok GREATEST_PORT p a.0 (omega arith) a.1 in
    let y = read-takes ed v b.0 b.1 in
    record { port = a.0; value = b.0; port_is = x.0; value_is = y.field; is = cc; port_fits = x.1; value_fits = y.fits; has = y.has }

-- the spelling of a case that receives
pub record RecvSpelled (p : List ℕ) (c : Case) : Type 0 where
  pub port : ℕ
  pub port_is : p ≡ decimal port
  pub is : Recv (record { 0 = port }) ≡ c
  pub port_fits : port ≤ GREATEST_PORT

-- a receiving case
pub receives-takes : (ed : Edition) (p : List ℕ) (c : Case) → case_of ed (Receives p) ≡ Ok c → RecvSpelled p c
receives-takes ed p c h =
    let a = bind_ok (numeral GREATEST_PORT p) (λ p. Ok (Recv (record { 0 = p }))) c h in
    let x = numeral-ok GREATEST_PORT p a.0 (omega arith) a.1 in
    record { port = a.0; port_is = x.0; is = cc; port_fits = x.1 }

-- the field of a sending case, byte by byte
pub send-field : (p : ℕ) (v : Value) → case_field (Send (record { 0 = p }) v) ≡ 115 ∷ (decimal p ++ 58 ∷ value_field v)
send-field p v = refl

-- a case of either kind
pub record CaseTaken (ed : Edition) (d : Draft) (c : Case) : Type 0 where
  pub field : draft_field d ≡ case_field c
  pub fits : CaseFits c
  pub has : has_case ed c ≡ true

pub case-takes : (ed : Edition) (d : Draft) (c : Case) → case_of ed d ≡ Ok c → CaseTaken ed d c
case-takes ed (Sends p v) c h =
    let s = sends-takes ed p v c h in
    subst (CaseTaken ed (Sends p v)) s.is record {
      field = ap (λ p. 115 ∷ (p ++ 58 ∷ v)) s.port_is ∙ ap (λ v. 115 ∷ (decimal s.port ++ 58 ∷ v)) s.value_is ∙ sym (send-field s.port s.value);
      fits = (s.port_fits, s.value_fits);
      has = s.has;
    }
case-takes ed (Receives p) c h =
    let s = receives-takes ed p c h in
    subst (CaseTaken ed (Receives p)) s.is record { field = ap (λ p. 114 ∷ p) s.port_is; fits = s.port_fits; has = refl }

-- all cases of a select
pub record CasesTaken (ed : Edition) (ds : List Draft) (cs : List Case) : Type 0 where
  pub fields : map draft_field ds ≡ map case_field cs
  pub fits : AllByRecursion CaseFits cs
  pub has : list_all (has_case ed) cs ≡ true
  pub count : length ds ≡ length cs

pub cases-take : (ed : Edition) (ds : List Draft) (cs : List Case) → cases_of ed ds ≡ Ok cs → CasesTaken ed ds cs
cases-take ed [] cs h =
    let is : [] ≡ cs = cc in
    subst (CasesTaken ed []) is record { fields = refl; fits = tt; has = refl; count = refl }
cases-take ed (d ∷ ds) cs h =
    let a = bind_ok (case_of ed d) (λ c. cases_of ed ds >>= λ cs. Ok (c ∷ cs)) cs h in
    let b = bind_ok (cases_of ed ds) (λ cs. Ok (a.0 ∷ cs)) cs a.2 in
    let x = case-takes ed d a.0 a.1 in
    let y = cases-take ed ds b.0 b.1 in
    let is : a.0 ∷ b.0 ≡ cs = cc in
    subst (CasesTaken ed (d ∷ ds)) is record {
      fields = ap (λ f. f ∷ map draft_field ds) x.field ∙ ap (λ fs. case_field a.0 ∷ fs) y.fields;
      fits = (x.fits, y.fits);
      has = rw x.has y.has;
      count = ap suc y.count;
    }

two-parts : (cs : List ℕ) (ps : List (List ℕ)) (d : Draft) → join_with_byte 58 ps ≡ cs → send_draft ps ≡ Ok d → 115 ∷ cs ≡ draft_field d
two-parts cs [] d j h = cc
two-parts cs (p ∷ []) d j h = cc
two-parts cs (p ∷ v ∷ []) d j h = let is : Sends p v ≡ d = cc in ap (λ cs. 115 ∷ cs) (sym j) ∙ ap draft_field is
two-parts cs (p ∷ v ∷ q ∷ ps) d j h = cc

one-part : (cs : List ℕ) (ps : List (List ℕ)) (d : Draft) → join_with_byte 58 ps ≡ cs → recv_draft ps ≡ Ok d → 114 ∷ cs ≡ draft_field d
one-part cs [] d j h = cc
one-part cs (p ∷ []) d j h = let is : Receives p ≡ d = cc in ap (λ cs. 114 ∷ cs) (sym j) ∙ ap draft_field is
one-part cs (p ∷ v ∷ ps) d j h = cc

letter : (c : ℕ) (cs : List ℕ) (d : Draft) (s r : Bool) (a b : Result Draft Kind) → (c == 115) ≡ s → (c == 114) ≡ r
    → (a ≡ Ok d → 115 ∷ cs ≡ draft_field d) → (b ≡ Ok d → 114 ∷ cs ≡ draft_field d) → cond s a (cond r b (Err BadStep)) ≡ Ok d → c ∷ cs ≡ draft_field d
letter c cs d true r a b is other f g h = let here : c ≡ 115 = grind (arith, common_steps) in ap (λ c. c ∷ cs) here ∙ f h
letter c cs d false true a b is other f g h = let here : c ≡ 114 = grind (arith, common_steps) in ap (λ c. c ∷ cs) here ∙ g h
letter c cs d false false a b is other f g h = cc

-- a field of a case has its letter and its parts
pub draft-takes : (f : List ℕ) (d : Draft) → draft_of f ≡ Ok d → f ≡ draft_field d
draft-takes [] d h = cc
draft-takes (c ∷ cs) d h =
    let j = joined-pieces 58 cs in
    letter c cs d (c == 115) (c == 114) (send_draft (pieces 58 cs)) (recv_draft (pieces 58 cs)) refl refl (two-parts cs (pieces 58 cs) d j)
    (one-part cs (pieces 58 cs) d j) h

-- all such fields
pub drafts-take : (fs : List (List ℕ)) (ds : List Draft) → drafts_of fs ≡ Ok ds → fs ≡ map draft_field ds
drafts-take [] ds h = let is : [] ≡ ds = cc in ap (map draft_field) is
drafts-take (f ∷ fs) ds h =
    let a = bind_ok (draft_of f) (λ d. drafts_of fs >>= λ ds. Ok (d ∷ ds)) ds h in
    let b = bind_ok (drafts_of fs) (λ ds. Ok (a.0 ∷ ds)) ds a.2 in
    let is : a.0 ∷ b.0 ≡ ds = cc in
    ap (λ f. f ∷ fs) (draft-takes f a.0 a.1) ∙ ap (λ fs. draft_field a.0 ∷ fs) (drafts-take fs b.0 b.1) ∙ ap (map draft_field) is

-- the case fields, and a last `default` behind them
abbrev ended : List ℕ → Bool → (List (List ℕ)) × Bool
ended f b = cond b ([], true) (f ∷ [], false)

ends-cons : (f : List ℕ) (b : Bool) → same_text f (codes "default") ≡ b → f ∷ [] ≡ (ended f b).0 ++ default_field (ended f b).1
ends-cons f true h = ap (λ f. f ∷ []) (same-true f (codes "default") h)
ends-cons f false h = refl

-- the cases and the default are the fields
pub ends-split : (fs : List (List ℕ)) → fs ≡ (ends_default fs).0 ++ default_field (ends_default fs).1
ends-split [] = refl
ends-split (f ∷ []) = ends-cons f (same_text f (codes "default")) refl
ends-split (f ∷ g ∷ fs) = ap (λ r. f ∷ r) (ends-split (g ∷ fs))

-- a call that a select may spell
pub record Whole (cs : List Case) (d : Bool) (w : ℕ) (step : Step) : Type 0 where
  pub step_is : call cs d w ≡ step
  pub fields_are : call_fields cs d w ≡ select_fields cs d w

-- a call that was read from a select has no short form
pub spelled-takes : (cs : List Case) (d : Bool) (w : ℕ) (step : Step) → spelled cs d w ≡ Ok step → Whole cs d w step
spelled-takes [] d w step h = record { step_is = cc; fields_are = refl }
spelled-takes (Send p v ∷ []) true w step h = record { step_is = cc; fields_are = refl }
spelled-takes (Send p v ∷ []) false zero step h = cc
spelled-takes (Send p v ∷ []) false (suc w) step h = record { step_is = cc; fields_are = refl }
spelled-takes (Recv p ∷ []) true w step h = record { step_is = cc; fields_are = refl }
spelled-takes (Recv p ∷ []) false zero step h = cc
spelled-takes (Recv p ∷ []) false (suc w) step h = record { step_is = cc; fields_are = refl }
spelled-takes (Send p v ∷ c ∷ cs) d w step h = record { step_is = cc; fields_are = refl }
spelled-takes (Recv p ∷ c ∷ cs) d w step h = record { step_is = cc; fields_are = refl }

few-ok : (b : Bool) (x : Result Entry Kind) (e : Entry) → cond b (Err BadStep) x ≡ Ok e → (b ≡ false) × (x ≡ Ok e)
few-ok true x e h = cc
few-ok false x e h = (refl, h)

few-le : (n : ℕ) → nat_lt CASE_PLACES n ≡ false → n ≤ CASE_PLACES
few-le n h = grind (arith, common_steps)

-- a select behind its word
pub select-takes : (ed : Edition) (pid word : List ℕ) (fs : List (List ℕ)) (e : Entry) → read_select ed pid word (ends_default fs) ≡ Ok e
    → Spells ed (pid ∷ codes "select" ∷ word ∷ fs) e
select-takes ed pid word fs e h =
    let d = (ends_default fs).1 in
    let o = bind_ok (drafts_of (ends_default fs).0) (λ ds. cond (nat_lt CASE_PLACES (length ds)) (Err BadStep) (choose pid word (cases_of ed ds) d)) e h in
    let ds = o.0 in
    let few = few-ok (nat_lt CASE_PLACES (length ds)) (choose pid word (cases_of ed ds) d) e o.2 in
    let a = bind_ok (numeral GREATEST_PID pid)
    (λ pid. numeral GREATEST_WORD word >>= λ word. cases_of ed ds >>= λ cases. spelled cases d word >>= λ step. Ok (by pid step)) e few.1 in
    let b = bind_ok (numeral GREATEST_WORD word) (λ word. cases_of ed ds >>= λ cases. spelled cases d word >>= λ step. Ok (by a.0 step)) e a.2 in
    let c = bind_ok (cases_of ed ds) (λ cases. spelled cases d b.0 >>= λ step. Ok (by a.0 step)) e b.2 in
    let s = bind_ok (spelled c.0 d b.0) (λ step. Ok (by a.0 step)) e c.2 in
    let x = numeral-ok GREATEST_PID pid a.0 (omega arith) a.1 in
    let y = numeral-ok GREATEST_WORD word b.0 (omega arith) b.1 in
    let cases = cases-take ed ds c.0 c.1 in
    let w = spelled-takes c.0 d b.0 s.0 s.1 in
    let is : by a.0 (call c.0 d b.0) ≡ e = ap (by a.0) w.step_is ∙ (cc) in
    let fields : fs ≡ map case_field c.0 ++ default_field d =
    ends-split fs ∙ ap (λ gs. gs ++ default_field d) (drafts-take (ends_default fs).0 ds o.1 ∙ cases.fields) in
    subst (Spells ed (pid ∷ codes "select" ∷ word ∷ fs)) is (
      ap (λ f. f ∷ codes "select" ∷ word ∷ fs) x.0 ∙ ap (λ f. decimal a.0 ∷ codes "select" ∷ f ∷ fs) y.0
          ∙ ap (λ gs. decimal a.0 ∷ codes "select" ∷ decimal b.0 ∷ gs) fields ∙ ap (λ gs. decimal a.0 ∷ gs) (sym w.fields_are),
      record {
        pid = x.1;
        step = record { few = (let n = few-le (length ds) few.0 in omega (arith, cases.count)); each = cases.fits; word_fits = y.1 };
        of_edition = cases.has;
      },
    )

-- a select
pub choice-takes : (ed : Edition) (pid : List ℕ) (fs : List (List ℕ)) (e : Entry) → read_choice ed pid fs ≡ Ok e → Spells ed (pid ∷ codes "select" ∷ fs) e
choice-takes ed pid [] e h = cc
choice-takes ed pid (word ∷ fs) e h = select-takes ed pid word fs e h

-- a send
pub send-takes : (ed : Edition) (pid : List ℕ) (fs : List (List ℕ)) (e : Entry) → read_send ed pid fs ≡ Ok e → Spells ed (pid ∷ codes "send" ∷ fs) e
send-takes ed pid [] e h = cc
send-takes ed pid (p ∷ []) e h = cc
send-takes ed pid (p ∷ v ∷ []) e h =
    let a = bind_ok (numeral GREATEST_PID pid) (λ pid. case_of ed (Sends p v) >>= λ c. Ok (by pid (call (c ∷ []) false 0))) e h in
    let b = bind_ok (case_of ed (Sends p v)) (λ c. Ok (by a.0 (call (c ∷ []) false 0))) e a.2 in
    let x = numeral-ok GREATEST_PID pid a.0 (omega arith) a.1 in
    let s = sends-takes ed p v b.0 b.1 in
    let last : by a.0 (call (b.0 ∷ []) false 0) ≡ e = cc in
    let is : by a.0 (call (Send (record { 0 = s.port }) s.value ∷ []) false 0) ≡ e = ap (λ c. by a.0 (call (c ∷ []) false 0)) s.is ∙ last in
    subst (Spells ed (pid ∷ codes "send" ∷ p ∷ v ∷ [])) is (
      ap (λ f. f ∷ codes "send" ∷ p ∷ v ∷ []) x.0 ∙ ap (λ f. decimal a.0 ∷ codes "send" ∷ f ∷ v ∷ []) s.port_is
          ∙ ap (λ f. decimal a.0 ∷ codes "send" ∷ decimal s.port ∷ f ∷ []) s.value_is,
      record { pid = x.1; step = record { few = omega arith; each = ((s.port_fits, s.value_fits), tt); word_fits = omega arith }; of_edition = rw s.has refl },
    )
send-takes ed pid (p ∷ v ∷ q ∷ fs) e h = cc

-- a receive
pub recv-takes : (ed : Edition) (pid : List ℕ) (fs : List (List ℕ)) (e : Entry) → read_recv pid fs ≡ Ok e → Spells ed (pid ∷ codes "recv" ∷ fs) e
recv-takes ed pid fs e h =
    one-takes ed (codes "recv") GREATEST_PORT (λ p. call (Recv (record { 0 = p }) ∷ []) false 0) pid fs e (omega arith) (λ n. refl)
    (λ n fits. record { few = omega arith; each = (fits, tt); word_fits = omega arith }) (λ n. refl) h

under : (ed : Edition) (pid word name : List ℕ) (fs : List (List ℕ)) (e : Entry) → same_text word name ≡ true
    → Spells ed (pid ∷ name ∷ fs) e → Spells ed (pid ∷ word ∷ fs) e
under ed pid word name fs e same s = (ap (λ w. pid ∷ w ∷ fs) (same-true word name same) ∙ s.0, s.1)

test : (b : Bool) (x y : Result Entry Kind) (e : Entry) (P : Type 0) → (b ≡ true → x ≡ Ok e → P) → (y ≡ Ok e → P) → cond b x y ≡ Ok e → P
test true x y e P f g h = f refl h
test false x y e P f g h = g h

none : (e : Entry) (P : Type 0) → Err BadStep ≡ Ok e → P
none e P h = cc

first-and : (a b : Bool) → (a && b) ≡ true → a ≡ true
first-and true b h = refl
first-and false b h = cc

second-and : (a b : Bool) → (a && b) ≡ true → b ≡ true
second-and true b h = h
second-and false b h = cc

-- a line, by its second field
pub step-takes : (ed : Edition) (pid word : List ℕ) (fs : List (List ℕ)) (e : Entry) → read_step ed pid word fs ≡ Ok e → Spells ed (pid ∷ word ∷ fs) e
step-takes ed pid word fs e h =
    let P : Type 0 = Spells ed (pid ∷ word ∷ fs) e in
    let has = has_cancel ed in
    let says = same_text word (codes "cancel") in
    let lives = has_lives ed in
    let starts = same_text word (codes "start") in
    let reopens = same_text word (codes "reopen") in
    test (same_text word (codes "make")) _ _ e P (λ b x. under ed pid word (codes "make") fs e b (make-takes ed pid fs e x))
    (test (same_text word (codes "send")) _ _ e P (λ b x. under ed pid word (codes "send") fs e b (send-takes ed pid fs e x))
    (test (same_text word (codes "recv")) _ _ e P (λ b x. under ed pid word (codes "recv") fs e b (recv-takes ed pid fs e x))
    (test (same_text word (codes "select")) _ _ e P (λ b x. under ed pid word (codes "select") fs e b (choice-takes ed pid fs e x))
    (test (same_text word (codes "close")) _ _ e P (λ b x. under ed pid word (codes "close") fs e b (close-spells ed pid fs e x))
    (test (same_text word (codes "exit")) _ _ e P (λ b x. under ed pid word (codes "exit") fs e b (exit-takes ed pid fs e x))
    (test (has && says) _ _ e P
    (λ b x. under ed pid word (codes "cancel") fs e (second-and has says b) (cancel-takes ed pid fs e (first-and has says b) x))
    (test (lives && starts) _ _ e P
    (λ b x. under ed pid word (codes "start") fs e (second-and lives starts b) (start-takes ed pid fs e (first-and lives starts b) x))
    (test (lives && reopens) _ _ e P
    (λ b x. under ed pid word (codes "reopen") fs e (second-and lives reopens b) (reopen-takes ed pid fs e (first-and lives reopens b) x))
    (none e P))))))))) h

-- what fields say is what they spell
pub fields-take : (ed : Edition) (fs : List (List ℕ)) (e : Entry) → read_fields ed fs ≡ Ok e → Spells ed fs e
fields-take ed [] e h = cc
fields-take ed (pid ∷ []) e h = cc
fields-take ed (pid ∷ word ∷ fs) e h = step-takes ed pid word fs e h
