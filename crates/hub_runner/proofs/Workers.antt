-- One process and its script.
use Rattle.std.proofs.Common.{◌≡◌, ℕ, ◌&&◌, ◌⊎◌, inl, inr, Bool, true, false, List, [], ◌∷◌, ◌++◌, refl, ap, ◌∙◌, sym, subst}
use Rattle.std.proofs.Common.{Some, Result, Ok, Err, IfOk, IfErr, append_assoc, drop, ◌+◌, ◌≤◌, ◌<◌, length, get_or, add-one, arith}
use Rattle.std.specs.Prelude.{IsErrAnd}
use Rattle.std.proofs.Math.Seq.{drop-cons}
use Rattle.std.proofs.lemmas.Bool.{and_parts}
use Rattle.hub_base.specs.declared.value.Pid.{Pid}
use Rattle.hub_base.specs.declared.value.Port.{Port}
use Rattle.hub_base.specs.declared.case.Case.TheVariants as case
use Rattle.hub_base.specs.Entry.{Entry, Step}
use Rattle.hub_base.specs.declared.entry.Step.TheVariants as step
use Rattle.hub_base.specs.declared.event.Event.{Event}
use Rattle.hub_base.specs.declared.fault.Fault.{Fault}
use Rattle.hub_base.specs.Lines.{call}
use Rattle.hub_laws.specs.Replies.{own, reply}
use Rattle.hub_live.specs.SeatView.{SeatView, IsFree}
use Rattle.hub_live.specs.Calls.{AskedNothing, Later, Made, Refused, Shows, entry_of}
use Rattle.hub_base.proofs.Lists.{prefix_self, prefix_trans}
use Rattle.hub_scenario.specs.declared.script.ScriptStep.{ScriptStep}
use Rattle.hub_scenario.specs.declared.script.ScriptStep.TheVariants.{Send, Recv, Select, Close, Range}
use Rattle.hub_scenario.specs.ChoiceWords.{choice_word}
use Rattle.hub_runner.specs.Reports.{is_stalled}
use Rattle.hub_laws.specs.Asked.{Asked, asked}
use Rattle.hub_runner.specs.Scripts.{asks, gets, is_range, taken_after, left, Follows}
use Rattle.hub_runner.specs.CutShort.{steps_asked}
use Rattle.hub_runner.specs.Working.{asked_of, has_exited, Onward, Leads, Followed, goes_on_with, next_of, Stopped, WasStopped}
use Rattle.hub_laws.proofs.Askings.{answered, asked-gains, asked-same}
use Rattle.hub_runner.proofs.Stops.{exit_is_no_step, own_exit, exit_refused}

-- ---- one entry

pub made_asks : (s t : SeatView) (asking : Step) (x : Event) → IsFree s → Later s t → Made s t asking x
    → asked_of t ≡ asked_of s ++ answered asking (Some x) ∷ []
made_asks s t asking x free later made =
    let own_is : own s.pid.0 t.seen ≡ own s.pid.0 s.seen ++ entry_of s asking ∷ [] =
    subst (λ (p : Pid). own p.0 t.seen ≡ own s.pid.0 s.seen ++ entry_of s asking ∷ []) later.pid made.own in
    let told : reply s.pid.0 s.hub.terms.head t.seen ≡ Some x = (λ i. reply (sym later.pid i).0 (sym later.hub i).terms.head t.seen) ∙ made.reply in
    (λ i. asked (later.pid i).0 (later.hub i).terms.head t.seen)
    ∙ asked-gains s.pid.0 s.hub.terms.head s.seen t.seen (entry_of s asking) x later.begins own_is free told

-- the same of a call's result, by what the script's step asks
pub made_ok : (s t : SeatView) (asking wanted : Step) (r : Result Event Fault) → asking ≡ wanted → IsFree s → Later s t
    → IfOk r (λ x. Made s t asking x) → IfOk r (λ x. asked_of t ≡ asked_of s ++ answered wanted (Some x) ∷ [])
made_ok s t asking wanted (Ok x) is free later made =
    subst (λ (w : Step). asked_of t ≡ asked_of s ++ answered w (Some x) ∷ []) is (made_asks s t asking x free later made)
made_ok s t asking wanted (Err f) is free later made = tt

-- ---- the seat

pub still_onward : (s t u : SeatView) → Onward s t → Later t u → Onward s u
still_onward s t u o l = record { hub = l.hub ∙ o.hub; pid = l.pid ∙ o.pid; begins = prefix_trans s.seen t.seen u.seen o.begins l.begins }

pub still_later : (s t u : SeatView) → Onward s t → Later t u → Later s u
still_later s t u o l = record { hub = l.hub ∙ o.hub; pid = l.pid ∙ o.pid; begins = prefix_trans s.seen t.seen u.seen o.begins l.begins; idle = l.idle }

-- ---- the script

pub leads_trans : (a b c : List Asked) (words : ℕ → ℕ) (s r t : List ScriptStep) (i j k : ℕ) → Leads a b words s i r j
    → Leads b c words r j t k → Leads a c words s i t k
leads_trans a b c words s r t i j k p q = record {
  made = p.made ++ q.made;
  now_is = q.now_is ∙ ap (λ zs. zs ++ q.made) p.now_is ∙ append_assoc a p.made q.made;
  leads = λ more f. subst (λ zs. Follows s words i zs) (sym (append_assoc p.made q.made more)) (p.leads (q.made ++ more) (q.leads more f));
}

follows_at : (words : ℕ → ℕ) (more : List Asked) (r t : List ScriptStep) (i j : ℕ) → r ≡ t → i ≡ j → Follows r words i more → Follows t words j more
follows_at words more r t i j e f h = subst (λ (z : List ScriptStep). Follows z words j more) e (subst (λ (n : ℕ). Follows r words n more) f h)

-- the first step of a script, once
pub leads_step : (a b : List Asked) (words : ℕ → ℕ) (s : ScriptStep) (rest : List ScriptStep) (j word : ℕ) (x : Event) (after : List ScriptStep) (k : ℕ)
    → b ≡ a ++ answered (asks s word) (Some x) ∷ [] → asks s word ≡ asks s (words j) → left s rest (Some x) ≡ after → taken_after s j ≡ k
    → Leads a b words (s ∷ rest) j after k
leads_step a b words s rest j word x after k is chosen then next = record {
  made = answered (asks s word) (Some x) ∷ [];
  now_is = is;
  leads = λ more f. (chosen, follows_at words more after (left s rest (Some x)) k (taken_after s j) (sym then) (sym next) f);
}

pub left_stalled : (s : ScriptStep) (rest : List ScriptStep) (x : Event) → is_stalled x.what ≡ true → left s rest (Some x) ≡ []
left_stalled s rest x h = rw h refl

pub left_range : (s : ScriptStep) (rest : List ScriptStep) (x : Event) → is_stalled x.what ≡ false → is_range s ≡ true → gets x.what ≡ true
    → left s rest (Some x) ≡ s ∷ rest
left_range s rest x h r g = rw (h, r, g) refl

pub left_done : (s : ScriptStep) (rest : List ScriptStep) (x : Event) → is_stalled x.what ≡ false → (is_range s && gets x.what) ≡ false
    → left s rest (Some x) ≡ rest
left_done s rest x h r = rw (h, r) refl

pub word_kept : (s : ScriptStep) (j : ℕ) → is_range s ≡ true → taken_after s j ≡ j
word_kept (Send p v) j h = refl
word_kept (Recv p) j h = refl
word_kept (Select cases default) j h = absurd (let g : ⊥ = cc in g)
word_kept (Close p) j h = refl
word_kept (Range p) j h = refl

pub recv_asks : (s : ScriptStep) (p : Port) (word : ℕ) → (s ≡ Recv p) ⊎ (s ≡ Range p) → call (case.Recv p ∷ []) false 0 ≡ asks s word
recv_asks s p word h = elim h [ inl e ↦ ap (λ (z : ScriptStep). asks z word) (sym e) | inr e ↦ ap (λ (z : ScriptStep). asks z word) (sym e) ]

-- the last step of a script that goes on, or not
pub leads_end : (a b c : List Asked) (words : ℕ → ℕ) (s : ScriptStep) (rest : List ScriptStep) (j word : ℕ) (x : Event) (goes_on : Bool)
    → Leads a b words (s ∷ rest) j (s ∷ rest) j → c ≡ b ++ answered (asks s word) (Some x) ∷ [] → asks s word ≡ asks s (words j)
    → left s rest (Some x) ≡ goes_on_with goes_on rest → Leads a c words (s ∷ rest) j (goes_on_with goes_on rest) (taken_after s j)
leads_end a b c words s rest j word x goes_on p is chosen then =
    leads_trans a b c words (s ∷ rest) (s ∷ rest) (goes_on_with goes_on rest) j j (taken_after s j) p
    (leads_step b c words s rest j word x (goes_on_with goes_on rest) (taken_after s j) is chosen then refl)

-- a range that goes on
pub leads_again : (a b c : List Asked) (words : ℕ → ℕ) (s : ScriptStep) (rest : List ScriptStep) (j word : ℕ) (x : Event)
    → Leads a b words (s ∷ rest) j (s ∷ rest) j → c ≡ b ++ answered (asks s word) (Some x) ∷ [] → asks s word ≡ asks s (words j)
    → is_stalled x.what ≡ false → (is_range s && gets x.what) ≡ true → Leads a c words (s ∷ rest) j (s ∷ rest) j
leads_again a b c words s rest j word x p is chosen h r =
    let both = and_parts (is_range s) (gets x.what) r in
    leads_trans a b c words (s ∷ rest) (s ∷ rest) (s ∷ rest) j j j p
    (leads_step b c words s rest j word x (s ∷ rest) j is chosen (left_range s rest x h both.0 both.1) (word_kept s j both.0))

-- the whole script, and then an exit
pub followed : (a b c : List Asked) (words : ℕ → ℕ) (script : List ScriptStep) (k : ℕ) (x : Event) → Leads a b words script 0 [] k
    → c ≡ b ++ answered step.Exit (Some x) ∷ [] → Followed a c words script
followed a b c words script k x p is = record {
  made = p.made ++ answered step.Exit (Some x) ∷ [];
  now_is = is ∙ ap (λ zs. zs ++ answered step.Exit (Some x) ∷ []) p.now_is ∙ append_assoc a p.made (answered step.Exit (Some x) ∷ []);
  follows = p.leads (answered step.Exit (Some x) ∷ []) (refl, refl);
}

-- from one step of a script to the next, which takes the choice words from where the one before left them
pub leads_next : (a b c : List Asked) (seed given : ℕ) (script : List ScriptStep) (i used k word : ℕ) (s : ScriptStep) (taken goes_on : Bool)
    → given ≡ seed → drop i script ≡ s ∷ drop (i + 1) script → Leads a b (choice_word seed) script 0 (drop i script) used
    → asks s word ≡ asks s (choice_word given used) → ((words : ℕ → ℕ) (rest : List ScriptStep) (j : ℕ) → asks s word ≡ asks s (words j)
    → Leads b c words (s ∷ rest) j (goes_on_with taken rest) (taken_after s j)) → taken ≡ goes_on → k ≡ taken_after s used
    → Leads a c (choice_word seed) script 0 (goes_on_with goes_on (drop (i + 1) script)) k
leads_next a b c seed given script i used k word s taken goes_on same cut p chosen takes is drawn =
    let rest = drop (i + 1) script in
    let next = takes (choice_word seed) rest used (chosen ∙ ap (λ (n : ℕ). asks s (choice_word n used)) same) in
    let all = leads_trans a b c (choice_word seed) script (s ∷ rest) (goes_on_with taken rest) 0 used (taken_after s used)
    (subst (λ (z : List ScriptStep). Leads a b (choice_word seed) script 0 z used) cut p) next in
    subst (λ (b : Bool). Leads a c (choice_word seed) script 0 (goes_on_with b rest) k) is
    (subst (λ (n : ℕ). Leads a c (choice_word seed) script 0 (goes_on_with taken rest) n) (sym drawn) all)

-- a step draws at most one word
one_word : (s : ScriptStep) (j i : ℕ) → j ≤ i → taken_after s j ≤ i + 1
one_word (Send p v) j i h = omega arith
one_word (Recv p) j i h = omega arith
one_word (Select cases default) j i h = omega arith
one_word (Close p) j i h = omega arith
one_word (Range p) j i h = omega arith

pub taken_low : (s : ScriptStep) (j i k : ℕ) → k ≡ taken_after s j → j ≤ i → k ≤ i + 1
taken_low s j i k is h = subst (λ (n : ℕ). n ≤ i + 1) (sym is) (one_word s j i h)

pub at_place : {A : Type 0} (xs : List A) (i : ℕ) (x : A) → i < length xs → x ≡ get_or xs i x → drop i xs ≡ x ∷ drop (i + 1) xs
at_place xs i x low is = drop-cons xs i x low ∙ (λ k. sym is k ∷ drop (sym (add-one i) k) xs)

-- ---- refused entries of a seat

-- what the process asked stays as it was
pub nothing_asked : (s t : SeatView) → Later s t → AskedNothing s t → asked_of t ≡ asked_of s
nothing_asked s t later same =
    (λ i. asked (later.pid i).0 (later.hub i).terms.head t.seen)
    ∙ asked-same s.pid.0 s.hub.terms.head s.seen t.seen later.begins same.own same.reply

pub refused_asks : (s t : SeatView) (asking : Step) (f : Fault) → Later s t → Refused s t asking f → asked_of t ≡ asked_of s
refused_asks s t asking f later refused = nothing_asked s t later refused.same

-- the same refusal, by what the script's step asks
pub refused_as : (s t : SeatView) (asking wanted : Step) (r : Result Event Fault) → asking ≡ wanted → IfErr r (λ f. Refused s t asking f)
    → IfErr r (λ f. Refused s t wanted f)
refused_as s t asking wanted r is refused = subst (λ (w : Step). IfErr r (λ f. Refused s t w f)) is refused

-- what is said of a fault is said of the answer that hands it on
pub handed_on : {A : Type 0} (P : Fault → Type 0) (r : Result A Fault) (f : Fault) → IsErrAnd r (λ given. given ≡ f) → P f → IfErr r P
handed_on P (Ok x) f given h = absurd given
handed_on P (Err g) f given h = subst P (sym given) h

-- where the process came some way in the script, and then what comes next was refused
pub stopped_here : (a : List Asked) (s t : SeatView) (words : ℕ → ℕ) (script rest : List ScriptStep) (j k : ℕ) (asking : Step) (f : Fault)
    → Leads a (asked_of s) words script j rest k → asking ≡ next_of rest words k → Later s t → Refused s t asking f → Stopped a t words script j f
stopped_here a s t words script rest j k asking f p is later refused = record {
  rest = rest;
  k = k;
  leads = subst (λ (zs : List Asked). Leads a zs words script j rest k) (sym (refused_asks s t asking f later refused)) p;
  shows = subst (λ (e : Entry). Shows t.hub.terms e t.seen f) (λ i. record { pid = sym later.pid i; step = is i }) refused.shows;
}

-- the same in a loop that makes one step of a script again and again, where the refusal is handed on
pub stopped_in_step : {A : Type 0} (a : List Asked) (s t : SeatView) (st : ScriptStep) (word : ℕ) (r : Result A Fault) (f : Fault)
    → IsErrAnd r (λ given. given ≡ f)
    → ((words : ℕ → ℕ) (rest : List ScriptStep) (j : ℕ) → asks st word ≡ asks st (words j) → Leads a (asked_of s) words (st ∷ rest) j (st ∷ rest) j)
    → Later s t → Refused s t (asks st word) f
    → IfErr r (λ f. (words : ℕ → ℕ) (rest : List ScriptStep) (j : ℕ) → asks st word ≡ asks st (words j) → Stopped a t words (st ∷ rest) j f)
stopped_in_step a s t st word r f given so_far later refused =
    handed_on (λ f. (words : ℕ → ℕ) (rest : List ScriptStep) (j : ℕ) → asks st word ≡ asks st (words j) → Stopped a t words (st ∷ rest) j f) r f given
    (λ words rest j chosen.
    stopped_here a s t words (st ∷ rest) (st ∷ rest) j j (asks st word) f (so_far words rest j chosen) chosen later refused)

-- where it came some way before
pub stopped_later : (a b : List Asked) (t : SeatView) (words : ℕ → ℕ) (script rest : List ScriptStep) (i j : ℕ) (f : Fault)
    → Leads a b words script i rest j → Stopped b t words rest j f → Stopped a t words script i f
stopped_later a b t words script rest i j f p q = record {
  rest = q.rest;
  k = q.k;
  leads = leads_trans a b (asked_of t) words script rest q.rest i j q.k p q.leads;
  shows = q.shows;
}

-- at a step of a script, whose choice word comes from where the steps before left them
pub stopped_next : (a b : List Asked) (t : SeatView) (seed given : ℕ) (script : List ScriptStep) (i used word : ℕ) (s : ScriptStep) (f : Fault)
    → given ≡ seed → drop i script ≡ s ∷ drop (i + 1) script → Leads a b (choice_word seed) script 0 (drop i script) used
    → asks s word ≡ asks s (choice_word given used)
    → ((words : ℕ → ℕ) (rest : List ScriptStep) (j : ℕ) → asks s word ≡ asks s (words j) → Stopped b t words (s ∷ rest) j f)
    → Stopped a t (choice_word seed) script 0 f
stopped_next a b t seed given script i used word s f same cut p chosen stops =
    let words = choice_word seed in
    let rest = drop (i + 1) script in
    let here = stops words rest used (chosen ∙ ap (λ (n : ℕ). asks s (choice_word n used)) same) in
    stopped_later a b t words script (s ∷ rest) 0 used f (subst (λ (z : List ScriptStep). Leads a b words script 0 z used) cut p) here

-- the exit that was made, or was refused, is no step
pub left_no_step : (s t : SeatView) (r : Result Event Fault) → Later s t → IfOk r (λ x. asked_of t ≡ asked_of s ++ answered step.Exit (Some x) ∷ [])
    → IfErr r (λ f. Refused s t step.Exit f) → steps_asked (asked_of t) ≡ steps_asked (asked_of s)
left_no_step s t (Ok x) later made refused = ap steps_asked made ∙ exit_is_no_step (asked_of s) (Some x)
left_no_step s t (Err f) later made refused = ap steps_asked (refused_asks s t step.Exit f later refused)

-- and the process has exited then
pub left_exited : (s t : SeatView) (r : Result Event Fault) → Later s t → IfOk r (λ x. asked_of t ≡ asked_of s ++ answered step.Exit (Some x) ∷ [])
    → IfErr r (λ f. Refused s t step.Exit f) → has_exited t.pid.0 t.seen ≡ true
left_exited s t (Ok x) later made refused = own_exit s t (Some x) made
left_exited s t (Err f) later made refused = exit_refused s t f later.pid refused.shows

-- a step was refused, and then the process left
pub stopped_leaves : (a : List Asked) (s t : SeatView) (words : ℕ → ℕ) (script : List ScriptStep) (f : Fault)
    → Stopped a s words script 0 f → Later s t → steps_asked (asked_of t) ≡ steps_asked (asked_of s) → has_exited t.pid.0 t.seen ≡ true
    → WasStopped a t words script f
stopped_leaves a s t words script f stopped later same left = record {
  at = s;
  stopped = stopped;
  onward = record { hub = later.hub; pid = later.pid; begins = later.begins };
  same = same;
  left = left;
}

-- the exit behind the script was refused
pub stopped_at_exit : (a : List Asked) (s t : SeatView) (words : ℕ → ℕ) (script : List ScriptStep) (k : ℕ) (f : Fault)
    → Leads a (asked_of s) words script 0 [] k → Later s t → Refused s t step.Exit f → WasStopped a t words script f
stopped_at_exit a s t words script k f p later refused = record {
  at = t;
  stopped = stopped_here a s t words script [] 0 k step.Exit f p refl later refused;
  onward = record { hub = refl; pid = refl; begins = prefix_self t.seen };
  same = refl;
  left = exit_refused s t f later.pid refused.shows;
}
