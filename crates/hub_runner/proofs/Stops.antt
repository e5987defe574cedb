-- Processes that were stopped on their way: how far they came, and why they went no further.
use Rattle.std.proofs.Common.{◌≡◌, ℕ, ◌≤◌, ◌⊎◌, ◌||◌, inl, inr, Bool, true, false, List, [], ◌∷◌, ◌++◌, length, map, refl, ap, ◌∙◌, sym, subst}
use Rattle.std.proofs.Common.{Option, None, append-nil, arith}
use Rattle.std.specs.Prelude.{not}
use Rattle.std.specs.List.{list_any}
use Rattle.std.proofs.lemmas.Bool.{or_parts, or_from, or_right}
use Rattle.std.proofs.lemmas.List.Elements.{filter-append}
use Rattle.std.proofs.lemmas.List.Folds.{list_any-append}
use Rattle.std.proofs.lemmas.List.{length-append}
use mathlib.Core.List.{IsPrefix}
use Rattle.hub_base.specs.declared.value.Pid.{Pid}
use Rattle.hub_base.specs.Entry.{Entry, Step}
use Rattle.hub_base.specs.declared.entry.Step.TheVariants as step
use Rattle.hub_base.specs.declared.event.Event.{Event}
use Rattle.hub_base.specs.declared.fault.Fault.{Fault}
use Rattle.hub_base.specs.declared.fault.Fault.TheVariants as fault
use Rattle.hub_base.specs.Reading.{is_exit}
use Rattle.hub_base.specs.Text.{steps_of}
use Rattle.hub_live.specs.SeatView.{SeatView, own_of}
use Rattle.hub_live.specs.Calls.{Shows, entry_of}
use Rattle.hub_scenario.specs.declared.script.ScriptStep.{ScriptStep}
use Rattle.hub_scenario.specs.declared.script.ScriptStep.TheVariants.{Send, Recv, Select, Close, Range}
use Rattle.hub_scenario.specs.Scenario.{ScenarioData}
use Rattle.hub_scenario.specs.ChoiceWords.{words_of_process}
use Rattle.hub_laws.specs.Asked.{Asked}
use Rattle.hub_runner.specs.Scripts.{asks, taken_after, left, Follows, MakesThenFollows, FollowsScript, made_by}
use Rattle.hub_runner.specs.CutShort.{steps_asked, ComesTo}
use Rattle.hub_runner.specs.Running.{AreMakes, SawFull}
use Rattle.hub_runner.specs.Working.{asked_of, has_exited, Onward, next_of}
use Rattle.hub_base.proofs.StepCounts.{steps-append}
use Rattle.hub_laws.proofs.Askings.{answered, asked-steps}
use Rattle.hub_runner.proofs.Gone.{gone-exited}

-- ---- exits

-- none of these is an exit
abbrev pub NoExit : List Asked → Type 0
NoExit xs = list_any (λ a. is_exit a.step) xs ≡ false

asks_a_step : (s : ScriptStep) (word : ℕ) → is_exit (asks s word) ≡ false
asks_a_step (Send p v) word = refl
asks_a_step (Recv p) word = refl
asks_a_step (Select cases default) word = refl
asks_a_step (Close p) word = refl
asks_a_step (Range p) word = refl

-- what stands before the last entry is no exit
steps_first : (words : ℕ → ℕ) (script : List ScriptStep) (j : ℕ) (xs : List Asked) (a : Asked) (more : List Asked)
    → Follows script words j (xs ++ a ∷ more) → NoExit xs
steps_first words script j [] a more f = refl
steps_first words [] j (x ∷ xs) a more f = absurd (omega (arith, length-append xs (a ∷ more), ap length f.1))
steps_first words (s ∷ rest) j (x ∷ xs) a more f =
    or_from (is_exit x.step) (list_any (λ a. is_exit a.step) xs) (ap is_exit f.0 ∙ asks_a_step s (words j))
    (steps_first words (left s rest x.reply) (taken_after s j) xs a more f.1)

makes_first : (caps : List ℕ) (script : List ScriptStep) (words : ℕ → ℕ) (xs : List Asked) (a : Asked) (more : List Asked)
    → MakesThenFollows caps script words (xs ++ a ∷ more) → NoExit xs
makes_first [] script words xs a more f = steps_first words script 0 xs a more f
makes_first (c ∷ cs) script words [] a more f = refl
makes_first (c ∷ cs) script words (x ∷ xs) a more f =
    or_from (is_exit x.step) (list_any (λ a. is_exit a.step) xs) (ap is_exit f.0) (makes_first cs script words xs a more f.1)

all_steps : (xs : List Asked) → NoExit xs → steps_asked xs ≡ xs
all_steps [] h = refl
all_steps (x ∷ xs) h = let p = or_parts (is_exit x.step) (list_any (λ a. is_exit a.step) xs) h in rw p.0 (ap (λ ys. x ∷ ys) (all_steps xs p.1))

-- an exit more is no step more
pub exit_is_no_step : (xs : List Asked) (reply : Option Event) → steps_asked (xs ++ answered step.Exit reply ∷ []) ≡ steps_asked xs
exit_is_no_step xs reply = filter-append (λ (a : Asked). not (is_exit a.step)) xs (answered step.Exit reply ∷ []) ∙ append-nil (steps_asked xs)

exit_alone : (a : Asked) (more : List Asked) → a.step ≡ step.Exit → more ≡ [] → a ∷ more ≡ steps_asked (a ∷ more) ++ answered step.Exit a.reply ∷ []
exit_alone a more is none =
    let here : is_exit a.step ≡ true = ap is_exit is in
    let no_step : steps_asked (a ∷ more) ≡ [] = rw here (ap steps_asked none) in
    (λ i. record { step = is i; reply = a.reply } ∷ none i) ∙ ap (λ zs. zs ++ answered step.Exit a.reply ∷ []) (sym no_step)

step_before : (a : Asked) (more : List Asked) (reply : Option Event) → is_exit a.step ≡ false → more ≡ steps_asked more ++ answered step.Exit reply ∷ []
    → a ∷ more ≡ steps_asked (a ∷ more) ++ answered step.Exit reply ∷ []
step_before a more reply is whole = rw is (ap (λ ys. a ∷ ys) whole)

-- what follows a script to its end: steps, and then an exit
steps_then_exit : (words : ℕ → ℕ) (script : List ScriptStep) (j : ℕ) (all : List Asked) → Follows script words j all
    → (reply : Option Event) × (all ≡ steps_asked all ++ answered step.Exit reply ∷ [])
steps_then_exit words script j [] f = absurd f
steps_then_exit words [] j (a ∷ more) f = (a.reply, exit_alone a more f.0 f.1)
steps_then_exit words (s ∷ rest) j (a ∷ more) f =
    let later = steps_then_exit words (left s rest a.reply) (taken_after s j) more f.1 in
    (later.0, step_before a more later.0 (ap is_exit f.0 ∙ asks_a_step s (words j)) later.1)

makes_then_exit : (caps : List ℕ) (script : List ScriptStep) (words : ℕ → ℕ) (all : List Asked) → MakesThenFollows caps script words all
    → (reply : Option Event) × (all ≡ steps_asked all ++ answered step.Exit reply ∷ [])
makes_then_exit [] script words all f = steps_then_exit words script 0 all f
makes_then_exit (c ∷ cs) script words [] f = absurd f
makes_then_exit (c ∷ cs) script words (a ∷ more) f =
    let later = makes_then_exit cs script words more f.1 in (later.0, step_before a more later.0 (ap is_exit f.0) later.1)

-- ---- what can come next

left_untold : (s : ScriptStep) (rest : List ScriptStep) → left s rest None ≡ rest
left_untold s rest = grind arith

-- whatever is left of a script can be followed
pub can_follow : (words : ℕ → ℕ) (rest : List ScriptStep) (k : ℕ) → (more : List Asked) × Follows rest words k (answered (next_of rest words k) None ∷ more)
can_follow words [] k = ([], (refl, refl))
can_follow words (s ∷ rest) k =
    let j = taken_after s k in
    let later = can_follow words rest j in
    let more = answered (next_of rest words j) None ∷ later.0 in
    (more, (refl, subst (λ (zs : List ScriptStep). Follows zs words j more) (sym (left_untold s rest)) later.1))

-- and whatever is left of the ports can be made before
pub can_make : (caps : List ℕ) (script : List ScriptStep) (words : ℕ → ℕ)
    → (next : Step) × (more : List Asked) × MakesThenFollows caps script words (answered next None ∷ more)
can_make [] script words = let f = can_follow words script 0 in (next_of script words 0, f.0, f.1)
can_make (c ∷ cs) script words = let f = can_make cs script words in (step.Make c, answered f.0 None ∷ f.1, (refl, f.2))

-- makes, and then the rest of them
pub makes_on : (made caps : List ℕ) (xs more : List Asked) (script : List ScriptStep) (words : ℕ → ℕ) → AreMakes made xs
    → MakesThenFollows caps script words more → MakesThenFollows (made ++ caps) script words (xs ++ more)
makes_on [] caps [] more script words h f = f
makes_on [] caps (a ∷ xs) more script words h f = absurd h
makes_on (c ∷ made) caps [] more script words h f = absurd h
makes_on (c ∷ made) caps (a ∷ xs) more script words h f = (h.0, makes_on made caps xs more script words h.1 f)

-- ---- how far a process came

-- one that has followed its script came to its exit
pub followed_comes : (sc : ScenarioData) (q : ℕ) (script : List ScriptStep) (all : List Asked) → FollowsScript sc q script all
    → ComesTo sc q script all step.Exit
followed_comes sc q script all f =
    let end = makes_then_exit (made_by q sc.ports) script (words_of_process sc.seed q) all f in
    record { reply = end.0; more = []; follows = subst (λ (zs : List Asked). FollowsScript sc q script zs) end.1 f }

-- the process of this seat has come to this entry, which was refused by this fault
pub record StopsAt (sc : ScenarioData) (q : ℕ) (script : List ScriptStep) (s : SeatView) (next : Step) (f : Fault) : Type 0 where
  pub more : List Asked
  pub follows : FollowsScript sc q script (asked_of s ++ answered next None ∷ more)
  pub shows : Shows s.hub.terms (entry_of s next) s.seen f

pub stop_no_exit : (sc : ScenarioData) (q : ℕ) (script : List ScriptStep) (s : SeatView) (next : Step) (f : Fault) → StopsAt sc q script s next f
    → NoExit (asked_of s)
stop_no_exit sc q script s next f st =
    makes_first (made_by q sc.ports) script (words_of_process sc.seed q) (asked_of s) (answered next None) st.more st.follows

-- and later it has come no further, where it asked no step since
pub stop_comes : (sc : ScenarioData) (q : ℕ) (script : List ScriptStep) (s t : SeatView) (next : Step) (f : Fault) → StopsAt sc q script s next f
    → steps_asked (asked_of t) ≡ steps_asked (asked_of s) → ComesTo sc q script (asked_of t) next
stop_comes sc q script s t next f st same =
    let all : steps_asked (asked_of t) ≡ asked_of s = same ∙ all_steps (asked_of s) (stop_no_exit sc q script s next f st) in
    record {
      reply = None;
      more = st.more;
      follows = subst (λ (zs : List Asked). FollowsScript sc q script (zs ++ answered next None ∷ st.more)) (sym all) st.follows;
    }

-- ---- why it went no further

list_any-map : {A B : Type 0} (test : B → Bool) (h : A → B) (xs : List A) → list_any test (map h xs) ≡ list_any (λ x. test (h x)) xs
list_any-map test h [] = refl
list_any-map test h (x ∷ xs) = ap (λ (b : Bool). test (h x) || b) (list_any-map test h xs)

any_step : (test : Step → Bool) (xs : List Asked) (es : List Entry) → map (λ a. a.step) xs ≡ map (λ e. e.step) es
    → list_any (λ a. test a.step) xs ≡ list_any (λ e. test e.step) es
any_step test xs es same =
    sym (list_any-map test (λ (a : Asked). a.step) xs) ∙ ap (list_any test) same ∙ list_any-map test (λ (e : Entry). e.step) es

-- it has exited where it asked an exit
exit_asked : (s : SeatView) → has_exited s.pid.0 s.seen ≡ list_any (λ a. is_exit a.step) (asked_of s)
exit_asked s = sym (any_step is_exit (asked_of s) (own_of s) (asked-steps s.pid.0 s.hub.terms.head s.seen))

pub own_no_exit : (s : SeatView) → NoExit (asked_of s) → has_exited s.pid.0 s.seen ≡ false
own_no_exit s h = exit_asked s ∙ h

-- it made its exit
pub own_exit : (s t : SeatView) (reply : Option Event) → asked_of t ≡ asked_of s ++ answered step.Exit reply ∷ [] → has_exited t.pid.0 t.seen ≡ true
own_exit s t reply is =
    let last = answered step.Exit reply ∷ [] in
    exit_asked t ∙ ap (list_any (λ a. is_exit a.step)) is ∙ list_any-append (λ (a : Asked). is_exit a.step) (asked_of s) last
    ∙ or_right (list_any (λ a. is_exit a.step) (asked_of s)) (list_any (λ a. is_exit a.step) last) refl

-- an exit is refused only behind another
pub exit_refused : (s t : SeatView) (f : Fault) → t.pid ≡ s.pid → Shows t.hub.terms (entry_of s step.Exit) t.seen f → has_exited t.pid.0 t.seen ≡ true
exit_refused s t fault.JournalFull pid shows = let is_step = shows.0 in absurd (let g : ⊥ = cc in g)
exit_refused s t fault.NoMemory pid shows = let is_step = shows.0 in absurd (let g : ⊥ = cc in g)
exit_refused s t fault.Gone pid shows =
    ap (λ (p : Pid). has_exited p.0 t.seen) pid ∙ gone-exited t.hub.terms.head s.pid.0 t.seen shows.1
exit_refused s t other pid shows = absurd shows

pub steps_grow : (xs ys : List Entry) → IsPrefix xs ys → steps_of xs ≤ steps_of ys
steps_grow xs ys begins = omega (arith, steps-append xs begins.0, ap steps_of begins.1)

-- memory was refused, or a step was and the journal is full
pub stop_shows : (sc : ScenarioData) (q : ℕ) (script : List ScriptStep) (s t : SeatView) (next : Step) (f : Fault) → StopsAt sc q script s next f
    → Onward s t → (f ≡ fault.NoMemory) ⊎ ((is_exit next ≡ false) × SawFull t)
stop_shows sc q script s t next fault.NoMemory st on = inl refl
stop_shows sc q script s t next fault.JournalFull st on = inr (
  st.shows.0,
  record {
    early = s.seen;
    begins = on.begins;
    full = omega (arith, st.shows.1, ap (λ n. n.terms.limit) on.hub);
    stays =
        subst (λ (p : Pid). has_exited p.0 s.seen ≡ false) (sym on.pid)
        (own_no_exit s (stop_no_exit sc q script s next fault.JournalFull st));
  },
)
stop_shows sc q script s t next fault.Gone st on =
    let none = own_no_exit s (stop_no_exit sc q script s next fault.Gone st) in
    let exited = gone-exited s.hub.terms.head s.pid.0 s.seen st.shows.1 in absurd (let g : ⊥ = cc (exited, none) in g)
stop_shows sc q script s t next other st on = absurd st.shows
