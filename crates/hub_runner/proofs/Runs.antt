-- All seats of a run, and the one journal.
use Rattle.std.proofs.Common.{◌≡◌, ℕ, ◌+◌, ◌<◌, List, [], ◌∷◌, ◌++◌, length, get_or, map, refl, ap, ◌∙◌, sym, subst}
use Rattle.std.proofs.Common.{Option, Some, Result, Ok, Err, OnOk, All, take, zero, suc, arith, true}
use Rattle.std.specs.Prelude.{slice_get, IsOk, Vec, vec_len, vec_items}
use Rattle.std.specs.List.{list_all}
use Rattle.std.specs.declared.alloc.Global.{Global}
use Rattle.std.proofs.lemmas.List.{take_more, get_or-map, length-map}
use Rattle.std.specs.Option.{option_map}
use Rattle.std.proofs.lemmas.Option.{slice_get_within, slice_get-map}
use Rattle.hub_base.specs.declared.head.Edition.{Edition}
use Rattle.hub_base.specs.declared.head.Head.{Head}
use Rattle.hub_base.specs.declared.value.Pid.{Pid}
use Rattle.hub_base.specs.Entry.{Entry}
use Rattle.hub_base.specs.declared.event.Event.{Event}
use Rattle.hub_base.specs.declared.entry.Step.TheVariants as step
use Rattle.hub_live.specs.Name.{Name}
use Rattle.hub_live.specs.SeatView.{SeatView, IsFree}
use Rattle.hub_live.specs.Calls.{Later, Made, AreSeats, StandsIn}
use Rattle.hub_scenario.specs.declared.script.ScriptStep.{ScriptStep}
use Rattle.hub_scenario.specs.Scenario.{ScenarioData, scenario_view, run_head}
use Rattle.hub_scenario.specs.declared.scenario.Scenario.{Scenario}
use Rattle.hub_scenario.specs.Scripts.{AreOf}
use Rattle.hub_scenario.specs.Steps.{has_step}
use Rattle.hub_scenario.specs.ChoiceWords.{words_of_process}
use Rattle.hub_laws.specs.Asked.{Asked, asked}
use Rattle.hub_runner.specs.Scripts.{Follows, MakesThenFollows, FollowsScript, made_by, AllFollow}
use Rattle.hub_runner.specs.Running.{AreMakes, IsReady, HasFollowed}
use Rattle.hub_runner.specs.Working.{asked_of, Onward, Followed}
use Rattle.hub_runner.proofs.Workers.{made_asks}
use Rattle.hub_laws.proofs.Askings.{answered, asked-same}

-- ---- the scripts

-- as many scripts as the vector has
pub count_scripts : (sc : Scenario) → vec_len sc.scripts ≡ length (scenario_view sc).scripts
count_scripts sc = omega (arith, sc.scripts.ok.0, length-map sc.scripts.items vec_items)

-- the script in a place
pub script_at : (sc : Scenario) (i : ℕ) (script : Vec ScriptStep Global) → slice_get sc.scripts.items i ≡ Some script
    → slice_get (scenario_view sc).scripts i ≡ Some script.items
script_at sc i script at = slice_get-map vec_items sc.scripts.items i ∙ ap (option_map vec_items) at

-- where the script of a seat's process stands
pub place_of : (sc : Scenario) (s : SeatView) (pid : Pid) (i : ℕ) → IsReady (scenario_view sc) s → pid ≡ s.pid → pid.0 < s.hub.terms.head.procs
    → i ≡ pid.0 → (i ≡ s.pid.0) × (i < length sc.scripts.items)
place_of sc s pid i ready same below is = (
  is ∙ ap (λ (p : Pid). p.0) same,
  omega (arith, ap (λ (h : Head). h.procs) ready.head, sym (length-map sc.scripts.items vec_items), below, is),
)

-- each step of a process's script is of the edition that all are of
pub script_fits : (edition : Edition) (scripts : List (List ScriptStep)) (pid : ℕ) (script : List ScriptStep) → AreOf edition scripts
    → slice_get scripts pid ≡ Some script → list_all (has_step edition) script ≡ true
script_fits edition [] pid script all at = cc
script_fits edition (s ∷ scripts) zero script all at =
    let same : s ≡ script = cc in
    subst (λ (steps : List ScriptStep). list_all (has_step edition) steps ≡ true) same (all 0 s (omega arith))
script_fits edition (s ∷ scripts) (suc pid) script all at = script_fits edition scripts pid script (λ k d lt. all (suc k) d (omega (arith, lt))) at

-- ---- the ports

-- one make more
makes_more : (cs : List ℕ) (xs : List Asked) (c : ℕ) (x : Option Event) → AreMakes cs xs → AreMakes (cs ++ c ∷ []) (xs ++ answered (step.Make c) x ∷ [])
makes_more [] [] c x h = (refl, tt)
makes_more [] (a ∷ more) c x h = absurd h
makes_more (d ∷ cs) [] c x h = absurd h
makes_more (d ∷ cs) (a ∷ more) c x h = (h.0, makes_more cs more c x h.1)

-- the makes, and then a script's entries
pub makes_then : (cs : List ℕ) (xs more : List Asked) (words : ℕ → ℕ) (script : List ScriptStep) → AreMakes cs xs → Follows script words 0 more
    → MakesThenFollows cs script words (xs ++ more)
makes_then [] [] more words script h f = f
makes_then [] (a ∷ xs) more words script h f = absurd h
makes_then (c ∷ cs) [] more words script h f = absurd h
makes_then (c ∷ cs) (a ∷ xs) more words script h f = (h.0, makes_then cs xs more words script h.1 f)

pub made_more : (s t : SeatView) (caps : List ℕ) (i cap : ℕ) (x : Event) → IsFree s → Later s t → Made s t (step.Make cap) x
    → i < length caps → cap ≡ get_or caps i 0 → AreMakes (take i caps) (asked_of s) → AreMakes (take (i + 1) caps) (asked_of t)
made_more s t caps i cap x free later made low is h =
    let cut : take (i + 1) caps ≡ take i caps ++ cap ∷ [] = take_more caps i 0 low ∙ ap (λ (c : ℕ). take i caps ++ c ∷ []) (sym is) in
    subst (λ (zs : List ℕ). AreMakes zs (asked_of t)) (sym cut) (subst (λ (zs : List Asked). AreMakes (take i caps ++ cap ∷ []) zs)
    (sym (made_asks s t (step.Make cap) x free later made)) (makes_more (take i caps) (asked_of s) cap (Some x) h))

-- ---- one process

-- it has one script
pub one_script : (sc : ScenarioData) (s t : SeatView) (script other : List ScriptStep) → t.pid ≡ s.pid
    → slice_get sc.scripts s.pid.0 ≡ Some script → slice_get sc.scripts t.pid.0 ≡ Some other → script ≡ other
one_script sc s t script other pid at is =
    let place : slice_get sc.scripts s.pid.0 ≡ Some other = ap (λ (p : Pid). slice_get sc.scripts p.0) (sym pid) ∙ is in cc

-- a ready seat whose process then followed its script has followed it
pub has_followed : {T E : Type 0} (r : Result T E) (sc : ScenarioData) (s t : SeatView) (script : List ScriptStep) → IsReady sc s → Onward s t
    → slice_get sc.scripts s.pid.0 ≡ Some script → OnOk r (Followed (asked_of s) (asked_of t) (words_of_process sc.seed s.pid.0) script)
    → OnOk r (HasFollowed sc t)
has_followed (Err e) sc s t script ready on at f = tt
has_followed (Ok x) sc s t script ready on at f = λ other is.
    let same = one_script sc s t script other on.pid at is in
    let here : FollowsScript sc s.pid.0 script (asked_of t) =
    subst (λ (zs : List Asked). FollowsScript sc s.pid.0 script zs) (sym f.now_is)
    (makes_then (made_by s.pid.0 sc.ports) (asked_of s) f.made (words_of_process sc.seed s.pid.0) script ready.makes f.follows) in
    subst (λ (o : List ScriptStep). FollowsScript sc t.pid.0 o (asked_of t)) same
    (subst (λ (p : Pid). FollowsScript sc p.0 script (asked_of t)) (sym on.pid) here)

-- ---- all seats

-- the seat at place k is blank, and of process `first + k`
pub blank_at : (name : Name) (first : ℕ) (ss : List SeatView) (k : ℕ) (d : SeatView) → AreSeats name first ss → k < length ss
    → get_or ss k d ≡ record { hub = name; pid = record { 0 = first + k }; seen = [] }
blank_at name first [] k d h low = absurd (omega arith)
blank_at name first (s ∷ ss) zero d h low =
    h.0 ∙ ap (λ (n : ℕ). record { hub = name; pid = record { 0 = n }; seen = [] }) (let z : first ≡ first + 0 = omega arith in z)
blank_at name first (s ∷ ss) (suc k) d h low = blank_at name (first + 1) ss k d h.1 (omega arith)
    ∙ ap (λ (n : ℕ). record { hub = name; pid = record { 0 = n }; seen = [] }) (let z : (first + 1) + k ≡ first + suc k = omega arith in z)

-- what a process asked in the journal is what it asked in what its seat has seen
stands_asked : (s : SeatView) (journal : List Entry) → StandsIn s journal → asked s.pid.0 s.hub.terms.head journal ≡ asked_of s
stands_asked s journal st = asked-same s.pid.0 s.hub.terms.head s.seen journal st.begins st.same.own st.same.reply

-- what holds of what a process asked, as its seat has seen it, holds of what it asked in the journal
pub in_journal : (P : List Asked → Type 0) (sc : ScenarioData) (s : SeatView) (journal : List Entry) → s.hub.terms.head ≡ run_head sc
    → StandsIn s journal → P (asked_of s) → P (asked s.pid.0 (run_head sc) journal)
in_journal P sc s journal head st h = subst P (sym (stands_asked s journal st) ∙ ap (λ (hd : Head). asked s.pid.0 hd journal) head) h

-- the seat in place k is that of process k
pub pid_at : (name : Name) (before done : List SeatView) (k : ℕ) (d : SeatView) → AreSeats name 0 before
    → map (λ s. s.pid) done ≡ map (λ s. s.pid) before → k < length done → (get_or done k d).pid.0 ≡ k
pid_at name before done k d seats pids here =
    let there : k < length before =
    omega (arith, length-map done (λ (s : SeatView). s.pid), ap length pids, length-map before (λ (s : SeatView). s.pid)) in
    ap (λ (p : Pid). p.0) (sym (get_or-map (λ (s : SeatView). s.pid) done k d d.pid here) ∙ ap (λ (ps : List Pid). get_or ps k d.pid) pids
    ∙ get_or-map (λ (s : SeatView). s.pid) before k d d.pid there)
    ∙ ap (λ (s : SeatView). s.pid.0) (blank_at name 0 before k d seats there) ∙ (let z : 0 + k ≡ k = omega arith in z)

-- what is known of each process from its seat, as soon as the journal is known to begin with what the seat has seen
pub all_processes : (Q : SeatView → List ScriptStep → Type 0) (R : ℕ → List ScriptStep → Type 0) (name : Name) (sc : ScenarioData)
    (before done : List SeatView) (journal : List Entry) → length before ≡ length sc.scripts → AreSeats name 0 before
    → map (λ s. s.pid) done ≡ map (λ s. s.pid) before → All (λ s. s.hub ≡ name) done → All (λ s. StandsIn s journal) done
    → All (λ s. (script : List ScriptStep) → slice_get sc.scripts s.pid.0 ≡ Some script → Q s script) done
    → ((s : SeatView) (script : List ScriptStep) → s.hub ≡ name → StandsIn s journal → Q s script → R s.pid.0 script)
    → (q : ℕ) (script : List ScriptStep) → slice_get sc.scripts q ≡ Some script → R q script
all_processes Q R name sc before done journal many seats pids hubs stands each known q script at =
    let d : SeatView = record { hub = name; pid = record { 0 = q }; seen = [] } in
    let low : q < length sc.scripts = slice_get_within sc.scripts q script at in
    let here : q < length done =
    omega (arith, length-map done (λ (s : SeatView). s.pid), ap length pids, length-map before (λ (s : SeatView). s.pid)) in
    let s = get_or done q d in
    let pid : s.pid.0 ≡ q = pid_at name before done q d seats pids here in
    subst (λ (p : ℕ). R p script) pid
    (known s script (hubs q d here) (stands q d here) (each q d here script (ap (slice_get sc.scripts) pid ∙ at)))

pub all_follow : (name : Name) (sc : ScenarioData) (before done : List SeatView) (journal : List Entry)
    → name.terms.head ≡ run_head sc → length before ≡ length sc.scripts → AreSeats name 0 before → map (λ s. s.pid) done ≡ map (λ s. s.pid) before
    → All (λ s. s.hub ≡ name) done → All (HasFollowed sc) done → All (λ s. StandsIn s journal) done → AllFollow sc journal
all_follow name sc before done journal head many seats pids hubs followed stands =
    all_processes (λ s script. FollowsScript sc s.pid.0 script (asked_of s)) (λ q script. FollowsScript sc q script (asked q (run_head sc) journal))
    name sc before done journal many seats pids hubs stands followed
    (λ s script hub st f. in_journal (FollowsScript sc s.pid.0 script) sc s journal (ap (λ (m : Name). m.terms.head) hub ∙ head) st f)

-- ---- results

pub from_ok : {T E : Type 0} (r : Result T E) (P : Type 0) → IsOk r → OnOk r P → P
from_ok (Ok x) P ok h = h
from_ok (Err e) P ok h = absurd (let g : ⊥ = cc in g)
