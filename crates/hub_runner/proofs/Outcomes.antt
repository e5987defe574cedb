-- What the threads of a run told, and where all its processes came to.
use Rattle.std.proofs.Common.{◌≡◌, ◌≢◌, ℕ, ◌+◌, ◌<◌, ◌⊎◌, inl, inr, List, [], ◌∷◌, ◌++◌, length, get_or, map, refl, ap, ◌∙◌, sym, subst}
use Rattle.std.proofs.Common.{Option, None, Some, Result, Ok, Err, IfErr, OnOk, append_assoc, take, drop, arith}
use Rattle.std.specs.Prelude.{slice_get, IsOk, IsErr, Any}
use Rattle.std.proofs.lemmas.List.{map-append, take-append-drop}
use Rattle.std.proofs.lemmas.List.Quantifiers.{Any-push, any-set}
use Rattle.std.proofs.lemmas.Grind.{common_steps}
use Rattle.hub_base.specs.declared.value.Pid.{Pid}
use Rattle.hub_base.specs.Entry.{Entry, Step}
use Rattle.hub_base.specs.declared.entry.Step.TheVariants as step
use Rattle.hub_base.specs.declared.fault.Fault.{Fault}
use Rattle.hub_base.specs.declared.fault.Fault.TheVariants as fault
use Rattle.hub_live.specs.Name.{Name}
use Rattle.hub_live.specs.SeatView.{SeatView}
use Rattle.hub_live.specs.Calls.{Later, Refused, Shows, AreSeats}
use Rattle.hub_base.proofs.Lists.{prefix_self, prefix_trans}
use Rattle.hub_base.proofs.Loops.{all_snoc}
use Rattle.hub_scenario.specs.declared.script.ScriptStep.{ScriptStep}
use Rattle.hub_scenario.specs.Scenario.{ScenarioData}
use Rattle.hub_scenario.specs.ChoiceWords.{choice_word, words_of_process}
use Rattle.hub_runner.specs.declared.fault.RunFault.{RunFault}
use Rattle.hub_runner.specs.declared.fault.RunFault.TheVariants as run
use Rattle.hub_laws.specs.Asked.{Asked}
use Rattle.hub_runner.specs.Scripts.{MakesThenFollows, FollowsScript, made_by}
use Rattle.hub_runner.specs.CutShort.{steps_asked, ComesTo}
use Rattle.hub_runner.specs.Ports.{makes_of}
use Rattle.hub_runner.specs.Running.{AreMakes, MakesStopped, IsReady, HasFollowed, HasCome, MeetsLimit, IsOutcome, HaveEnded, ShowPorts}
use Rattle.hub_runner.specs.Working.{asked_of, Onward, Followed, next_of, WasStopped}
use Rattle.hub_laws.proofs.Askings.{answered}
use Rattle.hub_runner.proofs.Workers.{at_place, refused_asks}
use Rattle.hub_runner.proofs.Stops.{can_follow, can_make, makes_on, followed_comes, StopsAt, stop_no_exit, own_no_exit, stop_comes, stop_shows}
use Rattle.hub_runner.proofs.Runs.{makes_then, one_script, has_followed, from_ok}
use Rattle.hub_runner.proofs.Beginnings.{blank_seat, asked-nil, all_but_first, first_kept, later_makes}

-- ---- one thread

-- a process whose script is known has come so far
has_come : (sc : ScenarioData) (s t : SeatView) (script : List ScriptStep) (next : Step) → t.pid ≡ s.pid → slice_get sc.scripts s.pid.0 ≡ Some script
    → ComesTo sc s.pid.0 script (asked_of t) next → (other : List ScriptStep) → slice_get sc.scripts t.pid.0 ≡ Some other
    → ComesTo sc t.pid.0 other (asked_of t) next
has_come sc s t script next pid at comes other is =
    subst (λ (p : Pid). ComesTo sc p.0 other (asked_of t) next) (sym pid)
    (subst (λ (o : List ScriptStep). ComesTo sc s.pid.0 o (asked_of t) next) (one_script sc s t script other pid at is) comes)

-- where a ready seat's process was stopped
stopped_at : (sc : ScenarioData) (s t : SeatView) (script : List ScriptStep) (f : Fault) → IsReady sc s
    → (w : WasStopped (asked_of s) t (words_of_process sc.seed s.pid.0) script f)
    → StopsAt sc s.pid.0 script w.at (next_of w.stopped.rest (words_of_process sc.seed s.pid.0) w.stopped.k) f
stopped_at sc s t script f ready w =
    let words = words_of_process sc.seed s.pid.0 in
    let p = w.stopped.leads in
    let end = can_follow words w.stopped.rest w.stopped.k in
    let tail = answered (next_of w.stopped.rest words w.stopped.k) None ∷ end.0 in
    let all : FollowsScript sc s.pid.0 script (asked_of s ++ (p.made ++ tail)) =
    makes_then (made_by s.pid.0 sc.ports) (asked_of s) (p.made ++ tail) words script ready.makes (p.leads tail end.1) in
    record {
      more = end.0;
      follows =
          subst (λ (zs : List Asked). FollowsScript sc s.pid.0 script zs)
          (sym (append_assoc (asked_of s) p.made tail) ∙ ap (λ (zs : List Asked). zs ++ tail) (sym p.now_is)) all;
      shows = w.stopped.shows;
    }

outcome_by : (r : Result (Unit {0}) Fault) (sc : ScenarioData) (s t : SeatView) (script : List ScriptStep) → IsReady sc s → Onward s t
    → slice_get sc.scripts s.pid.0 ≡ Some script → OnOk r (Followed (asked_of s) (asked_of t) (words_of_process sc.seed s.pid.0) script)
    → IfErr r (λ f. WasStopped (asked_of s) t (words_of_process sc.seed s.pid.0) script f) → IsOutcome sc t r
outcome_by (Ok x) sc s t script ready on at ok err =
    record {
      ports = prefix_trans (makes_of sc) s.seen t.seen ready.ports on.begins;
      ok = has_followed {E = Fault} (Ok x) sc s t script ready on at ok;
      err = tt;
    }
outcome_by (Err f) sc s t script ready on at ok w =
    let next = next_of w.stopped.rest (words_of_process sc.seed s.pid.0) w.stopped.k in
    let st = stopped_at sc s t script f ready w in
    let come = has_come sc s t script next on.pid at (stop_comes sc s.pid.0 script w.at t next f st w.same) in
    record {
      ports = prefix_trans (makes_of sc) s.seen t.seen ready.ports on.begins;
      ok = tt;
      err = elim (stop_shows sc s.pid.0 script w.at t next f st w.onward) [
        | inl memory ↦ inl memory
        | inr h ↦ inr (record { saw = h.1; goes_on = λ other is. (next, come other is, h.0) })
      ];
    }

-- what the thread of a ready seat tells
pub is_outcome : (r : Result (Unit {0}) Fault) (sc : ScenarioData) (s t : SeatView) (script steps : List ScriptStep) (seed : ℕ) → IsReady sc s → Onward s t
    → slice_get sc.scripts s.pid.0 ≡ Some script → steps ≡ script → seed ≡ sc.seed + s.pid.0
    → OnOk r (Followed (asked_of s) (asked_of t) (choice_word seed) steps) → IfErr r (λ f. WasStopped (asked_of s) t (choice_word seed) steps f)
    → IsOutcome sc t r
is_outcome r sc s t script steps seed ready on at same drawn =
    let all = outcome_by r sc s t script ready on at in
    let by_steps = subst (λ (zs : List ScriptStep). OnOk r (Followed (asked_of s) (asked_of t) (choice_word (sc.seed + s.pid.0)) zs)
    → IfErr r (λ f. WasStopped (asked_of s) t (choice_word (sc.seed + s.pid.0)) zs f) → IsOutcome sc t r) (sym same) all in
    subst (λ (n : ℕ). OnOk r (Followed (asked_of s) (asked_of t) (choice_word n) steps)
    → IfErr r (λ f. WasStopped (asked_of s) t (choice_word n) steps f) → IsOutcome sc t r) (sym drawn) by_steps

-- ---- the ports

-- a make was refused
pub makes_stop : (s t : SeatView) (caps : List ℕ) (i cap : ℕ) (f : Fault) → Later s t → Refused s t (step.Make cap) f → i < length caps
    → cap ≡ get_or caps i cap → AreMakes (take i caps) (asked_of s) → MakesStopped caps t f
makes_stop s t caps i cap f later refused low is makes = record {
  made = take i caps;
  cap = cap;
  more = drop (i + 1) caps;
  whole = sym (take-append-drop i caps) ∙ ap (λ (cs : List ℕ). take i caps ++ cs) (at_place caps i cap low is);
  makes = subst (λ (zs : List Asked). AreMakes (take i caps) zs) (sym (refused_asks s t (step.Make cap) f later refused)) makes;
  shows = subst (λ (e : Entry). Shows t.hub.terms e t.seen f) (λ k. record { pid = sym later.pid k; step = step.Make cap }) refused.shows;
}

-- so process 0 came to this make, whatever its script is
makes_stop_at : (sc : ScenarioData) (t : SeatView) (script : List ScriptStep) (f : Fault) → t.pid.0 ≡ 0 → (m : MakesStopped sc.ports t f)
    → StopsAt sc t.pid.0 script t (step.Make m.cap) f
makes_stop_at sc t script f pid m =
    let words = words_of_process sc.seed t.pid.0 in
    let end = can_make m.more script words in
    let tail = answered end.0 None ∷ end.1 in
    let all = asked_of t ++ answered (step.Make m.cap) None ∷ tail in
    record {
      more = tail;
      follows =
          subst (λ (n : ℕ). MakesThenFollows (made_by n sc.ports) script words all) (sym pid)
          (subst (λ (caps : List ℕ). MakesThenFollows caps script words all) (sym m.whole)
          (makes_on m.made (m.cap ∷ m.more) (asked_of t) (answered (step.Make m.cap) None ∷ tail) script words m.makes (refl, end.2)));
      shows = m.shows;
    }

-- a process that asked nothing is at the beginning of its script
blank_comes : (sc : ScenarioData) (name : Name) (k : ℕ) → HasCome sc (blank_seat name k)
blank_comes sc name k script at =
    let end = can_make (made_by k sc.ports) script (words_of_process sc.seed k) in (
      end.0,
      record {
        reply = None;
        more = end.1;
        follows =
            subst (λ (zs : List Asked). FollowsScript sc k script (steps_asked zs ++ answered end.0 None ∷ end.1)) (sym (asked-nil k name.terms.head)) end.2;
      },
      λ is_step. inl refl,
    )

-- a run that ends where a make was refused
pub makes_end : (name : Name) (sc : ScenarioData) (s t : SeatView) (others : List SeatView) (f : Fault) (told : RunFault) → AreSeats name 0 (s ∷ others)
    → Onward s t → MakesStopped sc.ports t f → (f ≡ fault.NoMemory → told ≡ run.NoMemory)
    → HaveEnded sc name (map (λ s. s.pid) (s ∷ others)) (t ∷ others) (Some told)
makes_end name sc s t others f told h on m memory_told =
    let ss : List SeatView = s ∷ others in
    let some : 0 < length ss = omega arith in
    let kept = first_kept name ss s t h some on in
    let make = step.Make m.cap in
    let stop = λ (script : List ScriptStep). makes_stop_at sc t script f kept.1 m in
    let come : (script : List ScriptStep) → ComesTo sc t.pid.0 script (asked_of t) make =
    λ script. stop_comes sc t.pid.0 script t t make f (stop script) refl in
    let stays = own_no_exit t (stop_no_exit sc t.pid.0 [] t make f (stop [])) in
    record {
      pids = λ i. on.pid i ∷ map (λ s. s.pid) others;
      hubs = all_but_first (λ s. s.hub ≡ name) name ss t h some kept.0 (λ k. refl);
      none = λ e. absurd (let g : ⊥ = cc in g);
      come = λ no_memory.
          all_but_first (HasCome sc) name ss t h some (λ script is. (make, come script, λ is_step. inl stays)) (λ k. blank_comes sc name (1 + k));
      full = λ e. any-set (MeetsLimit sc) ss 0 t some (elim (stop_shows sc t.pid.0 [] t t make f (stop [])
          (record { hub = refl; pid = refl; begins = prefix_self t.seen })) [
            | inl memory ↦ absurd (let other = memory_told memory in let g : ⊥ = cc (e, other) in g)
            | inr shown ↦ record { saw = shown.1; goes_on = λ script is. (make, come script, shown.0) }
          ]);
    }

-- in which nothing was asked but makes
pub makes_show : (name : Name) (sc : ScenarioData) (s t : SeatView) (others : List SeatView) (f : Fault) (told : RunFault) → AreSeats name 0 (s ∷ others)
    → Onward s t → MakesStopped sc.ports t f → ShowPorts sc (t ∷ others) (Some told)
makes_show name sc s t others f told h on m =
    let ss : List SeatView = s ∷ others in
    let some : 0 < length ss = omega arith in
    let kept = first_kept name ss s t h some on in
    inr (
      λ e. let g : ⊥ = cc in g,
      record {
        made = m.made;
        begins = (m.cap ∷ m.more, sym m.whole);
        each = all_but_first (λ s. AreMakes (made_by s.pid.0 m.made) (asked_of s)) name ss t h some
            (subst (λ (n : ℕ). AreMakes (made_by n m.made) (asked_of t)) (sym kept.1) m.makes)
            (λ k. later_makes name.terms.head (1 + k) m.made (omega arith));
      },
    )

-- ---- all threads

any_more : {A : Type 0} (P : A → Type 0) (xs grown : List A) (y : A) → grown ≡ xs ++ y ∷ [] → Any P xs → Any P grown
any_more P xs grown y is h =
    subst (λ zs. Any P zs) (sym is) (h.0, h.1, grind (arith, common_steps, h.2), grind (arith, common_steps, h.2, h.3), h.4)

-- a process that was not stopped by want of memory: if it was stopped, then by the limit
met : (sc : ScenarioData) (s : SeatView) (told : Result (Unit {0}) Fault) → IsOutcome sc s told → told ≢ Err fault.NoMemory → IsErr told
    → MeetsLimit sc s
met sc s (Ok x) out no_memory is = absurd (let g : ⊥ = cc in g)
met sc s (Err f) out no_memory is = elim out.err [
  | inl memory ↦ absurd (no_memory (ap Err memory))
  | inr m ↦ m
]

met_comes : (sc : ScenarioData) (s : SeatView) → MeetsLimit sc s → HasCome sc s
met_comes sc s m script at = let here = m.goes_on script at in (here.0, here.1, λ is_step. inr m.saw)

follows_comes : (sc : ScenarioData) (s : SeatView) → HasFollowed sc s → HasCome sc s
follows_comes sc s f script at =
    (step.Exit, followed_comes sc s.pid.0 script (asked_of s) (f script at), λ is_step. absurd (let g : ⊥ = cc in g))

-- and it has come some way in any case
comes : (sc : ScenarioData) (s : SeatView) (told : Result (Unit {0}) Fault) → IsOutcome sc s told → told ≢ Err fault.NoMemory → HasCome sc s
comes sc s (Ok x) out no_memory = follows_comes sc s out.ok
comes sc s (Err f) out no_memory = met_comes sc s (met sc s (Err f) out no_memory refl)

-- one member more
pub ended_more : (sc : ScenarioData) (name : Name) (pids : List Pid) (seats grown : List SeatView) (s : SeatView) (before after : Option RunFault)
    (told : Result (Unit {0}) Fault) → grown ≡ seats ++ s ∷ [] → HaveEnded sc name pids seats before → s.hub ≡ name → IsOutcome sc s told
    → (after ≡ None → (before ≡ None) × IsOk told)
    → ((before ≡ Some run.NoMemory) ⊎ (told ≡ Err fault.NoMemory) → after ≡ Some run.NoMemory)
    → (after ≡ Some run.JournalFull → (before ≡ Some run.JournalFull) ⊎ IsErr told)
    → HaveEnded sc name (pids ++ s.pid ∷ []) grown after
ended_more sc name pids seats grown s before after told is h hub out none memory full =
    let no_memory : after ≡ Some run.JournalFull → told ≢ Err fault.NoMemory =
    λ e refused. let other = memory (inr refused) in let g : ⊥ = cc (e, other) in g in
    record {
      pids = ap (map (λ s. s.pid)) is ∙ map-append (λ (s : SeatView). s.pid) seats (s ∷ []) ∙ ap (λ (ps : List Pid). ps ++ s.pid ∷ []) h.pids;
      hubs = all_snoc seats grown s (λ s. s.hub ≡ name) is h.hubs hub;
      none = λ e. all_snoc seats grown s (HasFollowed sc) is (h.none (none e).0) (from_ok told (HasFollowed sc s) (none e).1 out.ok);
      come = λ other. all_snoc seats grown s (HasCome sc) is (h.come (λ e. other (memory (inl e)))) (comes sc s told out (λ e. other (memory (inr e))));
      full = λ e. elim (full e) [
        | inl still ↦ any_more (MeetsLimit sc) seats grown s is (h.full still)
        | inr err ↦ subst (λ zs. Any (MeetsLimit sc) zs) (sym is) (Any-push (MeetsLimit sc) seats s (met sc s told out (no_memory e) err))
      ];
    }
