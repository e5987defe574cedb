-- The one journal of a run that its limit cuts short.
use Rattle.std.proofs.Common.{◌≡◌, ◌≢◌, ℕ, ◌<◌, ◌≤◌, ◌==◌, ◌||◌, ◌⊎◌, inl, inr, Bool, true, false, List, [], ◌∷◌, ◌++◌, length, get_or, map, refl, ap}
use Rattle.std.proofs.Common.{◌∙◌, subst, Option, None, Some, All, arith}
use Rattle.std.specs.List.{list_any}
use Rattle.std.proofs.lemmas.List.{length-map}
use Rattle.std.proofs.lemmas.List.Elements.{filter-append}
use Rattle.std.proofs.lemmas.List.Folds.{list_any-append}
use Rattle.std.proofs.lemmas.Option.{slice_get-get_or}
use Rattle.std.proofs.lemmas.Grind.{common_steps}
use mathlib.Core.List.{IsPrefix}
use Rattle.hub_base.specs.declared.head.Head.{Head}
use Rattle.hub_base.specs.Entry.{Entry, Step}
use Rattle.hub_base.specs.Journal.{JournalView}
use Rattle.hub_base.specs.Reading.{is_exit}
use Rattle.hub_base.specs.Text.{steps_of}
use Rattle.hub_laws.specs.Journals.{IsLegal}
use Rattle.hub_laws.specs.Replies.{own}
use Rattle.hub_live.specs.Name.{Name}
use Rattle.hub_live.specs.SeatView.{SeatView}
use Rattle.hub_live.specs.Calls.{AreSeats, StandsIn, EndsIn}
use Rattle.hub_base.proofs.Lists.{prefix_trans}
use Rattle.hub_scenario.specs.Scenario.{ScenarioData, run_head}
use Rattle.hub_runner.specs.declared.fault.RunFault.{RunFault}
use Rattle.hub_runner.specs.declared.fault.RunFault.TheVariants as run
use Rattle.hub_laws.specs.Asked.{asked}
use Rattle.hub_runner.specs.CutShort.{ComesTo, LeavesLast, AllCome, OneGoesOn, IsCutShort}
use Rattle.hub_runner.specs.Ports.{makes_of, BeginsWithPorts}
use Rattle.hub_runner.specs.Running.{AreMakes, SawFull, HasCome, MeetsLimit, HaveEnded, ShowPorts}
use Rattle.hub_runner.specs.Scripts.{made_by}
use Rattle.hub_runner.specs.Working.{asked_of, has_exited}
use Rattle.hub_base.proofs.StepCounts.{steps-append}
use Rattle.hub_runner.proofs.Stops.{steps_grow}
use Rattle.hub_runner.proofs.Ports.{asked_none, makes_begin, no_makes, only_makes, ports_first}
use Rattle.hub_runner.proofs.Beginnings.{made_by_none}
use Rattle.hub_runner.proofs.Runs.{in_journal, pid_at, all_processes}

-- ---- exits

-- an entry behind a beginning of the list, or in it
placed : {A : Type 0} (early rest before after : List A) (e : A) → early ++ rest ≡ before ++ e ∷ after
    → IsPrefix early before ⊎ ((middle : List A) × (early ≡ before ++ e ∷ middle))
placed [] rest before after e is = inl (before, refl)
placed (x ∷ early) rest [] after e is = let here : x ≡ e = cc in inr (early, ap (λ y. y ∷ early) here)
placed (x ∷ early) rest (y ∷ before) after e is =
    let here : x ≡ y = cc in
    let later : early ++ rest ≡ before ++ e ∷ after = cc in
    elim (placed early rest before after e later) [
      | inl p ↦ inl (p.0, (λ i. here i ∷ p.1 i))
      | inr p ↦ inr (p.0, (λ i. here i ∷ p.1 i))
    ]

or_true : (b : Bool) → (b || true) ≡ true
or_true true = refl
or_true false = refl

-- where it is an exit of process q, the process has exited there
exit_among : (q : ℕ) (before after : List Entry) (e : Entry) → e.pid.0 ≡ q → is_exit e.step ≡ true → has_exited q (before ++ e ∷ after) ≡ true
exit_among q before after e of is =
    let here : (e.pid.0 == q) ≡ true = grind (arith, of, common_steps) in
    let there : own q (before ++ e ∷ after) ≡ own q before ++ e ∷ own q after =
    filter-append (λ (e : Entry). e.pid.0 == q) before (e ∷ after)
    ∙ ap (λ (es : List Entry). own q before ++ es) (rw here refl) in
    ap (list_any (λ e. is_exit e.step)) there ∙ list_any-append (λ (e : Entry). is_exit e.step) (own q before) (e ∷ own q after)
    ∙ rw is (or_true (has_exited q before))

-- a process that exited in the full journal alone leaves no step behind its exit
leaves_last : (s : SeatView) (journal : List Entry) → StandsIn s journal → steps_of journal ≤ s.hub.terms.limit
    → (has_exited s.pid.0 s.seen ≡ false) ⊎ SawFull s → LeavesLast s.pid.0 journal
leaves_last s journal st few late before e after whole of is =
    let exited : has_exited s.pid.0 journal ≡ true = ap (has_exited s.pid.0) whole ∙ exit_among s.pid.0 before after e of is in
    elim late [
      | inl never ↦
          let same : has_exited s.pid.0 journal ≡ has_exited s.pid.0 s.seen = ap (list_any (λ e. is_exit e.step)) st.same.own in
          absurd (let g : ⊥ = cc in g)
      | inr saw ↦
          let begins = prefix_trans saw.early s.seen journal saw.begins st.begins in
          elim (placed saw.early begins.0 before after e (begins.1 ∙ whole)) [
            | inl p ↦ omega (
              arith,
              few,
              saw.full,
              steps_grow saw.early before p,
              ap steps_of whole,
              steps-append before (e ∷ after),
            )
            | inr p ↦
                let early : has_exited s.pid.0 saw.early ≡ true = ap (has_exited s.pid.0) p.1 ∙ exit_among s.pid.0 before p.0 e of is in
                let stays = saw.stays in
                absurd (let g : ⊥ = cc in g)
          ]
    ]

-- ---- processes

-- one process met the limit: in the journal it has come to a step
one_goes_on : (sc : ScenarioData) (s : SeatView) (journal : List Entry) → s.hub.terms.head ≡ run_head sc → s.pid.0 < length sc.scripts
    → MeetsLimit sc s → StandsIn s journal → OneGoesOn sc journal
one_goes_on sc s journal head low m st =
    let at = slice_get-get_or sc.scripts s.pid.0 [] low in
    let script = get_or sc.scripts s.pid.0 [] in
    let here = m.goes_on script at in
    record {
      q = s.pid.0;
      script = script;
      of = at;
      next = here.0;
      comes = in_journal (λ all. ComesTo sc s.pid.0 script all here.0) sc s journal head st here.1;
      is_step = here.2;
    }

all_come : (name : Name) (sc : ScenarioData) (before done : List SeatView) (journal : List Entry)
    → name.terms.head ≡ run_head sc → length before ≡ length sc.scripts → AreSeats name 0 before → map (λ s. s.pid) done ≡ map (λ s. s.pid) before
    → All (λ s. s.hub ≡ name) done → All (HasCome sc) done → All (λ s. StandsIn s journal) done → steps_of journal ≤ name.terms.limit → AllCome sc journal
all_come name sc before done journal head many seats pids hubs come stands few =
    all_processes
    (λ s script. (next : Step) × ComesTo sc s.pid.0 script (asked_of s) next
    × (is_exit next ≡ false → (has_exited s.pid.0 s.seen ≡ false) ⊎ SawFull s))
    (λ q script. (next : Step) × ComesTo sc q script (asked q (run_head sc) journal) next × (is_exit next ≡ false → LeavesLast q journal))
    name sc before done journal many seats pids hubs stands come
    (λ s script hub st h. (
      h.0,
      in_journal (λ all. ComesTo sc s.pid.0 script all h.0) sc s journal (ap (λ (m : Name). m.terms.head) hub ∙ head) st h.1,
      λ is_step. leaves_last s journal st (omega (arith, few, ap (λ (m : Name). m.terms.limit) hub)) (h.2 is_step),
    ))

-- the ports are made first, where the seats of all its processes say so; or nothing else is
pub shows_ports : (name : Name) (sc : ScenarioData) (before done : List SeatView) (journal : JournalView) (told : Option RunFault)
    → name.terms.head ≡ run_head sc → length before ≡ length sc.scripts → 0 < length before → AreSeats name 0 before
    → HaveEnded sc name (map (λ s. s.pid) before) done told → EndsIn name done journal → ShowPorts sc done told
    → BeginsWithPorts sc journal.entries ⊎ (told ≢ None) × IsPrefix journal.entries (makes_of sc)
shows_ports name sc before done journal told head many some seats h ends shown =
    let h_some : 0 < length done =
    omega (arith, length-map done (λ (s : SeatView). s.pid), ap length h.pids, length-map before (λ (s : SeatView). s.pid)) in
    elim shown [
      | inl ports ↦ inl (ports_first sc done journal.entries h_some ports ends.seats)
      | inr only ↦
          let made = only.1.made in
          let asks : (q : ℕ) → q < length sc.scripts → AreMakes (made_by q made) (asked q (run_head sc) journal.entries) =
          λ q low. all_processes
          (λ s script. AreMakes (made_by s.pid.0 made) (asked_of s))
          (λ q script. AreMakes (made_by q made) (asked q (run_head sc) journal.entries))
          name sc before done journal.entries many seats h.pids h.hubs ends.seats (λ k d below script at. only.1.each k d below)
          (λ s script hub st makes.
          in_journal (AreMakes (made_by s.pid.0 made)) sc s journal.entries (ap (λ (m : Name). m.terms.head) hub ∙ head) st makes)
          q (get_or sc.scripts q []) (slice_get-get_or sc.scripts q [] low) in
          let legal : IsLegal (run_head sc) journal.entries = subst (λ (hd : Head). IsLegal hd journal.entries) (ends.head ∙ head) ends.legal in
          inr (
            only.0,
            makes_begin sc made journal.entries only.1.begins (only_makes (run_head sc) made journal.entries legal (asks 0 (omega arith))
                (λ q more low. asked_none q (run_head sc) journal.entries (no_makes (asked q (run_head sc) journal.entries)
                (subst (λ (caps : List ℕ). AreMakes caps (asked q (run_head sc) journal.entries)) (made_by_none q made more) (asks q low))))),
          )
    ]

pub all_ports : (name : Name) (sc : ScenarioData) (before done : List SeatView) (journal : JournalView) (told : Option RunFault) → told ≡ None
    → name.terms.head ≡ run_head sc → length before ≡ length sc.scripts → 0 < length before → AreSeats name 0 before
    → HaveEnded sc name (map (λ s. s.pid) before) done told → EndsIn name done journal → ShowPorts sc done told
    → BeginsWithPorts sc journal.entries
all_ports name sc before done journal told ok head many some seats h ends shown =
    elim (shows_ports name sc before done journal told head many some seats h ends shown) [
      | inl ports ↦ ports
      | inr only ↦ absurd (only.0 ok)
    ]

-- the limit cut the run short, where the seats of all its processes say so
pub cut_short : (name : Name) (sc : ScenarioData) (before done : List SeatView) (journal : JournalView) (told : Option RunFault)
    → name.terms.head ≡ run_head sc → name.terms.limit ≡ sc.limit → length before ≡ length sc.scripts → AreSeats name 0 before
    → HaveEnded sc name (map (λ s. s.pid) before) done told → EndsIn name done journal → ShowPorts sc done told → told ≡ Some run.JournalFull
    → IsCutShort sc journal.entries
cut_short name sc before done journal told head limit many seats h ends shown full =
    let met = h.full full in
    let s = met.1 in
    let saw = met.4.saw in
    let of_place : get_or done met.0 s ≡ s = met.3 in
    let st : StandsIn s journal.entries = subst (λ (z : SeatView). StandsIn z journal.entries) of_place (ends.seats met.0 s met.2) in
    let hub : s.hub ≡ name = subst (λ (z : SeatView). z.hub ≡ name) of_place (h.hubs met.0 s met.2) in
    let pid : s.pid.0 ≡ met.0 = subst (λ (z : SeatView). z.pid.0 ≡ met.0) of_place (pid_at name before done met.0 s seats h.pids met.2) in
    let low : s.pid.0 < length sc.scripts =
    omega (arith, length-map done (λ (s : SeatView). s.pid), ap length h.pids, length-map before (λ (s : SeatView). s.pid)) in
    let same_head : s.hub.terms.head ≡ run_head sc = ap (λ (m : Name). m.terms.head) hub ∙ head in
    let begins = prefix_trans saw.early s.seen journal.entries saw.begins st.begins in
    let no_memory : told ≢ Some run.NoMemory = λ e. let g : ⊥ = cc in g in
    record {
      legal = subst (λ (hd : Head). IsLegal hd journal.entries) (ends.head ∙ head) ends.legal;
      ports = elim (shows_ports name sc before done journal told head many (omega (arith, low)) seats h ends shown) [
        | inl ports ↦ inl ports
        | inr only ↦ inr only.1
      ];
      full = omega (arith, ends.few, limit, saw.full, ap (λ (m : Name). m.terms.limit) hub, steps_grow saw.early journal.entries begins);
      each = all_come name sc before done journal.entries head many seats h.pids h.hubs (h.come no_memory) ends.seats ends.few;
      one = one_goes_on sc s journal.entries same_head low met.4 st;
    }
