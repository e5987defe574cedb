-- Each fault has its cause.
use Rattle.std.proofs.Common.{◌≡◌, ◌≤◌, ◌<◌, ℕ, ◌∙◌, Bool, true, false, ◌&&◌, nat_le, nat_lt, List, length, Option}
use Rattle.std.proofs.Common.{None, Some, Result, Ok, Err, refl, ap, sym, subst, arith, if◌then◌else◌, IsUtf8}
use Rattle.std.specs.Result.{is_ok}
use Rattle.std.specs.Str.{is_utf8}
use Rattle.std.specs.Cmp.{first_so, second_so}
use Rattle.std.proofs.lemmas.Bool.{false≢true}
use Rattle.std.proofs.lemmas.Bool.Decides.{nat_tests}
use Rattle.std.proofs.lemmas.Str.{IsUtf8-from_is_utf8, is_utf8-from_IsUtf8}
use Rattle.toml.specs.Data.{Items, Members}
use Rattle.toml.specs.Parse.{parse_document}
use Rattle.hub_base.specs.declared.head.Edition.{Edition}
use Rattle.hub_base.specs.declared.limits.TheConstants.{MOST_PROCS, MOST_STEPS}
use Rattle.hub_scenario.specs.declared.limits.TheConstants.{MOST_FILE_BYTES, GREATEST_SEED}
use Rattle.hub_scenario.specs.declared.fault.ScenarioFault.{ScenarioFault}
use Rattle.hub_scenario.specs.declared.fault.ScenarioFault.TheVariants.{TooLong, BadToml, BadKey, BadSeed, BadLimit}
use Rattle.hub_scenario.specs.declared.fault.ScenarioFault.TheVariants.{BadJournal, BadPorts, BadProcesses, BadScript, NoMemory}
use Rattle.hub_scenario.specs.declared.script.ScriptStep.{ScriptStep}
use Rattle.hub_scenario.specs.Causes.{SeedPasses, LimitPasses, JournalPasses, PortsPass, UpToSteps, AreProcesses, IsCause, IsCauseIn, IsSound, IsSoundIn}
use Rattle.hub_scenario.specs.Faults.{must, ◌>>=◌}
use Rattle.hub_scenario.specs.Frames.{FrameData, frame_of}
use Rattle.hub_scenario.specs.Numbers.{within, edition_of, ports_of}
use Rattle.hub_scenario.specs.Scenario.{ScenarioData, scripts_of, values_of, scenario_of, tree_of, reading}
use Rattle.hub_scenario.specs.Scripts.{scripts_from}
use Rattle.hub_scenario.proofs.Firsts.{same_err, first-bad, none-bad}
use Rattle.hub_scenario.proofs.Ranges.{within-some, within-none, edition-some, edition-none, ports-some, ports-none, at_most}
use Rattle.hub_scenario.proofs.Shapes.{fails, shape, no_shape, bad_key}

-- ---- the tests from each one on
abbrev with_scripts : ℕ → ℕ → Edition → List ℕ → Result (List (List ScriptStep)) ScenarioFault → Result ScenarioData ScenarioFault
with_scripts seed limit edition ports r =
    r >>= λ scripts. Ok (record { seed = seed; limit = limit; edition = edition; ports = ports; scripts = scripts })

abbrev after_ports : FrameData → ℕ → ℕ → Edition → List ℕ → Result ScenarioData ScenarioFault
after_ports f seed limit edition ports = with_scripts seed limit edition ports (scripts_of edition f.process)

abbrev after_journal : FrameData → ℕ → ℕ → Edition → Result ScenarioData ScenarioFault
after_journal f seed limit edition = must BadPorts (ports_of f.ports) >>= λ ports. after_ports f seed limit edition ports

abbrev after_limit : FrameData → ℕ → ℕ → Result ScenarioData ScenarioFault
after_limit f seed limit = must BadJournal (edition_of f.journal) >>= λ edition. after_journal f seed limit edition

abbrev after_seed : FrameData → ℕ → Result ScenarioData ScenarioFault
after_seed f seed = must BadLimit (within 1 MOST_STEPS f.limit) >>= λ limit. after_limit f seed limit

-- a cause of the fault that is told
told : {T : Type 0} (ms : Members) (a e : ScenarioFault) (r : Result T ScenarioFault) → r ≡ Err a → r ≡ Err e → IsCause ms a → IsCause ms e
told ms a e r is h cause = subst (IsCause ms) (same_err a e r h is) cause

-- ---- processes and scripts
counted : (dss : List Items) → (nat_le 1 (length dss) && nat_le (length dss) MOST_PROCS) ≡ true → AreProcesses dss
counted dss is = (
  at_most 1 (length dss) (first_so (nat_le 1 (length dss)) (nat_le (length dss) MOST_PROCS) is),
  at_most (length dss) MOST_PROCS (second_so (nat_le 1 (length dss)) (nat_le (length dss) MOST_PROCS) is),
)

not_counted : (dss : List Items) → (nat_le 1 (length dss) && nat_le (length dss) MOST_PROCS) ≡ false → AreProcesses dss → ⊥
not_counted dss is (low, high) = grind (arith, nat_tests)

script-case : (ms : Members) (f : FrameData) (edition : Edition) (e : ScenarioFault) → UpToSteps ms f edition
    → scripts_from edition 0 f.process ≡ Err e → IsCause ms e
script-case ms f edition e passes h =
    let (q, k, is, first) = first-bad edition f.process e h in subst (IsCause ms) (sym is) (f, edition, passes, first)

scripts-case : (ms : Members) (f : FrameData) (edition : Edition) (e : ScenarioFault) (b : Bool) → PortsPass ms f → edition_of f.journal ≡ Some edition
    → (nat_le 1 (length f.process) && nat_le (length f.process) MOST_PROCS) ≡ b
    → (if b then scripts_from edition 0 f.process else Err BadProcesses) ≡ Err e → IsCause ms e
scripts-case ms f edition e false passes numbered is h = told ms BadProcesses e _ refl h (f, passes, not_counted f.process is)
scripts-case ms f edition e true passes numbered is h = script-case ms f edition e ((passes, counted f.process is), numbered) h

with_scripts-err : (seed limit : ℕ) (edition : Edition) (ports : List ℕ) (r : Result (List (List ScriptStep)) ScenarioFault) (e : ScenarioFault)
    → with_scripts seed limit edition ports r ≡ Err e → r ≡ Err e
with_scripts-err seed limit edition ports (Ok ss) e h = absurd (false≢true (sym (ap is_ok h)))
with_scripts-err seed limit edition ports (Err a) e h = ap Err (same_err a e _ h refl)

-- ---- the values
ports-case : (ms : Members) (f : FrameData) (e : ScenarioFault) (seed limit : ℕ) (edition : Edition) (o : Option (List ℕ)) → JournalPasses ms f
    → edition_of f.journal ≡ Some edition → ports_of f.ports ≡ o
    → (must BadPorts o >>= λ ports. after_ports f seed limit edition ports) ≡ Err e → IsCause ms e
ports-case ms f e seed limit edition None passes numbered is h = told ms BadPorts e _ refl h (f, passes, ports-none f.ports is)
ports-case ms f e seed limit edition (Some ports) passes numbered is h =
    scripts-case ms f edition e (nat_le 1 (length f.process) && nat_le (length f.process) MOST_PROCS) (passes, ports-some f.ports ports is) numbered refl
    (with_scripts-err seed limit edition ports (scripts_of edition f.process) e h)

journal-case : (ms : Members) (f : FrameData) (e : ScenarioFault) (seed limit : ℕ) (o : Option Edition) → LimitPasses ms f → edition_of f.journal ≡ o
    → (must BadJournal o >>= λ edition. after_journal f seed limit edition) ≡ Err e → IsCause ms e
journal-case ms f e seed limit None passes is h = told ms BadJournal e _ refl h (f, passes, edition-none f.journal is)
journal-case ms f e seed limit (Some edition) passes is h =
    ports-case ms f e seed limit edition (ports_of f.ports) (passes, edition-some f.journal edition is) is refl h

limit-case : (ms : Members) (f : FrameData) (e : ScenarioFault) (seed : ℕ) (o : Option ℕ) → SeedPasses ms f → within 1 MOST_STEPS f.limit ≡ o
    → (must BadLimit o >>= λ limit. after_limit f seed limit) ≡ Err e → IsCause ms e
limit-case ms f e seed None passes is h = told ms BadLimit e _ refl h (f, passes, within-none 1 MOST_STEPS f.limit is)
limit-case ms f e seed (Some limit) passes is h =
    journal-case ms f e seed limit (edition_of f.journal) (passes, within-some 1 MOST_STEPS f.limit limit is) refl h

seed-case : (ms : Members) (f : FrameData) (e : ScenarioFault) (o : Option ℕ) → frame_of ms ≡ Ok f → within 0 GREATEST_SEED f.seed ≡ o
    → (must BadSeed o >>= λ seed. after_seed f seed) ≡ Err e → IsCause ms e
seed-case ms f e None framed is h = told ms BadSeed e _ refl h (f, framed, within-none 0 GREATEST_SEED f.seed is)
seed-case ms f e (Some seed) framed is h =
    limit-case ms f e seed (within 1 MOST_STEPS f.limit) (framed, within-some 0 GREATEST_SEED f.seed seed is) refl h

frame-case : (ms : Members) (e : ScenarioFault) (r : Result FrameData ScenarioFault) → frame_of ms ≡ r → (r >>= values_of) ≡ Err e → IsCause ms e
frame-case ms e (Ok f) is h = seed-case ms f e (within 0 GREATEST_SEED f.seed) is refl h
frame-case ms e (Err a) is h =
    told ms a e _ refl h (subst (IsCause ms) (bad_key ms a is) (no_shape ms a is))

-- why a tree is refused
pub cause : (ms : Members) (e : ScenarioFault) → scenario_of ms ≡ Err e → IsCause ms e
cause ms e h = frame-case ms e (frame_of ms) refl h

-- ---- the bytes
long : (bytes : List ℕ) → nat_lt MOST_FILE_BYTES (length bytes) ≡ true → MOST_FILE_BYTES < length bytes
long bytes h = grind (arith, nat_tests)

not_long : (bytes : List ℕ) → nat_lt MOST_FILE_BYTES (length bytes) ≡ false → length bytes ≤ MOST_FILE_BYTES
not_long bytes h = grind (arith, nat_tests)

told_in : {T : Type 0} (bytes : List ℕ) (a e : ScenarioFault) (r : Result T ScenarioFault) → r ≡ Err a → r ≡ Err e → IsCauseIn bytes a → IsCauseIn bytes e
told_in bytes a e r is h why = subst (IsCauseIn bytes) (same_err a e r h is) why

-- the cause of a tree is one of its bytes
of_tree : (bytes : List ℕ) (ms : Members) (e : ScenarioFault) → length bytes ≤ MOST_FILE_BYTES → IsUtf8 bytes → parse_document bytes ≡ Some ms
    → IsCause ms e → IsCauseIn bytes e
of_tree bytes ms TooLong short utf8 is why = absurd why
of_tree bytes ms BadToml short utf8 is why = absurd why
of_tree bytes ms BadKey short utf8 is why = (ms, short, utf8, is, why)
of_tree bytes ms BadSeed short utf8 is why = (ms, short, utf8, is, why)
of_tree bytes ms BadLimit short utf8 is why = (ms, short, utf8, is, why)
of_tree bytes ms BadJournal short utf8 is why = (ms, short, utf8, is, why)
of_tree bytes ms BadPorts short utf8 is why = (ms, short, utf8, is, why)
of_tree bytes ms BadProcesses short utf8 is why = (ms, short, utf8, is, why)
of_tree bytes ms (BadScript p k) short utf8 is why = (ms, short, utf8, is, why)
of_tree bytes ms NoMemory short utf8 is why = absurd why

tree-case : (bytes : List ℕ) (e : ScenarioFault) (b : Bool) (o : Option Members) → length bytes ≤ MOST_FILE_BYTES → is_utf8 bytes ≡ b
    → parse_document bytes ≡ o → ((if b then must BadToml o else Err BadToml) >>= scenario_of) ≡ Err e → IsCauseIn bytes e
tree-case bytes e false o short utf8 is h =
    told_in bytes BadToml e _ refl h (short, λ u. absurd (false≢true (sym utf8 ∙ is_utf8-from_IsUtf8 bytes u)))
tree-case bytes e true None short utf8 is h = told_in bytes BadToml e _ refl h (short, λ u. is)
tree-case bytes e true (Some ms) short utf8 is h =
    of_tree bytes ms e short (IsUtf8-from_is_utf8 bytes utf8) is (cause ms e h)

long-case : (bytes : List ℕ) (e : ScenarioFault) (b : Bool) → nat_lt MOST_FILE_BYTES (length bytes) ≡ b
    → (if b then Err TooLong else tree_of bytes >>= scenario_of) ≡ Err e → IsCauseIn bytes e
long-case bytes e true is h = told_in bytes TooLong e _ refl h (long bytes is)
long-case bytes e false is h =
    tree-case bytes e (is_utf8 bytes) (parse_document bytes) (not_long bytes is) refl refl h

-- why bytes are refused
pub cause_in : (bytes : List ℕ) (e : ScenarioFault) → reading bytes ≡ Err e → IsCauseIn bytes e
cause_in bytes e h = long-case bytes e (nat_lt MOST_FILE_BYTES (length bytes)) refl h

-- ---- a file that is read
-- the frame and the edition of a tree that passes each test
abbrev Sound : Members → Type 0
Sound ms = (f : FrameData) × (edition : Edition) × IsSound ms f edition

with_scripts-ok : (seed limit : ℕ) (edition : Edition) (ports : List ℕ) (r : Result (List (List ScriptStep)) ScenarioFault) (s : ScenarioData)
    → with_scripts seed limit edition ports r ≡ Ok s → (all : List (List ScriptStep)) × (r ≡ Ok all)
with_scripts-ok seed limit edition ports (Ok all) s h = (all, refl)
with_scripts-ok seed limit edition ports (Err a) s h = absurd (fails s a h)

sound_scripts-case : (ms : Members) (f : FrameData) (edition : Edition) (all : List (List ScriptStep)) (b : Bool)
    → PortsPass ms f → edition_of f.journal ≡ Some edition → (nat_le 1 (length f.process) && nat_le (length f.process) MOST_PROCS) ≡ b
    → (if b then scripts_from edition 0 f.process else Err BadProcesses) ≡ Ok all → Sound ms
sound_scripts-case ms f edition all false passes numbered is h = absurd (fails all BadProcesses h)
sound_scripts-case ms f edition all true passes numbered is h = (
  f,
  edition,
  record {
    shape = shape ms f passes.0.0.0.0;
    passes = ((passes, counted f.process is), numbered);
    steps = none-bad edition f.process all h;
  },
)

sound_ports-case : (ms : Members) (f : FrameData) (s : ScenarioData) (seed limit : ℕ) (edition : Edition) (o : Option (List ℕ)) → JournalPasses ms f
    → edition_of f.journal ≡ Some edition → ports_of f.ports ≡ o
    → (must BadPorts o >>= λ ports. after_ports f seed limit edition ports) ≡ Ok s → Sound ms
sound_ports-case ms f s seed limit edition None passes numbered is h = absurd (fails s BadPorts h)
sound_ports-case ms f s seed limit edition (Some ports) passes numbered is h =
    let (all, read) = with_scripts-ok seed limit edition ports (scripts_of edition f.process) s h in
    sound_scripts-case ms f edition all (nat_le 1 (length f.process) && nat_le (length f.process) MOST_PROCS) (passes, ports-some f.ports ports is)
    numbered refl read

sound_journal-case : (ms : Members) (f : FrameData) (s : ScenarioData) (seed limit : ℕ) (o : Option Edition) → LimitPasses ms f
    → edition_of f.journal ≡ o → (must BadJournal o >>= λ edition. after_journal f seed limit edition) ≡ Ok s → Sound ms
sound_journal-case ms f s seed limit None passes is h = absurd (fails s BadJournal h)
sound_journal-case ms f s seed limit (Some edition) passes is h =
    sound_ports-case ms f s seed limit edition (ports_of f.ports) (passes, edition-some f.journal edition is) is refl h

sound_limit-case : (ms : Members) (f : FrameData) (s : ScenarioData) (seed : ℕ) (o : Option ℕ) → SeedPasses ms f → within 1 MOST_STEPS f.limit ≡ o
    → (must BadLimit o >>= λ limit. after_limit f seed limit) ≡ Ok s → Sound ms
sound_limit-case ms f s seed None passes is h = absurd (fails s BadLimit h)
sound_limit-case ms f s seed (Some limit) passes is h =
    sound_journal-case ms f s seed limit (edition_of f.journal) (passes, within-some 1 MOST_STEPS f.limit limit is) refl h

sound_seed-case : (ms : Members) (f : FrameData) (s : ScenarioData) (o : Option ℕ) → frame_of ms ≡ Ok f → within 0 GREATEST_SEED f.seed ≡ o
    → (must BadSeed o >>= λ seed. after_seed f seed) ≡ Ok s → Sound ms
sound_seed-case ms f s None framed is h = absurd (fails s BadSeed h)
sound_seed-case ms f s (Some seed) framed is h =
    sound_limit-case ms f s seed (within 1 MOST_STEPS f.limit) (framed, within-some 0 GREATEST_SEED f.seed seed is) refl h

sound_frame-case : (ms : Members) (s : ScenarioData) (r : Result FrameData ScenarioFault) → frame_of ms ≡ r → (r >>= values_of) ≡ Ok s → Sound ms
sound_frame-case ms s (Ok f) is h = sound_seed-case ms f s (within 0 GREATEST_SEED f.seed) is refl h
sound_frame-case ms s (Err a) is h = absurd (fails s a h)

sound_tree-case : (bytes : List ℕ) (s : ScenarioData) (b : Bool) (o : Option Members) → length bytes ≤ MOST_FILE_BYTES → is_utf8 bytes ≡ b
    → parse_document bytes ≡ o → ((if b then must BadToml o else Err BadToml) >>= scenario_of) ≡ Ok s → IsSoundIn bytes
sound_tree-case bytes s false o short utf8 is h = absurd (fails s BadToml h)
sound_tree-case bytes s true None short utf8 is h = absurd (fails s BadToml h)
sound_tree-case bytes s true (Some ms) short utf8 is h =
    let (f, edition, sound) = sound_frame-case ms s (frame_of ms) refl h in
    (ms, f, edition, short, IsUtf8-from_is_utf8 bytes utf8, is, sound)

sound_long-case : (bytes : List ℕ) (s : ScenarioData) (b : Bool) → nat_lt MOST_FILE_BYTES (length bytes) ≡ b
    → (if b then Err TooLong else tree_of bytes >>= scenario_of) ≡ Ok s → IsSoundIn bytes
sound_long-case bytes s true is h = absurd (fails s TooLong h)
sound_long-case bytes s false is h =
    sound_tree-case bytes s (is_utf8 bytes) (parse_document bytes) (not_long bytes is) refl refl h

-- bytes that are read pass each test
pub sound_in : (bytes : List ℕ) (s : ScenarioData) → reading bytes ≡ Ok s → IsSoundIn bytes
sound_in bytes s h = sound_long-case bytes s (nat_lt MOST_FILE_BYTES (length bytes)) refl h
