-- When each fault of a scenario file comes, said of what stands in the file. Each cause says that the
-- tests before it passed, so a file has at most one.
use Rattle.std.specs.Prelude.{◌≡◌, ◌≤◌, ◌<◌, ◌⊎◌, ℕ, ℤ, pos, true, List, length, codes, Some, None, IsSome, IfSome, Ok, IsUtf8, slice_get}
use Rattle.std.specs.Option.{IsSomeAnd}
use Rattle.toml.specs.Data.{Data, integer, array, table, Items, get_item, Members, get_member}
use Rattle.toml.specs.Parse.{parse_document}
use Rattle.hub_base.specs.declared.head.Edition.{Edition}
use Rattle.hub_base.specs.declared.limits.TheConstants.{MOST_CAP, MOST_PORTS, MOST_PROCS, MOST_STEPS}
use Rattle.hub_scenario.specs.declared.limits.TheConstants.{MOST_FILE_BYTES, GREATEST_SEED}
use Rattle.hub_scenario.specs.declared.keys.Owner.{Owner}
use Rattle.hub_scenario.specs.declared.keys.Owner.TheVariants.{File, Process}
use Rattle.hub_scenario.specs.declared.fault.ScenarioFault.{ScenarioFault}
use Rattle.hub_scenario.specs.declared.fault.ScenarioFault.TheVariants.{TooLong, BadToml, BadKey, BadSeed, BadLimit}
use Rattle.hub_scenario.specs.declared.fault.ScenarioFault.TheVariants.{BadJournal, BadPorts, BadProcesses, BadScript, NoMemory}
use Rattle.hub_scenario.specs.Firsts.{FirstBadScript, AllSteps}
use Rattle.hub_scenario.specs.Frames.{FrameData, frame_of}
use Rattle.hub_scenario.specs.Keys.{is_key}
use Rattle.hub_scenario.specs.Numbers.{count_items, edition_of}

-- ---- keys and kinds
-- a whole number
abbrev pub IsWhole : Data → Type 0
IsWhole d = (z : ℤ) × (d ≡ integer z)

-- an array
abbrev pub IsArray : Data → Type 0
IsArray d = (ds : Items) × (d ≡ array ds)

-- each element is such
abbrev pub Each : (Data → Type 0) → Items → Type 0
Each Is ds = (i : ℕ) → IfSome (get_item i ds) Is

-- an array of such elements
abbrev pub IsArrayOf : (Data → Type 0) → Data → Type 0
IsArrayOf Is d = (ds : Items) × (d ≡ array ds) × Each Is ds

-- each key of the table is one that such a table may have
abbrev pub HasOnly : Owner → Members → Type 0
HasOnly owner ms = (k : List ℕ) → IsSome (get_member k ms) → is_key owner k ≡ true

-- a process: a table with the one key `steps`, and an array there
abbrev pub IsProcess : Data → Type 0
IsProcess d =
    (ms : Members) × (d ≡ table ms) × HasOnly Process ms
    × IsSomeAnd (get_member (codes "steps") ms) IsArray

-- no unknown key, each key that must stand, and each value of its kind
pub record HasShape (ms : Members) : Type 0 where
  pub keys : HasOnly File ms
  pub seed : IfSome (get_member (codes "seed") ms) IsWhole
  pub limit : IfSome (get_member (codes "limit") ms) IsWhole
  pub journal : IfSome (get_member (codes "journal") ms) IsWhole
  pub ports : IsSomeAnd (get_member (codes "ports") ms) IsArray
  pub process : IsSomeAnd (get_member (codes "process") ms) (IsArrayOf IsProcess)

-- ---- values
-- a number in this range
abbrev pub IsWithin : ℕ → ℕ → ℤ → Type 0
IsWithin least most z = (n : ℕ) × (z ≡ pos n) × (least ≤ n) × (n ≤ most)

-- the number of an edition
abbrev pub IsEdition : ℤ → Type 0
IsEdition z = (z ≡ pos 1) ⊎ (z ≡ pos 2)

abbrev pub IsCapacity : Data → Type 0
IsCapacity d = (z : ℤ) × (d ≡ integer z) × IsWithin 0 MOST_CAP z

-- as many capacities as there may be ports
abbrev pub ArePorts : Items → Type 0
ArePorts ds = (count_items ds ≤ MOST_PORTS) × Each IsCapacity ds

-- a process or more, as many as there may be
abbrev pub AreProcesses : List Items → Type 0
AreProcesses dss = (1 ≤ length dss) × (length dss ≤ MOST_PROCS)

-- ---- the tests passed so far
abbrev pub SeedPasses : Members → FrameData → Type 0
SeedPasses ms f = (frame_of ms ≡ Ok f) × IsWithin 0 GREATEST_SEED f.seed

abbrev pub LimitPasses : Members → FrameData → Type 0
LimitPasses ms f = SeedPasses ms f × IsWithin 1 MOST_STEPS f.limit

abbrev pub JournalPasses : Members → FrameData → Type 0
JournalPasses ms f = LimitPasses ms f × IsEdition f.journal

abbrev pub PortsPass : Members → FrameData → Type 0
PortsPass ms f = JournalPasses ms f × ArePorts f.ports

abbrev pub ProcessesPass : Members → FrameData → Type 0
ProcessesPass ms f = PortsPass ms f × AreProcesses f.process

-- all but the steps, which are read as those of this edition
abbrev pub UpToSteps : Members → FrameData → Edition → Type 0
UpToSteps ms f edition = ProcessesPass ms f × (edition_of f.journal ≡ Some edition)

-- ---- causes
-- why a tree is refused; the first two faults and the last are none of a tree
abbrev pub IsCause : Members → ScenarioFault → Type 0
IsCause ms TooLong = ⊥
IsCause ms BadToml = ⊥
IsCause ms BadKey = ¬ HasShape ms
IsCause ms BadSeed = (f : FrameData) × (frame_of ms ≡ Ok f) × ¬ IsWithin 0 GREATEST_SEED f.seed
IsCause ms BadLimit = (f : FrameData) × SeedPasses ms f × ¬ IsWithin 1 MOST_STEPS f.limit
IsCause ms BadJournal = (f : FrameData) × LimitPasses ms f × ¬ IsEdition f.journal
IsCause ms BadPorts = (f : FrameData) × JournalPasses ms f × ¬ ArePorts f.ports
IsCause ms BadProcesses = (f : FrameData) × PortsPass ms f × ¬ AreProcesses f.process
IsCause ms (BadScript p k) =
    (f : FrameData) × (edition : Edition) × UpToSteps ms f edition × FirstBadScript edition f.process p k
IsCause ms NoMemory = ⊥

-- why the bytes of a file are refused
abbrev pub IsCauseIn : List ℕ → ScenarioFault → Type 0
IsCauseIn bytes TooLong = MOST_FILE_BYTES < length bytes
IsCauseIn bytes BadToml =
    (length bytes ≤ MOST_FILE_BYTES) × (IsUtf8 bytes → parse_document bytes ≡ None)
IsCauseIn bytes e =
    (ms : Members) × (length bytes ≤ MOST_FILE_BYTES) × IsUtf8 bytes
    × (parse_document bytes ≡ Some ms) × IsCause ms e

-- ---- no cause
-- a tree that says a scenario passes each test, and each element of each script is a step
pub record IsSound (ms : Members) (f : FrameData) (edition : Edition) : Type 0 where
  pub shape : HasShape ms
  pub passes : UpToSteps ms f edition
  pub steps : (q : ℕ) → IfSome (slice_get f.process q) (AllSteps edition 0)

-- and so do the bytes of a file
abbrev pub IsSoundIn : List ℕ → Type 0
IsSoundIn bytes =
    (ms : Members) × (f : FrameData) × (edition : Edition) × (length bytes ≤ MOST_FILE_BYTES) × IsUtf8 bytes
    × (parse_document bytes ≡ Some ms) × IsSound ms f edition
