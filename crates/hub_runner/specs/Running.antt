-- The seats of a run, before their processes begin and after they have ended.
use Rattle.std.specs.Prelude.{◌≡◌, ◌≢◌, ◌≤◌, ◌⊎◌, ℕ, false, List, [], ◌∷◌, ◌++◌, Option, None, Some, Result}
use Rattle.std.specs.Prelude.{IfErr, OnOk, All, Any, map, slice_get}
use mathlib.Core.List.{IsPrefix}
use Rattle.hub_base.specs.declared.value.Pid.{Pid}
use Rattle.hub_base.specs.Entry.{Entry, Step}
use Rattle.hub_base.specs.declared.entry.Step.TheVariants as step
use Rattle.hub_base.specs.declared.fault.Fault.{Fault}
use Rattle.hub_base.specs.declared.fault.Fault.TheVariants as fault
use Rattle.hub_base.specs.Reading.{is_exit}
use Rattle.hub_base.specs.Text.{steps_of}
use Rattle.hub_live.specs.Name.{Name}
use Rattle.hub_live.specs.SeatView.{SeatView}
use Rattle.hub_live.specs.Calls.{Shows, entry_of}
use Rattle.hub_scenario.specs.declared.script.ScriptStep.{ScriptStep}
use Rattle.hub_scenario.specs.Scenario.{ScenarioData, run_head}
use Rattle.hub_runner.specs.declared.fault.RunFault.{RunFault}
use Rattle.hub_runner.specs.declared.fault.RunFault.TheVariants as run
use Rattle.hub_laws.specs.Asked.{Asked}
use Rattle.hub_runner.specs.CutShort.{ComesTo}
use Rattle.hub_runner.specs.Ports.{BeginsWithPorts}
use Rattle.hub_runner.specs.Scripts.{FollowsScript, made_by}
use Rattle.hub_runner.specs.Working.{asked_of, has_exited}

-- this was asked: makes of these capacities, and no more
abbrev pub AreMakes : List ℕ → List Asked → Type 0
AreMakes [] [] = Unit {0}
AreMakes [] (a ∷ more) = ⊥
AreMakes (c ∷ cs) [] = ⊥
AreMakes (c ∷ cs) (a ∷ more) = (a.step ≡ step.Make c) × AreMakes cs more

-- a seat of a hub with the scenario's head, whose process has made the ports, if
-- that is its task, and asked nothing else. It has seen that the ports were made first
pub record IsReady (scenario : ScenarioData) (s : SeatView) : Type 0 where
  pub head : s.hub.terms.head ≡ run_head scenario
  pub makes : AreMakes (made_by s.pid.0 scenario.ports) (asked_of s)
  pub ports : BeginsWithPorts scenario s.seen

-- a seat whose process has followed its script
abbrev pub HasFollowed : ScenarioData → SeatView → Type 0
HasFollowed scenario s =
    (script : List ScriptStep) → slice_get scenario.scripts s.pid.0 ≡ Some script →
    FollowsScript scenario s.pid.0 script (asked_of s)

-- ---- where a step was refused

-- the process of a seat made the ports of the first of these capacities and no others, and the make of the next
-- was refused by this fault, as the seat shows
pub record MakesStopped (caps : List ℕ) (s : SeatView) (f : Fault) : Type 0 where
  pub made : List ℕ
  pub cap : ℕ
  pub more : List ℕ
  pub whole : caps ≡ made ++ cap ∷ more
  pub makes : AreMakes made (asked_of s)
  pub shows : Shows s.hub.terms (entry_of s (step.Make cap)) s.seen f

-- the seat has seen a beginning of the journal that is full, and its process had not exited there
pub record SawFull (s : SeatView) : Type 0 where
  pub early : List Entry
  pub begins : IsPrefix early s.seen
  pub full : s.hub.terms.limit ≤ steps_of early
  pub stays : has_exited s.pid.0 early ≡ false

-- a seat whose process has come to some place of its script. Where a step is next there, it has not exited, or
-- not before the journal was full
abbrev pub HasCome : ScenarioData → SeatView → Type 0
HasCome scenario s =
    (script : List ScriptStep) → slice_get scenario.scripts s.pid.0 ≡ Some script →
    (next : Step) × ComesTo scenario s.pid.0 script (asked_of s) next
    × (is_exit next ≡ false → (has_exited s.pid.0 s.seen ≡ false) ⊎ SawFull s)

-- a seat that has seen the journal full, whose process has come to a step
pub record MeetsLimit (scenario : ScenarioData) (s : SeatView) : Type 0 where
  pub saw : SawFull s
  pub goes_on : (script : List ScriptStep) → slice_get scenario.scripts s.pid.0 ≡ Some script →
      (next : Step) × ComesTo scenario s.pid.0 script (asked_of s) next × (is_exit next ≡ false)

-- what a thread told in the end, and its seat: the process has followed its script, or was stopped on the way, by
-- want of memory or by the limit. The seat has seen that the ports were made first
pub record IsOutcome (scenario : ScenarioData) (s : SeatView) (told : Result (Unit {0}) Fault) : Type 0 where
  pub ports : BeginsWithPorts scenario s.seen
  pub ok : OnOk told (HasFollowed scenario s)
  pub err : IfErr told (λ f. (f ≡ fault.NoMemory) ⊎ MeetsLimit scenario s)

-- the seats of a run that has ended, and the fault that it has then, if it has one: the seats are of these
-- processes, in order, and of the hub of this name
pub record HaveEnded
    (scenario : ScenarioData) (name : Name) (processes : List Pid) (seats : List SeatView) (told : Option RunFault) : Type 0 where
  pub pids : map (λ s. s.pid) seats ≡ processes
  pub hubs : All (λ s. s.hub ≡ name) seats
  pub none : told ≡ None → All (HasFollowed scenario) seats
  pub come : told ≢ Some run.NoMemory → All (HasCome scenario) seats
  pub full : told ≡ Some run.JournalFull → Any (MeetsLimit scenario) seats

-- the seats of a run that ended before all ports were made: process 0 made those of the first capacities, and
-- nothing else was asked
pub record OnlyMakes (scenario : ScenarioData) (seats : List SeatView) : Type 0 where
  pub made : List ℕ
  pub begins : IsPrefix made scenario.ports
  pub each : All (λ s. AreMakes (made_by s.pid.0 made) (asked_of s)) seats

-- what the seats of a run that has ended show of the ports: they were made first; or there is a fault, and not
-- all of them were made
abbrev pub ShowPorts : ScenarioData → List SeatView → Option RunFault → Type 0
ShowPorts scenario seats told =
    All (λ s. BeginsWithPorts scenario s.seen) seats ⊎ (told ≢ None) × OnlyMakes scenario seats
