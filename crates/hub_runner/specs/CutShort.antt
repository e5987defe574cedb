-- How far a process has come in its script, and the journal of a run that its limit cuts short.
--
-- An exit is no step. In a legal journal it is the last entry of its process, so that what a process asked, exits
-- left aside, is all that it asked before its exit.
use Rattle.std.specs.Prelude.{◌≡◌, ◌⊎◌, ℕ, true, false, not, List, ◌∷◌, ◌++◌, Option, Some, filter, slice_get}
use mathlib.Core.List.{IsPrefix}
use Rattle.hub_base.specs.Entry.{Entry, Step}
use Rattle.hub_base.specs.declared.event.Event.{Event}
use Rattle.hub_base.specs.Reading.{is_exit}
use Rattle.hub_base.specs.Text.{steps_of}
use Rattle.hub_laws.specs.Journals.{IsLegal}
use Rattle.hub_scenario.specs.declared.script.ScriptStep.{ScriptStep}
use Rattle.hub_scenario.specs.Scenario.{ScenarioData, run_head}
use Rattle.hub_laws.specs.Asked.{Asked, asked}
use Rattle.hub_runner.specs.Ports.{makes_of, BeginsWithPorts}
use Rattle.hub_runner.specs.Scripts.{FollowsScript}

-- ---- one process

-- what was asked, exits left aside
abbrev pub steps_asked : List Asked → List Asked
steps_asked all = filter (λ a. not (is_exit a.step)) all

-- process q has come to this place of its script: the steps that it asked, and then `next`, are a beginning of
-- something that follows the script
pub record ComesTo (s : ScenarioData) (q : ℕ) (script : List ScriptStep) (all : List Asked) (next : Step) : Type 0 where
  pub reply : Option Event
  pub more : List Asked
  pub follows : FollowsScript s q script (steps_asked all ++ record { step = next; reply = reply } ∷ more)

-- no step stands behind an exit of process q
abbrev pub LeavesLast : ℕ → List Entry → Type 0
LeavesLast q journal =
    (before : List Entry) (e : Entry) (after : List Entry) → journal ≡ before ++ e ∷ after →
    e.pid.0 ≡ q → is_exit e.step ≡ true → steps_of after ≡ 0

-- ---- all processes

-- in the journal each process has come to some place of its script. Where a step is next there, it exits no
-- earlier than all steps are made
abbrev pub AllCome : ScenarioData → List Entry → Type 0
AllCome s journal =
    (q : ℕ) (script : List ScriptStep) → slice_get s.scripts q ≡ Some script →
    (next : Step) × ComesTo s q script (asked q (run_head s) journal) next
    × (is_exit next ≡ false → LeavesLast q journal)

-- in the journal a process has come to a place of its script where a step is next, and no exit
pub record OneGoesOn (s : ScenarioData) (journal : List Entry) : Type 0 where
  pub q : ℕ
  pub script : List ScriptStep
  pub of : slice_get s.scripts q ≡ Some script
  pub next : Step
  pub comes : ComesTo s q script (asked q (run_head s) journal) next
  pub is_step : is_exit next ≡ false

-- the limit cuts a run short in this journal, which is legal: it has as many steps as the limit allows, the
-- processes made them as their scripts say, and one of them has a step to make still. The ports are made first;
-- where not all of them are, there is nothing else in it
pub record IsCutShort (s : ScenarioData) (journal : List Entry) : Type 0 where
  pub legal : IsLegal (run_head s) journal
  pub ports : BeginsWithPorts s journal ⊎ IsPrefix journal (makes_of s)
  pub full : steps_of journal ≡ s.limit
  pub each : AllCome s journal
  pub one : OneGoesOn s journal
