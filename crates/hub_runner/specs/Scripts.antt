-- What it is that a process follows its script.
--
-- Process 0 makes the ports first. Then come the entries of the script's steps, in order: one for each
-- step, and for a range so many receives that the last of them is the first whose reply is no value.
-- Each select takes the next choice word of its process. Last comes an exit. Where a reply is
-- `Stalled`, the rest of the script is left out and the exit follows at once.
use Rattle.std.specs.Prelude.{◌≡◌, ℕ, ◌+◌, ◌==◌, ◌&&◌, Bool, true, false, List, [], ◌∷◌, Option, None, Some, is_some, slice_get, if◌then◌else◌}
use Rattle.hub_base.specs.declared.case.Case.TheVariants as case
use Rattle.hub_base.specs.Entry.{Entry, Step}
use Rattle.hub_base.specs.declared.entry.Step.TheVariants as step
use Rattle.hub_base.specs.declared.event.Event.{Event}
use Rattle.hub_base.specs.declared.event.What.{What}
use Rattle.hub_base.specs.Lines.{call}
use Rattle.hub_laws.specs.Received.{value_got}
use Rattle.hub_runner.specs.Reports.{is_stalled}
use Rattle.hub_scenario.specs.declared.script.ScriptStep.{ScriptStep}
use Rattle.hub_scenario.specs.declared.script.ScriptStep.TheVariants.{Send, Recv, Select, Close, Range}
use Rattle.hub_scenario.specs.Scenario.{ScenarioData, run_head}
use Rattle.hub_scenario.specs.ChoiceWords.{words_of_process}
use Rattle.hub_laws.specs.Asked.{Asked, asked}

-- ---- replies

-- the process is told that it got a value
abbrev pub gets : What → Bool
gets what = is_some (value_got what)

-- whether there is a reply, and it is such
abbrev pub is_told : (What → Bool) → Option Event → Bool
is_told test None = false
is_told test (Some x) = test x.what

-- ---- one step of a script

-- what it asks, where the next choice word of the process is this one
abbrev pub asks : ScriptStep → ℕ → Step
asks (Send p v) word = call (case.Send p v ∷ []) false 0
asks (Recv p) word = call (case.Recv p ∷ []) false 0
asks (Select cases default) word = step.Call cases default word
asks (Close p) word = step.Close p
asks (Range p) word = call (case.Recv p ∷ []) false 0

-- how many choice words were taken after it, where j were taken before
abbrev pub taken_after : ScriptStep → ℕ → ℕ
taken_after (Select cases default) j = j + 1
taken_after other j = j

abbrev pub is_range : ScriptStep → Bool
is_range (Range p) = true
is_range other = false

-- what is left of a script after its first step was asked and told this: nothing after `Stalled`; after
-- a value a range over again; else the rest
abbrev pub left : ScriptStep → List ScriptStep → Option Event → List ScriptStep
left s rest reply =
    if is_told is_stalled reply then []
    else if is_range s && is_told gets reply then s ∷ rest
    else rest

-- ---- a process

-- this was asked: the steps of the script, j choice words being taken before, and then an exit
abbrev pub Follows : List ScriptStep → (ℕ → ℕ) → ℕ → List Asked → Type 0
Follows script words j [] = ⊥
Follows [] words j (a ∷ more) = (a.step ≡ step.Exit) × (more ≡ [])
Follows (s ∷ rest) words j (a ∷ more) =
    (a.step ≡ asks s (words j)) × Follows (left s rest a.reply) words (taken_after s j) more

-- this was asked: makes of these capacities, and then the script
abbrev pub MakesThenFollows : List ℕ → List ScriptStep → (ℕ → ℕ) → List Asked → Type 0
MakesThenFollows [] script words more = Follows script words 0 more
MakesThenFollows (c ∷ cs) script words [] = ⊥
MakesThenFollows (c ∷ cs) script words (a ∷ more) =
    (a.step ≡ step.Make c) × MakesThenFollows cs script words more

-- the ports that process q makes
abbrev pub made_by : ℕ → List ℕ → List ℕ
made_by q caps = if q == 0 then caps else []

-- this is what process q of a scenario, with this script, may have asked
abbrev pub FollowsScript : ScenarioData → ℕ → List ScriptStep → List Asked → Type 0
FollowsScript s q script all = MakesThenFollows (made_by q s.ports) script (words_of_process s.seed q) all

-- in the journal each process follows its script: process q that in place q
abbrev pub AllFollow : ScenarioData → List Entry → Type 0
AllFollow s journal =
    (q : ℕ) (script : List ScriptStep) → slice_get s.scripts q ≡ Some script →
    FollowsScript s q script (asked q (run_head s) journal)
