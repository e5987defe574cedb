-- How far a process has come in its script, said of what its seat has seen.
use Rattle.std.specs.Prelude.{◌≡◌, ℕ, Bool, true, List, [], ◌∷◌, ◌++◌, if◌then◌else◌}
use Rattle.std.specs.List.{list_any}
use mathlib.Core.List.{IsPrefix}
use Rattle.hub_base.specs.declared.value.Pid.{Pid}
use Rattle.hub_base.specs.Entry.{Entry, Step}
use Rattle.hub_base.specs.declared.entry.Step.TheVariants.{Exit}
use Rattle.hub_base.specs.declared.fault.Fault.{Fault}
use Rattle.hub_base.specs.Reading.{is_exit}
use Rattle.hub_laws.specs.Replies.{own}
use Rattle.hub_live.specs.Name.{Name}
use Rattle.hub_live.specs.SeatView.{SeatView}
use Rattle.hub_live.specs.Calls.{Shows, entry_of}
use Rattle.hub_scenario.specs.declared.script.ScriptStep.{ScriptStep}
use Rattle.hub_laws.specs.Asked.{Asked, asked}
use Rattle.hub_runner.specs.Scripts.{Follows, asks}
use Rattle.hub_runner.specs.CutShort.{steps_asked}

-- what the process of a seat asked, in what the seat has seen
abbrev pub asked_of : SeatView → List Asked
asked_of s = asked s.pid.0 s.hub.terms.head s.seen

-- the process of a seat: its hub, its number, and what it asked
pub record Asker : Type 0 where
  pub hub : Name
  pub pid : Pid
  pub asked : List Asked

abbrev pub asker_of : SeatView → Asker
asker_of s = record { hub = s.hub; pid = s.pid; asked = asked_of s }

-- the same seat, which has seen no less
pub record Onward (s t : SeatView) : Type 0 where
  pub hub : t.hub ≡ s.hub
  pub pid : t.pid ≡ s.pid
  pub begins : IsPrefix s.seen t.seen

-- the process asked some more, so that if it asks what follows `rest` (k choice words being taken)
-- next, then all that it asked from `before` on follows `script` (j choice words being taken)
pub record Leads (before now : List Asked) (words : ℕ → ℕ) (script : List ScriptStep) (j : ℕ)
    (rest : List ScriptStep) (k : ℕ) : Type 0 where
  pub made : List Asked
  pub now_is : now ≡ before ++ made
  pub leads : (more : List Asked) → Follows rest words k more → Follows script words j (made ++ more)

-- what the process asked from `before` on follows the script
pub record Followed (before now : List Asked) (words : ℕ → ℕ) (script : List ScriptStep) : Type 0 where
  pub made : List Asked
  pub now_is : now ≡ before ++ made
  pub follows : Follows script words 0 made

-- what is left of a script that goes on, or not
abbrev pub goes_on_with : Bool → List ScriptStep → List ScriptStep
goes_on_with goes_on rest = if goes_on then rest else []

-- ---- a process that is stopped

-- what comes next where this is left of a script (k choice words being taken): its first step, or the exit
abbrev pub next_of : List ScriptStep → (ℕ → ℕ) → ℕ → Step
next_of [] words k = Exit
next_of (s ∷ rest) words k = asks s (words k)

-- the process came some way in the script, and what comes next was refused by this fault, as its seat shows
pub record Stopped (before : List Asked) (s : SeatView) (words : ℕ → ℕ) (script : List ScriptStep) (j : ℕ) (f : Fault) : Type 0 where
  pub rest : List ScriptStep
  pub k : ℕ
  pub leads : Leads before (asked_of s) words script j rest k
  pub shows : Shows s.hub.terms (entry_of s (next_of rest words k)) s.seen f

-- process q has exited among these entries
abbrev pub has_exited : ℕ → List Entry → Bool
has_exited q es = list_any (λ e. is_exit e.step) (own q es)

-- so it was when its seat was `at`; since then the process asked no step, and it has left: otherwise those that wait
-- would wait for it for ever
pub record WasStopped (before : List Asked) (s : SeatView) (words : ℕ → ℕ) (script : List ScriptStep) (f : Fault) : Type 0 where
  pub at : SeatView
  pub stopped : Stopped before at words script 0 f
  pub onward : Onward at s
  pub same : steps_asked (asked_of s) ≡ steps_asked (asked_of at)
  pub left : has_exited s.pid.0 s.seen ≡ true
