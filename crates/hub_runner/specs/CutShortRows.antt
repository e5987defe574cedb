-- Worked rows: a run that its limit cuts short, and processes that do not follow their scripts.
use Rattle.std.specs.Prelude.{◌≡◌, ℕ, zero, suc, List, [], ◌∷◌, None, refl}
use mathlib.Core.Path.{subst, sym}
use Rattle.hub_base.specs.Entry.{Entry, Step}
use Rattle.hub_base.specs.declared.entry.Step.TheVariants as step
use Rattle.hub_base.specs.declared.head.Edition.TheVariants.{One}
use Rattle.hub_base.specs.Notation.{procs, port, make, send, recv, close, exit}
use Rattle.hub_base.specs.Text.{steps_of}
use Rattle.hub_base.specs.Value.{value_of}
use Rattle.hub_laws.specs.Journals.{IsLegal}
use Rattle.hub_scenario.specs.declared.script.ScriptStep.{ScriptStep}
use Rattle.hub_scenario.specs.declared.script.ScriptStep.TheVariants.{Send, Range, Close}
use Rattle.hub_scenario.specs.Scenario.{ScenarioData}
use Rattle.hub_laws.specs.Asked.{asked}
use Rattle.hub_runner.specs.CutShort.{ComesTo, LeavesLast}
use Rattle.hub_runner.specs.Ports.{BeginsWithPorts}

-- process 0 makes a port, sends 4 and 5 on it and closes it; process 1 ranges over it. Three steps are allowed
abbrev sends : List ScriptStep
sends = Send (port 1) (value_of 4) ∷ Send (port 1) (value_of 5) ∷ Close (port 1) ∷ []

abbrev ranges : List ScriptStep
ranges = Range (port 1) ∷ []

abbrev scenario : ScenarioData
scenario = record { seed = 0; limit = 3; edition = One; ports = 0 ∷ []; scripts = sends ∷ ranges ∷ [] }

-- after the make and the first value the second receive of the range is refused, and so is the second send
abbrev short : List Entry
short = make 0 0 ∷ recv 1 1 ∷ send 0 1 4 ∷ exit 1 ∷ exit 0 ∷ []

pub sender_comes_to_its_second_send : ComesTo scenario 0 sends (asked 0 (procs 2) short) (send 0 1 5).step
unfolding asked
sender_comes_to_its_second_send = record {
  reply = None;
  more = record { step = (close 0 1).step; reply = None } ∷ record { step = (exit 0).step; reply = None } ∷ [];
  follows = (refl, (refl, (refl, (refl, (refl, refl)))));
}

pub range_comes_to_a_receive_more : ComesTo scenario 1 ranges (asked 1 (procs 2) short) (recv 1 1).step
unfolding asked
range_comes_to_a_receive_more = record {
  reply = None;
  more = record { step = (exit 1).step; reply = None } ∷ [];
  follows = (refl, (refl, (refl, refl)));
}

-- the journal is legal, and has three steps
pub short_is_legal : IsLegal (procs 2) short
short_is_legal = refl

pub short_is_full : steps_of short ≡ scenario.limit
short_is_full = refl

pub short_begins_with_ports : BeginsWithPorts scenario short
short_begins_with_ports = (recv 1 1 ∷ send 0 1 4 ∷ exit 1 ∷ exit 0 ∷ [], refl)

-- a process that closes the port first has come to no place of this script
abbrev IsClose : Step → Type 0
IsClose (step.Close p) = Unit {0}
IsClose other = ⊥

pub close_comes_first : (next : Step) → ComesTo scenario 0 sends (asked 0 (procs 2) (make 0 0 ∷ close 0 1 ∷ [])) next → ⊥
unfolding asked
close_comes_first next h = subst IsClose h.follows.1.0 tt

-- where a step stands behind its exit, a process does not leave last
abbrev Some_steps : ℕ → Type 0
Some_steps zero = ⊥
Some_steps (suc n) = Unit {0}

pub close_behind_an_exit : LeavesLast 1 (make 0 0 ∷ exit 1 ∷ close 0 1 ∷ exit 0 ∷ []) → ⊥
close_behind_an_exit h = subst Some_steps (h (make 0 0 ∷ []) (exit 1) (close 0 1 ∷ exit 0 ∷ []) refl refl refl) tt

-- where process 1 exits before the port is made, the journal does not begin with it
abbrev BeginsWithAnother : List Entry → Type 0
BeginsWithAnother [] = ⊥
BeginsWithAnother (e ∷ es) = Some_steps e.pid.0

pub exit_comes_first : BeginsWithPorts scenario (exit 1 ∷ make 0 0 ∷ exit 0 ∷ []) → ⊥
exit_comes_first h = subst BeginsWithAnother (sym h.1) tt
