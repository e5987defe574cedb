use Rattle.std.proofs.Common.{◌≡◌, ◌∷◌, List, ℕ}
use Rattle.hub_scenario.specs.declared.script.ScriptStep.{ScriptStep}
use Rattle.hub_runner.specs.Scripts.{asks}
use Rattle.hub_runner.specs.Working.{asked_of, Leads, Onward}
use Rattle.hub_runner.proofs.worker.take_step.Given as goal

abbrev pub invariant-loop : goal.invariant-loop
invariant-loop g l =
    (goal.iterator-loop g).can_next l.iterator' × (goal.iterator-loop g).is_finite l.iterator'
    × Onward l.initial.seat l.seat
    × ((words : ℕ → ℕ) (rest : List ScriptStep) (j : ℕ) → asks l.turn.step.now l.turn.word ≡ asks l.turn.step.now (words j)
    → Leads (asked_of l.initial.seat) (asked_of l.seat) words (l.turn.step.now ∷ rest) j (l.turn.step.now ∷ rest) j)
