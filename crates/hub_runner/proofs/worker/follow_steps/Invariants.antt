use Rattle.std.proofs.Common.{◌≡◌, ◌≤◌, drop}
use Rattle.hub_scenario.specs.ChoiceWords.{choice_word}
use Rattle.hub_runner.specs.Working.{asked_of, Leads, Onward}
use Rattle.hub_runner.proofs.worker.follow_steps.Given as goal

abbrev pub invariant-loop-step : goal.invariant-loop-step
invariant-loop-step g l =
    (l.words.drawn ≤ l.step-index)
    × (l.words.seed ≡ l.initial.words.seed)
    × Onward l.initial.seat l.seat
    × Leads (asked_of l.initial.seat) (asked_of l.seat) (choice_word l.initial.words.seed) l.script 0 (drop l.step-index l.script) l.words.drawn
