use Rattle.std.proofs.Common.{◌∙◌, ℕ, Option, None, ap, arith, length}
use Rattle.std.proofs.lemmas.List.{length-replicate}
use Rattle.hub_story.specs.LastCalls.{call_in}
use Rattle.hub_story.proofs.Late.{telling}
use Rattle.hub_story.proofs.Tellings.{none-called}
use Rattle.hub_story.proofs.walk.Walk.new.Goals as goal

pub returns-clause-at : goal.returns-clause-at
returns-clause-at c = record {
  follows = rw c.head.ensures at c.in_ok-new.ensures;
  steps = omega (arith, c.in_ok-new.ensures.steps);
  places = ap length c.no_calls.ensures ∙ length-replicate {A = Option ℕ} 256 None;
  calls = λ pid. ap (λ l. call_in l pid) c.no_calls.ensures ∙ none-called 256 pid.0;
}

pub returns-clause-telling : goal.returns-clause-telling
returns-clause-telling c = telling c.args.journal.now.head c.args.journal.now.entries
