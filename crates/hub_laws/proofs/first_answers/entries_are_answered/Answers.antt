use Rattle.hub_laws.proofs.Answered.{answers-law, passed_over-law}
use Rattle.hub_laws.proofs.first_answers.entries_are_answered.Goals as goal

pub returns : goal.returns
returns c = record {
  admitted = answers-law c.args.head c.args.before.now c.args.entry.now;
  refused = passed_over-law c.args.head c.args.before.now c.args.entry.now;
}
