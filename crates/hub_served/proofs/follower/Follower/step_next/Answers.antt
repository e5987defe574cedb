use Rattle.std.proofs.Common.{◌∙◌}
use Rattle.hub_served.proofs.Keeping.{own_rules, rules_next}
use Rattle.hub_served.proofs.follower.Follower.step_next.Goals as goal

pub returns-then-word-word_of : goal.returns-then-word-word_of
returns-then-word-word_of c =
    record {
      rules = own_rules c.args.self.now c.args.entry.now c.args.word c.step_given.new.self c.step_given.result
          (c.if-word-word_of.true ∙ c.word_of.ensures) c.requires.due c.step_given.ensures;
    }

pub returns : goal.returns
returns c =
    record {
      rules = rules_next c.args.self.now c.args.entry.now c.args.word c.step_given-2.new.self c.step_given-2.result c.requires.due
          (rw c.with_word.ensures at c.step_given-2.ensures);
    }
