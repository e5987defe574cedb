use Rattle.hub_scenario.proofs.Words.{generator_next, word_drawn}
use Rattle.hub_scenario.proofs.choice_words.ChoiceWords.next_word.Goals as goal

pub invariant_of-self : goal.invariant_of-self
invariant_of-self c = generator_next _ _ _ _ _ c.self.invariant c.next_word.ensures

pub returns-clause-word : goal.returns-clause-word
returns-clause-word c =
    rw (← c.self.view_is) (word_drawn _ _ _ _ _ c.self.invariant c.next_word.ensures)
