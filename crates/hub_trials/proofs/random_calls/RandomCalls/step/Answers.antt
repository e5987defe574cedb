use Rattle.hub_trials.proofs.random_calls.RandomCalls.step.Goals as goal

pub call-answer-requires : goal.call-answer-requires
call-answer-requires g c = c.next_call-cases.ensures g.K.HubName.name.terms.head.edition
