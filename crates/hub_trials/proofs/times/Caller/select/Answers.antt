use Rattle.hub_trials.proofs.times.Caller.select.Goals as goal

pub call-requires : goal.call-requires
call-requires g c = c.four_receives.ensures g.K.HubName.name.terms.head.edition
