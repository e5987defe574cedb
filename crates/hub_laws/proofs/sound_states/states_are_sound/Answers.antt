use Rattle.hub_laws.proofs.States.{state-laws}
use Rattle.hub_laws.proofs.sound_states.states_are_sound.Goals as goal

pub returns : goal.returns
returns c = state-laws c.args.head c.args.entries.now
