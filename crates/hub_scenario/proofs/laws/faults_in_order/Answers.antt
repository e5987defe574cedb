use Rattle.hub_scenario.proofs.CauseLaws.{cause_in, sound_in}
use Rattle.hub_scenario.proofs.laws.faults_in_order.Goals as goal

pub returns-clause-cause : goal.returns-clause-cause
returns-clause-cause c = cause_in

pub returns-clause-none : goal.returns-clause-none
returns-clause-none c = sound_in
