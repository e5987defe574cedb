use Rattle.hub_base.proofs.Heads.{text-take}
use Rattle.hub_base.proofs.FaultyTexts.{fault-take}
use Rattle.hub_base.proofs.OneReading.{is-either, one-text, one-fault, apart}
use Rattle.hub_text.proofs.reader.one_reading.Goals as goal

pub returns-clause-some : goal.returns-clause-some
returns-clause-some c = is-either

pub returns-clause-reads : goal.returns-clause-reads
returns-clause-reads c = text-take

pub returns-clause-faults : goal.returns-clause-faults
returns-clause-faults c = fault-take

pub returns-clause-text : goal.returns-clause-text
returns-clause-text c = one-text

pub returns-clause-fault : goal.returns-clause-fault
returns-clause-fault c = one-fault

pub returns-clause-apart : goal.returns-clause-apart
returns-clause-apart c = apart
