use Rattle.hub_base.proofs.OneReading.{one-spelling}
use Rattle.hub_text.proofs.reader.one_spelling.Goals as goal

pub returns : goal.returns
returns c = one-spelling
