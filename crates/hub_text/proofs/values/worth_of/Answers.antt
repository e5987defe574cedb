use Rattle.hub_text.proofs.HexDigits.{worth_in_table}
use Rattle.hub_text.proofs.values.worth_of.Goals as goal

pub returns : goal.returns
returns c = rw c.from.ensures (worth_in_table c.args.byte c.ranges.byte.fits)
