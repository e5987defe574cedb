use Rattle.std.proofs.Common.{rules}
use Rattle.hub_picture.proofs.Reading.{appended}
use Rattle.hub_picture.proofs.piece.put.Goals as goal

pub returns : goal.returns
returns c at = appended at c.args.bytes.now (search rules)
