use Rattle.std.proofs.Common.{rules}
use Rattle.hub_picture.proofs.Reading.{plain}
use Rattle.hub_picture.proofs.piece.put_plain.Goals as goal

pub returns : goal.returns
returns c = plain c.args.text.now (search rules) c.requires
