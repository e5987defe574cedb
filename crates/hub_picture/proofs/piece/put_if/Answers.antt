use Rattle.std.proofs.Common.{rules}
use Rattle.hub_picture.proofs.Reading.{nothing, plain}
use Rattle.hub_picture.proofs.piece.put_if.Goals as goal

pub returns-then-so : goal.returns-then-so
returns-then-so c fits = plain c.args.text.now (search rules) fits

pub returns-else-so : goal.returns-else-so
returns-else-so c fits = nothing
