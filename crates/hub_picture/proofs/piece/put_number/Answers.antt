use Rattle.std.proofs.Common.{arith}
use Rattle.std.specs.Prelude.{decimal}
use Rattle.hub_picture.proofs.Plain.{plain-number}
use Rattle.hub_picture.proofs.Reading.{plain}
use Rattle.hub_picture.proofs.piece.put_number.Goals as goal

pub returns : goal.returns
returns c = plain (decimal c.args.number) c.write_number.ensures.ok (plain-number c.args.number (omega arith))
