use Rattle.std.proofs.Common.{ap, arith, length}
use Rattle.hub_picture.proofs.drawing.drawing_of.Goals as goal

pub overflow_cast-len : goal.overflow_cast-len
overflow_cast-len c = omega (arith, c.len.ensures, ap length c.entries.ensures, c.requires.few)
