use Rattle.hub_picture.proofs.OtherPorts.{same-passages}
use Rattle.hub_picture.proofs.arrows.add_port.Goals as goal

pub returns : goal.returns
returns c = rw (c.on.ensures, same-passages) at c.in_ok-add_arrows.ensures
