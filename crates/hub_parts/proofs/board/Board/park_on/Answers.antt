use Rattle.std.proofs.Common.{arith, refl}
use Rattle.hub_parts.proofs.Boards.{board_parked, roomy_can_join}
use Rattle.hub_parts.proofs.Taken.{all_within, lists_parked}
use Rattle.hub_parts.proofs.board.Board.park_on.Goals as goal

pub join-requires-clause-fits : goal.join-requires-clause-fits
join-requires-clause-fits c =
    let below = rw (← c.self.view_is) at c.requires.below in
    let made = rw (← c.self.view_is) at c.requires.made in
    let few = rw c.as_slice-list.ensures.cases at c.as_slice-list.ensures.few in
    rw (c.make_room.ensures, c.as_slice-list.ensures.cases)
    (roomy_can_join c.args.pid c.args.ticket c.self.inside.calls c.self.inside.ports.items c.args.cases.now.items c.self.invariant
    (omega (arith, below)) few (all_within c.self.inside.calls c.self.inside.ports.items c.args.cases.now.items made))

pub invariant_of-self : goal.invariant_of-self
invariant_of-self c =
    let below = rw (← c.self.view_is) at c.requires.below in
    let made = rw (← c.self.view_is) at c.requires.made in
    let later = rw (← c.self.view_is) at c.requires.later in
    let few = rw c.as_slice-list.ensures.cases at c.as_slice-list.ensures.few in
    let fits = rw c.open.ensures.opened at c.open.ensures.fits in
    rw (c.open.ensures.opened, c.join.ensures, c.make_room.ensures, c.as_slice-list.ensures.cases)
    (board_parked c.args.pid c.args.ticket c.self.inside.calls c.self.inside.ports.items c.args.cases.now.items c.self.invariant
    (omega (arith, below)) few (all_within c.self.inside.calls c.self.inside.ports.items c.args.cases.now.items made) later fits)

pub returns : goal.returns
returns c =
    rw (← c.self.view_is)
    (lists_parked c.args.pid c.args.ticket c.self.inside.calls c.open.new.self c.self.inside.ports.items c.join.new.ports.items
    c.args.cases.now.items c.open.ensures.opened (rw (c.join.ensures, c.make_room.ensures, c.as_slice-list.ensures.cases) refl))
