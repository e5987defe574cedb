use Rattle.std.proofs.Common.{arith, ◌≤◌, length}
use Rattle.hub_parts.proofs.Room.{count_fits}
use Rattle.hub_parts.proofs.tickets.Tickets.copy.Goals as goal

pub copy_opened-requires : goal.copy_opened-requires
copy_opened-requires c =
    let few : length c.self.inside.opened.items ≤ c.self.inside.procs =
    count_fits c.self.inside.opened.items c.self.inside.procs c.self.invariant.distinct c.self.invariant.below in
    omega (arith, few, c.deref.ensures.len, c.self.inside.opened.ok)
