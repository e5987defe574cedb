use Rattle.std.proofs.Common.{◌∙◌, refl, sym}
use Rattle.hub_live.proofs.Desks.{desk_seen}
use Rattle.hub_live.proofs.Laters.{seat_opened, has_seen, stands_in}
use Rattle.hub_live.proofs.desk.Desk.compare.Goals as goal

pub invariant_of-self : goal.invariant_of-self
invariant_of-self g c = desk_seen c.self.invariant refl c.meet.ensures.token c.meet.ensures.met.first

pub returns-clause-stands : goal.returns-clause-stands
returns-clause-stands g c =
    let m = c.meet.ensures in
    let mine = seat_opened c.requires.hub c.seat.invariant c.seat.view_is c.in-Some.is in
    let whole = sym m.met.together ∙ (invariant_of-self g c).seen in
    stands_in (has_seen mine m.given m.met.second).follows whole c.requires.free
