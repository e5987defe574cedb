use Rattle.std.proofs.Common.{◌∙◌, sym, ap}
use Rattle.hub_live.specs.Locked.{LockedView}
use Rattle.hub_live.proofs.Desks.{desk_seen, reply_there}
use Rattle.hub_live.proofs.Laters.{seat_opened, HasSeen, has_seen}
use Rattle.hub_live.proofs.desk.Desk.pick.Given.{Over}
use Rattle.hub_live.proofs.desk.Desk.pick.Goals as goal
use Rattle.hub_live.proofs.desk.Desk.pick.Goals.{Joined-seat}

given : (g : Over) (c : Joined-seat g) → HasSeen c.args.seat.now c.seat.inside.pid c.meet.result
given g c =
    let mine = seat_opened c.requires.hub c.seat.invariant c.seat.view_is (sym c.take-2.ensures.value ∙ c.in-Some.is) in
    has_seen mine c.meet.ensures.given c.meet.ensures.met.second

pub invariant_of-self-2 : goal.invariant_of-self-2
invariant_of-self-2 g c =
    desk_seen c.self.invariant (ap (λ (l : LockedView). l.hub) c.take.ensures.taken) c.meet.ensures.token c.meet.ensures.met.first

pub returns-clause-seen : goal.returns-clause-seen
returns-clause-seen g c = sym c.meet.ensures.met.together ∙ (invariant_of-self-2 g c).seen

pub returns-clause-told : goal.returns-clause-told
returns-clause-told g c = reply_there c.self.invariant.hub.terms (given g c).follows.pid
    (ap (λ (l : LockedView). l.hub.journal) (sym c.take.ensures.taken) ∙ sym (returns-clause-seen g c)) c.in_ok-answer.ensures.reply

pub returns-clause-begins : goal.returns-clause-begins
returns-clause-begins g c = (given g c).follows.begins

pub returns-clause-own : goal.returns-clause-own
returns-clause-own g c = (given g c).follows.own
