use Rattle.std.proofs.Common.{◌∙◌, Some, sym, ap, subst}
use Rattle.hub_live.specs.Prelude.{IsIdle, seat_of}
use Rattle.hub_live.proofs.Laters.{seat_opened, has_seen, Looking, looking}
use Rattle.hub_live.proofs.live_hub.LiveHub.meet.Given.{Over}
use Rattle.hub_live.proofs.live_hub.LiveHub.meet.Goals as goal
use Rattle.hub_live.proofs.live_hub.LiveHub.meet.Goals.{After-meet}

first : (g : Over) (c : After-meet g) → Looking c.args.first.now (seat_of c.first-inside.inside.0.0.pid (Some c.meet.new.token))
first g c =
    let mine = seat_opened c.requires.first c.first-inside.invariant (ap (λ s. s.inner) c.first-inside.view_is ∙ c.first.view_is) c.in-Some.is in
    looking (subst IsIdle c.first.view_is c.first.invariant) (has_seen mine c.meet.ensures.token c.meet.ensures.met.first)

second : (g : Over) (c : After-meet g) → Looking c.args.second.now (seat_of c.second-inside.inside.0.0.pid (Some c.meet.result))
second g c =
    let is = sym c.take.ensures.value ∙ c.in-Some-take.is in
    let mine = seat_opened c.requires.second c.second-inside.invariant (ap (λ s. s.inner) c.second-inside.view_is ∙ c.second.view_is) is in
    looking (subst IsIdle c.second.view_is c.second.invariant) (has_seen mine c.meet.ensures.given c.meet.ensures.met.second)

pub invariant_of-first-2 : goal.invariant_of-first-2
invariant_of-first-2 g c = (first g c).later.idle

pub invariant_of-second-2 : goal.invariant_of-second-2
invariant_of-second-2 g c = (second g (goal.at.invariant_of-second-2 g c).After-meet).later.idle

pub returns-clause-first : goal.returns-clause-first
returns-clause-first g c = (first g (goal.at.returns-clause-first g c).After-meet).later

pub returns-clause-first_same : goal.returns-clause-first_same
returns-clause-first_same g c = (first g (goal.at.returns-clause-first_same g c).After-meet).same

pub returns-clause-second : goal.returns-clause-second
returns-clause-second g c = (second g (goal.at.returns-clause-second g c).After-meet).later

pub returns-clause-second_same : goal.returns-clause-second_same
returns-clause-second_same g c = (second g (goal.at.returns-clause-second_same g c).After-meet).same
