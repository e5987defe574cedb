use Rattle.std.proofs.Common.{subst, sym}
use Rattle.hub_live.specs.Locked.{LockedView}
use Rattle.hub_served.specs.Follow.{follow_view, with_locked}
use Rattle.hub_served.specs.Stands.{Follows}
use Rattle.hub_served.proofs.Keeping.{follows_taken}
use Rattle.hub_served.proofs.follower.Follower.take.Goals as goal

pub invariant_of-self : goal.invariant_of-self
invariant_of-self c =
    let l = follow_view c.self.inside.hub c.self.inside.given.entries c.self.inside.after c.self.inside.diverged c.self.inside.asked in
    subst (λ (k : LockedView). Follows (with_locked k l) c.self.inside.given) (sym c.take.ensures.taken)
    (follows_taken l c.self.inside.given c.args.pid.0 c.self.invariant)
