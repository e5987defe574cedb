use Rattle.std.proofs.Common.{rules, ◌≡◌, None, subst}
use Rattle.hub_served.specs.Follow.{FollowKeeps, IsAdmitted}
use Rattle.hub_served.proofs.Keeping.{early, other}
use Rattle.hub_served.proofs.follower.Follower.step.Goals as goal

pub returns-in-Early : goal.returns-in-Early
returns-in-Early c =
    let l = c.args.self.now in
    let admitted : IsAdmitted l c.args.entry.now = search rules in
    let following : l.diverged ≡ None = search rules in
    let keeps = subst FollowKeeps c.self.view_is c.self.invariant.keeps in
    record {
      rules = rw (c.not_yet.ensures.unchanged, c.in-Early.ensures.unchanged, c.not_yet.ensures.told)
          (early l c.args.entry.now keeps admitted following c.in-Early.ensures.stands);
    }

pub returns-in-Other : goal.returns-in-Other
returns-in-Other c =
    let l = c.args.self.now in
    let admitted : IsAdmitted l c.args.entry.now = search rules in
    let following : l.diverged ≡ None = search rules in
    record {
      rules = rw (c.diverge.ensures.diverged, c.in-Other.ensures.unchanged, c.diverge.ensures.told)
          (other l c.args.entry.now c.in-Other.number admitted following c.in-Other.ensures.stands);
    }
