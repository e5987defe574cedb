use Rattle.std.proofs.Common.{subst, sym}
use Rattle.hub_served.specs.Follow.{FollowView, FollowsStep, IsAdmitted, follow_view, with_locked}
use Rattle.hub_served.proofs.Keeping.{follows_not_admitted, refused}
use Rattle.hub_served.proofs.follower.Follower.refuse.Goals as goal

pub invariant_of-self : goal.invariant_of-self
invariant_of-self c =
    let l = follow_view c.self.inside.hub c.self.inside.given.entries c.self.inside.after c.self.inside.diverged c.self.inside.asked in
    let not : ¬ IsAdmitted l c.args.entry.now = subst (λ (m : FollowView). ¬ IsAdmitted m c.args.entry.now) (sym c.self.view_is) c.requires.refused in
    follows_not_admitted l c.self.inside.given c.args.entry.now c.pass.new.hub c.pass.result c.self.invariant not c.pass.ensures

pub returns : goal.returns
returns c =
    let l = follow_view c.self.inside.hub c.self.inside.given.entries c.self.inside.after c.self.inside.diverged c.self.inside.asked in
    let Refuses : FollowView → Type 0 =
    λ m. ¬ IsAdmitted m c.args.entry.now → FollowsStep m c.args.entry.now (with_locked c.pass.new.hub l) c.pass.result in
    record {
      rules = subst Refuses c.self.view_is
          (λ not. refused l c.args.entry.now c.pass.new.hub c.pass.result c.self.invariant.keeps not c.pass.ensures) c.requires.refused;
    }
