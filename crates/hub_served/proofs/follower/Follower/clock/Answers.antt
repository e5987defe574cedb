use Rattle.std.proofs.Common.{◌≡◌, ◌∙◌, ap, subst}
use Rattle.hub_base.specs.declared.head.Head.{Head}
use Rattle.hub_story.specs.Clock.{clock_of}
use Rattle.hub_served.specs.Follow.{FollowView, follow_view}
use Rattle.hub_served.proofs.follower.Follower.clock.Goals as goal

pub returns : goal.returns
returns c =
    let l = follow_view c.self.inside.hub c.self.inside.given.entries c.self.inside.after c.self.inside.diverged c.self.inside.asked in
    let inside : c.clock_of.result ≡ clock_of l.locked.hub.terms.head l.given =
    c.clock_of.ensures ∙ ap (λ (h : Head). clock_of h c.entries.result.now) c.head.ensures ∙ ap (clock_of l.locked.hub.terms.head) c.entries.ensures in
    subst (λ (m : FollowView). c.clock_of.result ≡ clock_of m.locked.hub.terms.head m.given) c.self.view_is inside
