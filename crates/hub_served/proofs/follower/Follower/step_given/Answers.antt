use Rattle.std.proofs.Common.{rules, ◌≡◌, ◌<◌, Ok, length, refl, subst, sym}
use Rattle.std.proofs.lemmas.Option.{slice_get_within}
use Rattle.hub_served.specs.Follow.{FollowView, IsDue, follow_view, made, with_locked}
use Rattle.hub_served.specs.Given.{GivenView}
use Rattle.hub_served.specs.Stands.{PassesGiven}
use Rattle.hub_served.proofs.Keeping.{follows_made}
use Rattle.hub_served.proofs.follower.Follower.step_given.Goals as goal

pub advance-requires : goal.advance-requires
advance-requires c =
    let l = follow_view c.self.inside.hub c.self.inside.given.entries c.self.inside.after c.self.inside.diverged c.self.inside.asked in
    let e = c.args.entry.now in
    let due : IsDue l e = subst (λ (m : FollowView). IsDue m e) (sym c.self.view_is) c.requires.due in
    record {
      left = subst (λ (g : GivenView). g.made < length g.entries) (sym (c.self.invariant.in_turn due.following))
          (slice_get_within l.given (made l) e due.at);
    }

pub invariant_of-self-2 : goal.invariant_of-self-2
invariant_of-self-2 c =
    let l = follow_view c.self.inside.hub c.self.inside.given.entries c.self.inside.after c.self.inside.diverged c.self.inside.asked in
    let e = c.args.entry.now in
    let due : IsDue l e = subst (λ (m : FollowView). IsDue m e) (sym c.self.view_is) c.requires.due in
    rw c.advance.ensures
    (follows_made l c.self.inside.given e c.pass.new.hub c.in_ok-answer.answer c.self.invariant due c.in_ok-answer.ensures)

pub returns-in_err-answer : goal.returns-in_err-answer
returns-in_err-answer c =
    let l = follow_view c.self.inside.hub c.self.inside.given.entries c.self.inside.after c.self.inside.diverged c.self.inside.asked in
    let same : c.from_residual.result ≡ c.pass.result = search rules in
    rw same (subst (λ (m : FollowView). PassesGiven m c.args.entry.now (with_locked c.pass.new.hub l) c.pass.result) c.self.view_is
    (record { keeps = c.self.invariant.keeps; passes = c.pass.ensures; stays = refl }))

pub returns : goal.returns
returns c =
    let l = follow_view c.self.inside.hub c.self.inside.given.entries c.self.inside.after c.self.inside.diverged c.self.inside.asked in
    rw c.advance.ensures (subst (λ (m : FollowView). PassesGiven m c.args.entry.now (with_locked c.pass.new.hub l) (Ok c.in_ok-answer.answer)) c.self.view_is
    (record { keeps = c.self.invariant.keeps; passes = c.in_ok-answer.ensures; stays = refl }))
