use Rattle.std.proofs.Common.{◌≡◌, ◌∙◌, Ok, ap, subst, sym}
use Rattle.hub_served.specs.Follow.{FollowView, FollowsStep, IsFree, diverged_at, follow_view, number_of, with_locked}
use Rattle.hub_served.proofs.Keeping.{goes_on}
use Rattle.hub_served.proofs.follower.Follower.step_freely.Goals as goal

pub returns-in_ok-answer-in-GoesOn : goal.returns-in_ok-answer-in-GoesOn
returns-in_ok-answer-in-GoesOn c =
    let l = follow_view c.self.inside.hub c.self.inside.given.entries c.self.inside.after c.self.inside.diverged c.self.inside.asked in
    let e = c.args.entry.now in
    let answer = c.in_ok-answer-in-GoesOn.answer in
    let number : number_of l ≡ c.number-number.result = ap number_of c.self.view_is ∙ sym c.number-number.ensures in
    let Frees : FollowView → Type 0 =
    λ m. IsFree m → FollowsStep m e (diverged_at c.number-number.result (with_locked c.pass.new.hub l)) (Ok answer) in
    record {
      rules = subst Frees c.self.view_is
          (λ free. rw (← number) (goes_on l e c.pass.new.hub answer free c.in-GoesOn.is c.in_ok-answer-in-GoesOn.ensures)) c.requires.free;
    }
