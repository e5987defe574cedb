use Rattle.std.proofs.Common.{◌∙◌, ap, subst}
use Rattle.hub_live.specs.Answers.{AnswersView, Heard, hears_all}
use Rattle.hub_live.specs.Locked.{LockedView, Serves}
use Rattle.hub_live.proofs.Hearing.{lawful_then, replies_then, served}
use Rattle.hub_live.proofs.locked.Locked.step.Goals as goal
use Rattle.hub_live.proofs.locked.Locked.step.Goals.{In_ok-step_heard}

abbrev after : In_ok-step_heard → LockedView
after c = record {
  hub = c.step_heard.new.self.memory.hub;
  answers = c.step_heard.new.events.waiting;
  last = c.step_heard.new.events.last;
  ended = c.step_heard.new.events.ended;
}

heard : (c : In_ok-step_heard) → Heard c.self.inside.answers c.self.inside.hub.memory.hub.terms.head c.self.inside.hub.memory.hub.journal c.args.entry.now
    c.step_heard.new.events
heard c =
    let made = c.in_ok-step_heard.ensures.ok in
    c.begin.ensures.heard _ _ c.args.entry.now c.step_heard.new.events made.steps.admitted (made.heard ∙ ap (hears_all _) made.steps.events)

pub invariant_of-self-2 : goal.invariant_of-self-2
invariant_of-self-2 c = lawful_then _ c.self.inside.answers c.args.entry.now _ _ _ c.self.invariant c.in_ok-step_heard.ensures.ok.steps (heard c)

pub returns : goal.returns
returns c =
    let steps = c.in_ok-step_heard.ensures.ok.steps in
    record {
      rules = record {
        ok = subst (λ (l : LockedView). Serves l c.args.entry.now (after c) (after c).last) c.self.view_is
            (served _ c.self.inside.answers c.args.entry.now _ _ _ c.self.invariant steps (heard c));
        reply = replies_then _ c.self.inside.answers c.args.entry.now _ _ _ c.self.invariant steps (heard c);
        refused = tt;
        unchanged = tt;
      };
    }
