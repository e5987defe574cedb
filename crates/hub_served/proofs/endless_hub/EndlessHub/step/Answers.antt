use Rattle.std.proofs.Common.{◌≡◌, ◌∙◌, List, None, ap}
use Rattle.hub_base.specs.Entry.{Entry}
use Rattle.hub_base.specs.Runs.{moves, state}
use Rattle.hub_base.specs.Steps.{refusal}
use Rattle.hub_base.specs.declared.head.Head.{Head}
use Rattle.hub_live.specs.Answers.{Heard, hears_all}
use Rattle.hub_served.proofs.Serving.{keeps_then, serves_made}
use Rattle.hub_served.proofs.endless_hub.EndlessHub.step.Goals as goal
use Rattle.hub_served.proofs.endless_hub.EndlessHub.step.Goals.{In_ok-step_heard}

hears : (c : In_ok-step_heard) (h : Head) (es : List Entry) → refusal (state h es) c.args.entry.now.pid ≡ None
    → c.in_ok-step_heard.ensures.ok.told ≡ (moves (state h es) c.args.entry.now).events
    → Heard c.self.inside.answers h es c.args.entry.now c.step_heard.new.events
hears c h es admitted events =
    c.begin.ensures.heard h es c.args.entry.now c.step_heard.new.events admitted (c.in_ok-step_heard.ensures.ok.heard ∙ ap (hears_all _) events)

pub invariant_of-self-2 : goal.invariant_of-self-2
invariant_of-self-2 c =
    keeps_then c.self.inside.recorder c.self.inside.answers c.args.entry.now c.step_heard.new.self _ c.step_heard.new.events
    c.in_ok-step_heard.ensures.ok.holds (hears c) c.self.invariant

pub returns-clause-rules : goal.returns-clause-rules
returns-clause-rules c = rw (← c.self.view_is) (record {
  ok = serves_made c.self.inside.recorder c.self.inside.answers c.args.entry.now c.step_heard.new.self _ c.step_heard.new.events
      c.in_ok-step_heard.ensures.ok.holds (hears c) c.self.invariant;
  refused = tt;
  unchanged = tt;
})
