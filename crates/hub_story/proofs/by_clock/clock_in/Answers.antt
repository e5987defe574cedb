use Rattle.std.proofs.Common.{◌∙◌, ap}
use Rattle.hub_base.specs.declared.head.Head.{Head}
use Rattle.hub_story.specs.Clock.{clock_of}
use Rattle.hub_story.proofs.by_clock.clock_in.Goals as goal

pub returns : goal.returns
returns c =
    c.clock_of.ensures ∙ ap (λ (h : Head). clock_of h c.entries.result.now) c.head.ensures
    ∙ ap (clock_of c.args.journal.now.head) c.entries.ensures
