use Rattle.std.proofs.Common.{◌∙◌, ◌++◌, ap}
use Rattle.std.proofs.lemmas.List.{take-replicate}
use Rattle.hub_story_text.specs.declared.cells.TheConstants.{MOST_SPACES}
use Rattle.hub_story_text.proofs.cells.put_spaces.Goals as goal

pub returns : goal.returns
returns c =
    c.in_ok-extend_from_slice.ensures.items ∙ ap (λ l. c.args.out.now.items ++ l) (take-replicate c.args.count MOST_SPACES 32 c.requires)
