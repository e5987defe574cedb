use Rattle.std.proofs.Common.{◌∙◌, ap}
use Rattle.hub_story.specs.Told.{end_of}
use Rattle.hub_picture.proofs.laws.ends_are_told.Goals as goal

pub returns : goal.returns
returns c place below = c.requires.story.ends.each place below ∙ ap (λ all. end_of all place) c.requires.story.told
