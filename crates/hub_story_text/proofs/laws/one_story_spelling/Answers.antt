use Rattle.std.proofs.Common.{ap}
use Rattle.hub_story.specs.Told.{told}
use Rattle.hub_story_text.proofs.StoryRead.{one-story}
use Rattle.hub_story_text.proofs.laws.one_story_spelling.Goals as goal

pub returns-clause-entries : goal.returns-clause-entries
returns-clause-entries c = one-story

pub returns-clause-told : goal.returns-clause-told
returns-clause-told c h es fs fe ff same = ap (told h) (one-story h h es fs fe ff same)
