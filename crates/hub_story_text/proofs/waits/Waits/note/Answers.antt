use Rattle.std.proofs.Common.{refl}
use Rattle.hub_story_text.proofs.Ranks.{no-wait-more, wait-more}
use Rattle.hub_story_text.proofs.waits.Waits.note.Goals as goal

pub returns-in_default-clause-waits : goal.returns-in_default-clause-waits
returns-in_default-clause-waits c ws so = rw c.in_default.is (no-wait-more ws c.args.self.now so)

pub returns-clause-waits : goal.returns-clause-waits
returns-clause-waits c ws so = rw c.in-Some.is (wait-more ws c.in-Some.wait c.args.self.now _ so refl c.in_ok-rank.ensures)
