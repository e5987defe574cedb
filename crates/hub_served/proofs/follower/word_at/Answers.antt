use Rattle.hub_served.proofs.Keeping.{with_own}
use Rattle.hub_served.proofs.follower.word_at.Goals as goal

pub returns-then-has_plain : goal.returns-then-has_plain
returns-then-has_plain c =
    record { found = rw (c.word_of.ensures, with_own) (c.has_plain.ensures c.if-has_plain.true); none = tt }
