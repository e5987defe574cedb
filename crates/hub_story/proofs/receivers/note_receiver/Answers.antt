use Rattle.std.proofs.Common.{◌==◌, ◌∙◌, ap, sym}
use Rattle.std.specs.List.{list_any}
use Rattle.hub_story.proofs.Gone.{known-there}
use Rattle.hub_story.proofs.receivers.note_receiver.Goals as goal

pub returns-then-contains : goal.returns-then-contains
returns-then-contains c =
    rw c.in-Some.is
    (λ p test. known-there c.args.pids.now p c.in-Some.port c.args.pid test
    (ap (list_any (λ y. y == c.args.pid)) (sym c.on.ensures) ∙ sym c.contains.ensures.value ∙ c.if-contains.true))
