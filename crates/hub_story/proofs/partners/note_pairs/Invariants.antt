use Rattle.std.proofs.Common.{◌≡◌, drop}
use Rattle.std.specs.List.{fold}
use Rattle.hub_story.specs.Partners.{paired, with_way}
use Rattle.hub_story.proofs.partners.note_pairs.Given as goal

abbrev pub invariant-loop-place : goal.invariant-loop-place
invariant-loop-place l =
    fold with_way l.table.items (paired (drop l.place l.sent) (drop l.place l.received)) ≡ fold with_way l.fn.table.items (paired l.sent l.received)
