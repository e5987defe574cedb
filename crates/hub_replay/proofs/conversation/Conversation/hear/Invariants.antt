-- The whole lines so far are answered.
use Rattle.std.proofs.Common.{◌≡◌, ℕ, List, length}
use Rattle.hub_replay.specs.Verify.{newlines_in}
use Rattle.hub_replay.specs.Stands.{Stands, Going}
use Rattle.hub_replay.proofs.conversation.Conversation.hear.Given as goal

abbrev pub invariant-lines : goal.invariant-lines
invariant-lines l = (lines rest said : List ℕ) → Stands lines rest said l.initial.self → newlines_in rest ≡ 0
    → Going lines rest said l.piece l.left l.initial.answers.lines l.answers.lines l.self

abbrev pub decreases-lines : goal.decreases-lines
decreases-lines l = length l.left
