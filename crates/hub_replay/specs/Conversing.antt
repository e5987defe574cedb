-- What is known of a conversation between two reads.
use Rattle.std.specs.Prelude.{◌≡◌, ℕ, ◌≤◌, List, ◌++◌, length}
use Rattle.hub_base.specs.declared.limits.TheConstants.{MOST_BYTES}
use Rattle.hub_replay.specs.Verify.{newlines_in}
use Rattle.hub_replay.specs.declared.conversation.Conversation.{Conversation}
use Rattle.hub_replay.specs.Stands.{Stands}

-- these whole lines were heard, and behind them a part of the next; what was said answers them
pub record Conversing (Heard Said : List ℕ → Type 0) (c : Conversation) : Type 0 where
  pub lines : List ℕ
  pub rest : List ℕ
  pub said : List ℕ
  pub is_heard : Heard (lines ++ rest)
  pub is_said : Said said
  pub stands : Stands lines rest said c
  pub whole : newlines_in rest ≡ 0
  pub fits : length (lines ++ rest) ≤ MOST_BYTES
