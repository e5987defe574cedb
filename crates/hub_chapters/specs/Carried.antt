-- What a port has carried in all, and how a hub that is cut counts it: to the counts of its last chapter it adds
-- how many values were received before. What lies in a buffer at a cut is sent again, so it is counted once.
use Rattle.std.specs.Prelude.{◌≡◌, ◌++◌, ◌+◌, ℕ, List, [], length}
use Rattle.std.specs.Option.{option_map_or}
use Rattle.hub_base.specs.declared.head.Head.{Head}
use Rattle.hub_base.specs.declared.value.Port.{Port}
use Rattle.hub_base.specs.declared.value.Value.{Value}
use Rattle.hub_base.specs.State.{State, channel_at}
use Rattle.hub_base.specs.Runs.{state}
use Rattle.hub_base.specs.Values.{sent_values, received_values}
use Rattle.hub_chapters.specs.Chapters.{Chapters, last_chapter, history}
use Rattle.hub_chapters.specs.Chapters.Chapters.{First, Cut}

-- the values that were received on a port in the chapters before the last
abbrev pub carried : Head → Chapters → Port → List Value
carried h (First es) p = []
carried h (Cut chapters later) p = carried h chapters p ++ received_values h (last_chapter h chapters) p

-- how many values a state has counted as sent on a port; none on one that was not made
abbrev pub sent_count : State → Port → ℕ
sent_count s p = option_map_or (λ c. length c.sent) (channel_at s p) 0

-- and as received
abbrev pub received_count : State → Port → ℕ
received_count s p = option_map_or (λ c. c.received) (channel_at s p) 0

-- what is added to a port's counts: at each cut, what was counted as received in the chapter that ends
abbrev pub base_count : Head → Chapters → Port → ℕ
base_count h (First es) p = 0
base_count h (Cut chapters later) p =
    base_count h chapters p + received_count (state h (last_chapter h chapters)) p

-- on each port
pub record CarriedLaw (h : Head) (chapters : Chapters) (p : Port) : Type 0 where
  pub received :
      received_values h (history chapters) p ≡ carried h chapters p ++ received_values h (last_chapter h chapters) p
  pub sent :
      sent_values h (history chapters) p ≡ carried h chapters p ++ sent_values h (last_chapter h chapters) p
  pub base : base_count h chapters p ≡ length (carried h chapters p)
  pub counts_received :
      received_count (state h (history chapters)) p
      ≡ base_count h chapters p + received_count (state h (last_chapter h chapters)) p
  pub counts_sent :
      sent_count (state h (history chapters)) p
      ≡ base_count h chapters p + sent_count (state h (last_chapter h chapters)) p
