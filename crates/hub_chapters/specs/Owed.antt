-- Replies after a cut: who waits then is owed the reply that the whole history gives.
use Rattle.std.specs.Prelude.{◌≡◌, ℕ, true, false, List, Option, None, Some}
use Rattle.hub_base.specs.Entry.{Entry}
use Rattle.hub_base.specs.declared.event.Event.{Event}
use Rattle.hub_base.specs.declared.head.Head.{Head}
use Rattle.hub_base.specs.State.{State}
use Rattle.hub_base.specs.Steps.{is_waiting}
use Rattle.hub_base.specs.Runs.{state, events_after}
use Rattle.hub_laws.specs.Replies.{last_from, told_to, reply}
use Rattle.hub_chapters.specs.Checkpoint.{checkpoint}
use Rattle.hub_chapters.specs.Chapters.{Chapters, last_chapter, history}
use Rattle.hub_chapters.specs.Chapters.Chapters.{Cut}

-- the last event of process q that is not `Parked`, of these entries after that state
abbrev pub reply_since : ℕ → State → List Entry → Option Event
reply_since q s later = last_from None (told_to q (events_after s later))

-- what process q is told in a chapter behind its checkpoint
abbrev pub reply_in : ℕ → Head → Chapters → List Entry → Option Event
reply_in q h chapters later = reply_since q (state h (checkpoint (state h (last_chapter h chapters)))) later

-- these chapters are cut, and these entries follow
pub record OwedLaw (h : Head) (chapters : Chapters) (later : List Entry) (q : ℕ) : Type 0 where
  -- what the process is told then is its reply in the chapter, and in the whole history
  pub in_chapter :
      (x : Event) → reply_in q h chapters later ≡ Some x → reply q h (last_chapter h (Cut chapters later)) ≡ Some x
  pub in_history :
      (x : Event) → reply_in q h chapters later ≡ Some x → reply q h (history (Cut chapters later)) ≡ Some x
  -- where it waited at the cut, and waits no longer, it was told
  pub comes :
      is_waiting (state h (history chapters)) q ≡ true →
      is_waiting (state h (history (Cut chapters later))) q ≡ false →
      (x : Event) × (reply_in q h chapters later ≡ Some x)
  -- where it was told nothing, its reply is the one of before the cut
  pub stays :
      reply_in q h chapters later ≡ None → reply q h (history (Cut chapters later)) ≡ reply q h (history chapters)
