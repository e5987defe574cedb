-- Chains of chapters: what the texts of chapters are, and where a chain stands behind them.
use Rattle.std.specs.Prelude.{◌≡◌, ◌≤◌, ℕ, List, length}
use Rattle.hub_base.specs.Entry.{Entry}
use Rattle.hub_base.specs.declared.head.Head.{Head}
use Rattle.hub_base.specs.declared.limits.TheConstants.{MOST_BYTES, MOST_STEPS}
use Rattle.hub_base.specs.Journal.{JournalView}
use Rattle.hub_base.specs.Runs.{state, events}
use Rattle.hub_base.specs.Text.{IsText}
use Rattle.hub_laws.specs.Journals.{IsLegal}
use Rattle.hub_chapters.specs.Chapters.{Chapters, last_chapter, history, told_in, AreLegal}
use Rattle.hub_chapters.specs.Chapters.Chapters.{First, Cut}
use Rattle.hub_chapters.specs.Checkpoint.{checkpoint}
use Rattle.hub_core.specs.HubView.{HubView}

-- the text is that of the last of these chapters, which is a legal journal
pub record IsChapter (text : List ℕ) (h : Head) (chapters : Chapters) : Type 0 where
  pub spelled : IsText text h (last_chapter h chapters)
  pub legal : IsLegal h (last_chapter h chapters)

-- a chain stands behind these chapters: they are legal journals of this head, and what the next one must begin with is
-- the checkpoint of the last
pub record Stands (chain : JournalView) (h : Head) (chapters : Chapters) : Type 0 where
  pub head : chain.head ≡ h
  pub legal : AreLegal h chapters
  pub checkpoint : chain.entries ≡ checkpoint (state h (last_chapter h chapters))

-- a chain stands behind one chapter, whose text this is
pub record Begins (text : List ℕ) (chain : JournalView) : Type 0 where
  pub entries : List Entry
  pub spelled : IsText text chain.head entries
  pub stands : Stands chain chain.head (First entries)

-- behind these chapters stands one more, whose text this is
pub record Follows (text : List ℕ) (h : Head) (chapters : Chapters) (chain : JournalView) : Type 0 where
  pub later : List Entry
  pub spelled : IsText text h (last_chapter h (Cut chapters later))
  pub stands : Stands chain h (Cut chapters later)

-- the chapters are one legal history, and tell what it tells
pub record IsWhole (h : Head) (chapters : Chapters) : Type 0 where
  pub chapters_legal : AreLegal h chapters
  pub history_legal : IsLegal h (history chapters)
  pub told : told_in h chapters ≡ events h (history chapters)

-- a text says this journal
pub record IsRead (journal : JournalView) : Type 0 where
  pub text : List ℕ
  pub spelled : IsText text journal.head journal.entries

-- the hub has made the steps of this journal, and no others; its limit is the greatest
pub record IsHubOf (given : JournalView) (hub : HubView) : Type 0 where
  pub head : hub.terms.head ≡ given.head
  pub entries : hub.journal ≡ given.entries
  pub limit : hub.terms.limit ≡ MOST_STEPS

-- the hub has made the steps of the journal whose text this is, a legal one; its limit is the greatest
pub record MakesText (text : List ℕ) (hub : HubView) : Type 0 where
  pub spelled : IsText text hub.terms.head hub.journal
  pub legal : IsLegal hub.terms.head hub.journal
  pub few : length hub.journal ≤ MOST_BYTES
  pub limit : hub.terms.limit ≡ MOST_STEPS

-- the journal is legal, and the chain has its checkpoint
pub record EndsIn (given chain : JournalView) : Type 0 where
  pub legal : IsLegal given.head given.entries
  pub head : chain.head ≡ given.head
  pub checkpoint : chain.entries ≡ checkpoint (state given.head given.entries)
