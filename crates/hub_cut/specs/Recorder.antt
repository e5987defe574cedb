-- What contracts see of a recorder, which chapters it stands for, and what a step of it does.
use Rattle.std.specs.Prelude.{◌≡◌, ◌≤◌, ◌+◌, ◌*◌, ◌⊎◌, ℕ, Bool, true, false, not, ◌&&◌, ◌||◌, max, nat_le, IfSome, List, [], ◌∷◌, ◌++◌, length}
use Rattle.std.specs.Prelude.{Option, None, Some, slice_index, if◌then◌else◌}
use Rattle.std.specs.Option.{option_map}
use Rattle.hub_base.specs.Entry.{Entry, Step}
use Rattle.hub_base.specs.declared.event.Event.{Event}
use Rattle.hub_base.specs.declared.fault.Fault.{Fault}
use Rattle.hub_base.specs.declared.head.Head.{Head}
use Rattle.hub_base.specs.declared.limits.TheConstants.{MOST_PORTS}
use Rattle.hub_base.specs.declared.value.Port.{Port}
use Rattle.hub_base.specs.Head.{has_lives}
use Rattle.hub_base.specs.Journal.{JournalView}
use Rattle.hub_base.specs.Reading.{is_exit}
use Rattle.hub_base.specs.Steps.{refusal}
use Rattle.hub_base.specs.Text.{steps_of}
use Rattle.hub_base.specs.Runs.{state, moves}
use Rattle.hub_laws.specs.Limits.{all_starts}
use Rattle.hub_core.specs.HubView.{HubView, ShortInMemory, Grows}
use Rattle.hub_chapters.specs.Chapters.{Chapters, last_chapter, history, AreLegal}
use Rattle.hub_chapters.specs.Chapters.Chapters.{First, Cut}
use Rattle.hub_chapters.specs.Carried.{base_count}
use Rattle.hub_chapters.specs.Checkpoint.{checkpoint, most_steps}
use Rattle.hub_cut.specs.declared.limits.TheConstants.{CHAPTER_BYTES, MOST_KEEP}
use Rattle.hub_cut.specs.ChapterText.{FitsText, counted_in}
use Rattle.hub_cut.specs.Cut.{Refused}
use Rattle.hub_cut.specs.Totals.{in_64_bits}

-- a hub that cuts itself
pub record RecorderView : Type 0 where
  -- its journal is the present chapter
  pub hub : HubView
  -- the hub as it was at the last cut, if there was one: its journal is the chapter before
  pub before : Option HubView
  -- with fewer steps behind its checkpoint, exits not counted, a chapter is full only if its text might get too long
  pub keep : ℕ
  -- so many steps the checkpoint has that the present chapter begins with, exits not counted
  pub checkpoint : ℕ
  -- and so many came behind it
  pub fresh : ℕ
  -- and so many bytes their lines have at most
  pub bytes : ℕ
  -- the last cut was asked for, and did not wait for a full chapter
  pub early : Bool
  -- by a port's number, how many values were received on it before the present chapter
  pub bases : List ℕ

-- the head of each chapter
abbrev pub head_of_all : RecorderView → Head
head_of_all r = r.hub.terms.head

-- what a caller sees of a hub, wherever it lies in memory
abbrev pub hub_in : ShortInMemory → HubView
hub_in h = h.memory.hub

-- a recorder may keep so many entries
abbrev pub IsKeep : ℕ → Type 0
IsKeep keep = (1 ≤ keep) × (keep ≤ MOST_KEEP)

-- ---- chapters

-- what came behind the last checkpoint
abbrev pub since_cut : Chapters → List Entry
since_cut (First es) = es
since_cut (Cut chapters later) = later

-- the checkpoint that the last chapter begins with
abbrev pub last_checkpoint : Head → Chapters → List Entry
last_checkpoint h (First es) = []
last_checkpoint h (Cut chapters later) = checkpoint (state h (last_chapter h chapters))

-- the journal of the chapter before the last, if there is one
abbrev pub chapter_before : Head → Chapters → Option JournalView
chapter_before h (First es) = None
chapter_before h (Cut chapters later) = Some (record { head = h; entries = last_chapter h chapters })

-- so many steps come behind a checkpoint of so many before the next cut: `keep`, and twice as many as are made again in a cut
abbrev pub least_of : ℕ → ℕ → ℕ
least_of keep checkpoint = max keep (2 * checkpoint)

-- a chapter is full with so many steps behind its checkpoint, or where its text might soon be longer than a reader takes
abbrev pub is_full_at : ℕ → ℕ → ℕ → ℕ → Bool
is_full_at keep checkpoint fresh bytes = nat_le (least_of keep checkpoint) fresh || nat_le CHAPTER_BYTES bytes

-- where there is a chapter before the last, it was cut once it was full
abbrev pub WasFull : Head → ℕ → Chapters → Type 0
WasFull h keep (First es) = Unit {0}
WasFull h keep (Cut chapters later) =
    is_full_at keep (steps_of (last_checkpoint h chapters)) (steps_of (since_cut chapters)) (counted_in (since_cut chapters)) ≡ true

-- the journal of a hub
abbrev pub journal_of : HubView → JournalView
journal_of h = record { head = h.terms.head; entries = h.journal }

-- the recorder stands at the end of these chapters
pub record Records (chapters : Chapters) (r : RecorderView) : Type 0 where
  pub legal : AreLegal (head_of_all r) chapters
  pub present : r.hub.journal ≡ last_chapter (head_of_all r) chapters
  pub before : option_map journal_of r.before ≡ chapter_before (head_of_all r) chapters
  pub checkpoint : r.checkpoint ≡ steps_of (last_checkpoint (head_of_all r) chapters)
  pub fresh : r.fresh ≡ steps_of (since_cut chapters)
  pub bytes : r.bytes ≡ counted_in (since_cut chapters)
  pub few : r.fresh ≤ least_of r.keep r.checkpoint
  -- so the last `keep` steps stand in these two chapters, or as many as two texts hold, unless a cut was asked for
  pub full : r.early ≡ false → WasFull (head_of_all r) r.keep chapters
  pub bases : (p : Port) → p.0 ≤ MOST_PORTS → slice_index r.bases p.0 ≡ in_64_bits (base_count (head_of_all r) chapters p)

-- it stands at the end of some
abbrev pub IsRecorder : RecorderView → Type 0
IsRecorder r = (chapters : Chapters) × Records chapters r

-- the present chapter has the steps of its checkpoint, `keep` more or twice as many; an exit of each process; and one more for
-- each start, of which none is in the checkpoint, and none in an edition without starts
pub record IsShort (r : RecorderView) : Type 0 where
  pub checkpoint : r.checkpoint ≤ most_steps (head_of_all r)
  pub few :
      length r.hub.journal
      ≤ r.checkpoint + least_of r.keep r.checkpoint + (head_of_all r).procs + length (all_starts r.hub.journal)
  pub starts : length (all_starts r.hub.journal) ≤ least_of r.keep r.checkpoint
  pub none : has_lives (head_of_all r).edition ≡ false → all_starts r.hub.journal ≡ []

-- a reader takes the texts of both
abbrev pub FitTexts : RecorderView → Type 0
FitTexts r = FitsText r.hub × IfSome r.before FitsText

-- ---- a step

-- the present chapter is full: it is cut before the next step that is no exit. So no exit asks for memory
abbrev pub is_full : RecorderView → Bool
is_full r = is_full_at r.keep r.checkpoint r.fresh r.bytes

-- a step begins a chapter
abbrev pub begins : RecorderView → Step → Bool
begins r step = not (is_exit step) && is_full r

-- the chapters with this entry behind them, after a cut or without one
abbrev pub with_next : Bool → Chapters → Entry → Chapters
with_next true chapters e = Cut chapters (e ∷ [])
with_next false (First es) e = First (es ++ e ∷ [])
with_next false (Cut chapters later) e = Cut chapters (later ++ e ∷ [])

-- a step is told and recorded as the next of the whole history
pub record GoesOn (old : RecorderView) (chapters : Chapters) (e : Entry) (new : RecorderView) (told : List Event) : Type 0 where
  pub admitted : refusal (state (head_of_all old) (history chapters)) e.pid ≡ None
  pub events : told ≡ (moves (state (head_of_all old) (history chapters)) e).events
  pub history : history (with_next (begins old e.step) chapters e) ≡ history chapters ++ e ∷ []
  pub records : Records (with_next (begins old e.step) chapters e) new

-- what a step that was made leaves and tells
pub record RecordsStep (old : RecorderView) (e : Entry) (new : RecorderView) (told : List Event) : Type 0 where
  pub goes_on : (chapters : Chapters) → Records chapters old → GoesOn old chapters e new told
  pub terms : new.hub.terms ≡ old.hub.terms
  pub keep : new.keep ≡ old.keep
  -- a chapter that a step begins was not asked for
  pub early : new.early ≡ (if begins old e.step then false else old.early)

-- what a cut that was asked for leaves: the history is as it was, and the next entry comes behind a checkpoint
pub record RecordsCut (old new : RecorderView) : Type 0 where
  pub goes_on : (chapters : Chapters) → Records chapters old → Records (Cut chapters []) new
  pub terms : new.hub.terms ≡ old.hub.terms
  pub keep : new.keep ≡ old.keep
  pub early : new.early ≡ true

-- a step that begins a chapter hands out the one before that which ends
unfoldable pub chapter_out : RecorderView → Step → Option HubView
chapter_out r step = if begins r step then r.before else None

-- what a place for chapters then holds: the one that is handed out, or else what was there
abbrev pub out_or : Option HubView → Option HubView → Option HubView
out_or None there = there
out_or (Some chapter) there = Some chapter

-- memory is asked for: by a cut, or because the journal may have to grow
abbrev pub WantsMemory : RecorderView → Entry → Type 0
WantsMemory r e = (begins r e.step ≡ true) ⊎ Grows e.step r.hub.places

-- when each refusal of a step comes: the history decides
abbrev pub RefusesStep : RecorderView → Entry → Fault → Type 0
RefusesStep r e f =
    (chapters : Chapters) → Records chapters r → Refused (state (head_of_all r) (history chapters)) (WantsMemory r e) e f
