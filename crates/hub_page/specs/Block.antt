-- What is counted of the steps of a block.
use Rattle.std.specs.Prelude.{◌≡◌, ◌≤◌, ◌+◌, ℕ, max, count_by, is_some, List, length, slice_index_or, if◌then◌else◌}
use Rattle.std.specs.List.{list_any}
use Rattle.hub_base.specs.declared.limits.TheConstants.{MOST_PORTS}
use Rattle.hub_base.specs.declared.value.Port.{Port}
use Rattle.hub_story.specs.Levels.{count_at, level_of, received_by, sent_by}
use Rattle.hub_page.specs.declared.block.Block.{Block}
use Rattle.hub_page.specs.declared.known.Known.{Known}
use Rattle.hub_page.specs.declared.line.Line.{Line}
use Rattle.hub_page.specs.Known.{entries_of, procs_of, told_of}
use Rattle.hub_page.specs.Lanes.{asked_at, is_in, is_trouble_in, one_if, troubles_at, waits_at}
use Rattle.hub_page.specs.ParkedCalls.{call_of}
use Rattle.hub_page.specs.Places.{sum_over, most_over}
use Rattle.hub_page.specs.Ports.{held_at, moves_on}

-- what a table counts of a lane
abbrev pub count_of : List ℕ → ℕ → ℕ
count_of table lane = slice_index_or table lane 0

-- each table has a place for each lane, or for each port
pub record IsWhole (procs : ℕ) (block : Block) : Type 0 where
  pub asked : length block.asked.items ≡ procs + 1
  pub troubles : length block.troubles.items ≡ procs + 1
  pub waited : length block.waited.items ≡ procs + 1
  pub most : length block.most.items ≡ MOST_PORTS + 1

-- of the block's steps before this place; what was sent and received before the block stands beside
pub record IsBlock (k : Known) (end : ℕ) (block : Block) : Type 0 where
  pub begun : block.first ≤ end
  pub asked : (lane : ℕ) → lane ≤ procs_of k →
      count_of block.asked.items lane ≡ sum_over (asked_at (entries_of k) (procs_of k) lane) block.first end
  pub troubles : (lane : ℕ) → lane ≤ procs_of k →
      count_of block.troubles.items lane ≡ sum_over (troubles_at (told_of k) (procs_of k) lane) block.first end
  pub waited : (lane : ℕ) → lane ≤ procs_of k →
      count_of block.waited.items lane ≡ sum_over (waits_at (told_of k) (procs_of k) lane) block.first end
  pub most : (p : Port) → p.0 ≤ MOST_PORTS →
      count_at block.most.items p ≡ most_over (held_at (entries_of k) (told_of k) p) block.first end
  pub sent : (p : Port) → p.0 ≤ MOST_PORTS → count_at block.sent.items p ≡ sent_by (entries_of k) (told_of k) p block.first
  pub received : (p : Port) → p.0 ≤ MOST_PORTS → count_at block.received.items p ≡ received_by (entries_of k) (told_of k) p block.first

-- after the step of this line
pub record IsNext (l : Line) (old new : Block) : Type 0 where
  pub first : new.first ≡ old.first
  pub asked : (lane : ℕ) → lane ≤ procs_of l.known.now →
      count_of new.asked.items lane ≡ count_of old.asked.items lane + one_if (is_in (procs_of l.known.now) lane l.entry.now.pid)
  pub troubles : (lane : ℕ) → lane ≤ procs_of l.known.now →
      count_of new.troubles.items lane ≡ count_of old.troubles.items lane + count_by (is_trouble_in (procs_of l.known.now) lane) l.came.now
  pub waited : (lane : ℕ) → lane ≤ procs_of l.known.now →
      count_of new.waited.items lane ≡ count_of old.waited.items lane + one_if (is_some (call_of l.past.now.parked lane))
  pub most : (p : Port) → p.0 ≤ MOST_PORTS → count_at new.most.items p
      ≡ (if list_any (moves_on (entries_of l.known.now) p) l.came.now then max (count_at old.most.items p) (level_of l.past.now.levels p)
      else count_at old.most.items p)
  pub sent : new.sent.items ≡ old.sent.items
  pub received : new.received.items ≡ old.received.items
