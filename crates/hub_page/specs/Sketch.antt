-- What a sketch tells of the steps of a block: of each lane and of each port so much that they can be drawn, in a row of few steps to a
-- dot, before their lines are read.
use Rattle.std.specs.Prelude.{ℕ, ◌+◌, ◌-◌, ◌==◌, ◌&&◌, Bool, List, [], ◌++◌, codes, decimal, Option, None, Some, if◌then◌else◌}
use Rattle.std.specs.List.{flat_map, range_with_len}
use Rattle.hub_base.specs.declared.limits.TheConstants.{MOST_PORTS}
use Rattle.hub_base.specs.declared.value.Port.{Port}
use Rattle.hub_base.specs.Entry.{Entry}
use Rattle.hub_story.specs.declared.told.Told.{Told}
use Rattle.hub_story.specs.Levels.{told_by}
use Rattle.hub_page.specs.declared.sketch.LaneCounts.{LaneCounts}
use Rattle.hub_page.specs.declared.sketch.PortCounts.{PortCounts}
use Rattle.hub_page.specs.declared.sketch.Sketch.{Sketch}
use Rattle.hub_page.specs.Block.{IsBlock}
use Rattle.hub_page.specs.Known.{entries_of, procs_of, told_of}
use Rattle.hub_page.specs.Lanes.{asked_at, troubles_at, waiting_call, waits_at}
use Rattle.hub_page.specs.Past.{IsPast}
use Rattle.hub_page.specs.Places.{sum_over, most_over}
use Rattle.hub_page.specs.Ports.{held_at, received_within, sent_within}

-- a letter and a number, and nothing for 0
abbrev pub part_words : List ℕ → ℕ → List ℕ
part_words letter n = if n == 0 then [] else letter ++ decimal n

-- ---- lanes
-- how long ago it was asked
abbrev pub since : ℕ → Option ℕ → ℕ
since end None = 0
since end (Some asked) = end - asked

-- behind how many of the steps a call of the lane waits, how many of them it asks, how many of its own they tell to be trouble, and since
-- when a call of it waits behind them
abbrev pub lane_counts : List Entry → List Told → ℕ → ℕ → ℕ → ℕ → LaneCounts
lane_counts es all procs first end lane = record {
  waited = sum_over (waits_at all procs lane) first end;
  asked = sum_over (asked_at es procs lane) first end;
  troubles = sum_over (troubles_at all procs lane) first end;
  open_for = since end (waiting_call procs lane (told_by end all));
}

abbrev pub is_idle : LaneCounts → Bool
is_idle c = (c.waited == 0) && (c.asked == 0) && (c.troubles == 0) && (c.open_for == 0)

abbrev pub lane_words : ℕ → LaneCounts → List ℕ
lane_words lane c =
    if is_idle c then []
    else codes "P" ++ decimal lane ++ part_words (codes "w") c.waited ++ part_words (codes "a") c.asked
    ++ part_words (codes "t") c.troubles ++ part_words (codes "o") c.open_for

abbrev pub lanes_words : List Entry → List Told → ℕ → ℕ → ℕ → List ℕ
lanes_words es all procs first end =
    flat_map (λ lane. lane_words lane (lane_counts es all procs first end lane)) (range_with_len 0 (procs + 1))

-- ---- ports
-- the most that the port held behind one of the steps by which a value moved on it, how many values were sent, and how many received
abbrev pub port_counts : List Entry → List Told → ℕ → ℕ → Port → PortCounts
port_counts es all first end p = record {
  most = most_over (held_at es all p) first end;
  sent = sent_within es all p first end;
  received = received_within es all p first end;
}

-- no value moved
abbrev pub is_still : PortCounts → Bool
is_still c = (c.sent == 0) && (c.received == 0)

abbrev pub port_words : Port → PortCounts → List ℕ
port_words p c =
    if is_still c then []
    else codes "p" ++ decimal p.0 ++ part_words (codes "m") c.most ++ part_words (codes "s") c.sent ++ part_words (codes "g") c.received

abbrev pub port_of : ℕ → Port
port_of number = record { 0 = number }

-- of those with numbers below the last argument
abbrev pub ports_below : List Entry → List Told → ℕ → ℕ → ℕ → List ℕ
ports_below es all first end count =
    flat_map (λ number. port_words (port_of number) (port_counts es all first end (port_of number))) (range_with_len 0 count)

-- of all that a hub can have; unfoldable, so that no goal of a function writes them out
unfoldable pub ports_words : List Entry → List Told → ℕ → ℕ → List ℕ
ports_words es all first end = ports_below es all first end (MOST_PORTS + 1)

-- ---- all
-- of the steps from the first place on, before the end
unfoldable pub sketch_words : List Entry → List Told → ℕ → ℕ → ℕ → List ℕ
sketch_words es all procs first end = codes "~" ++ lanes_words es all procs first end ++ ports_words es all first end ++ codes "\n"

-- ---- with what is known by then
abbrev pub counts_of_lane : Sketch → ℕ → LaneCounts
counts_of_lane s = lane_counts (entries_of s.known.now) (told_of s.known.now) (procs_of s.known.now) s.block.now.first s.end

abbrev pub counts_of_port : Sketch → Port → PortCounts
counts_of_port s = port_counts (entries_of s.known.now) (told_of s.known.now) s.block.now.first s.end

abbrev pub words_of_lanes : Sketch → List ℕ
words_of_lanes s = lanes_words (entries_of s.known.now) (told_of s.known.now) (procs_of s.known.now) s.block.now.first s.end

abbrev pub words_of_ports : Sketch → List ℕ
words_of_ports s = ports_words (entries_of s.known.now) (told_of s.known.now) s.block.now.first s.end

abbrev pub words_of : Sketch → List ℕ
words_of s = sketch_words (entries_of s.known.now) (told_of s.known.now) (procs_of s.known.now) s.block.now.first s.end

-- what is known by then, and what was counted of the block
pub record IsSketch (s : Sketch) : Type 0 where
  pub past : IsPast s.known.now s.end s.past.now
  pub block : IsBlock s.known.now s.end s.block.now
