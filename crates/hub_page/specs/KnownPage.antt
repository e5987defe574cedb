-- A page of a journal of which so much is known, and its parts.
use Rattle.std.specs.Prelude.{ℕ, List, length}
use Rattle.std.specs.List.{flat_map, range_with_len}
use Rattle.hub_story.specs.declared.window.Window.{Window}
use Rattle.hub_page.specs.declared.known.Known.{Known}
use Rattle.hub_page.specs.Data.{block_count, block_text, data_text, line_at}
use Rattle.hub_page.specs.Known.{entries_of, head_of, procs_of, told_of}
use Rattle.hub_page.specs.Page.{page_text, story_end}
use Rattle.hub_page.specs.Places.{places}

-- the line of the entry at this place
abbrev pub line_of : Known → ℕ → List ℕ
line_of k = line_at k.window (entries_of k) (told_of k)

-- the lines from the first place on, before the end
abbrev pub lines_of : Known → ℕ → ℕ → List ℕ
lines_of k first end = flat_map (line_of k) (places first end)

-- the block of this number
abbrev pub block_of : Known → ℕ → List ℕ
block_of k = block_text k.window (procs_of k) (entries_of k) (told_of k)

-- so many blocks, from the first on
abbrev pub blocks_of : Known → ℕ → List ℕ
blocks_of k count = flat_map (block_of k) (range_with_len 0 count)

-- all blocks
abbrev pub all_blocks : Known → List ℕ
all_blocks k = blocks_of k (block_count (length (entries_of k)))

-- all data, where these steps are asked for
abbrev pub data_of : Window → Known → List ℕ
data_of w k = data_text w (head_of k) (entries_of k) (told_of k)

-- the end of its story
abbrev pub end_of : Known → List ℕ
end_of k = story_end (head_of k) (entries_of k) (told_of k)

-- the page
abbrev pub page_of : Window → Known → List ℕ
page_of w k = page_text w (head_of k) (entries_of k) (told_of k)
