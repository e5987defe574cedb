-- A line of a text while it is written, cell by cell.
use Rattle.std.specs.Prelude.{◌≡◌, ℕ, ◌-◌, ◌==◌, List, ◌++◌, length, take, if◌then◌else◌}
use Rattle.hub_story_text.specs.declared.cells.Cell.{Cell}
use Rattle.hub_story_text.specs.Cells.{gap, spaces}

-- the line that begins there, the last of the text, becomes what f says
abbrev pub LineBecomes : ℕ → List ℕ → List ℕ → (List ℕ → List ℕ) → Type 0
LineBecomes start old new f = (before line : List ℕ) → length before ≡ start → old ≡ before ++ line → new ≡ before ++ f line

-- a cell of this column begins
pub record Opens (start column : ℕ) (old new : List ℕ) (cell : Cell) : Type 0 where
  pub text : new ≡ old ++ spaces (gap column (length old - start))
  pub before : cell.before ≡ length old
  pub begin : cell.begin ≡ length new

-- what is left of the text where the cell ends; nothing of an empty one
abbrev pub closed : List ℕ → Cell → List ℕ
closed text cell = if length text == cell.begin then take cell.before text else text
