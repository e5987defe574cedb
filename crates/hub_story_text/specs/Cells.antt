-- A line in columns.
use Rattle.std.specs.Prelude.{ℕ, ◌+◌, ◌-◌, List, [], ◌∷◌, ◌++◌, length, replicate, decimal, nat_lt, if◌then◌else◌}

-- 32 is the space
abbrev pub spaces : ℕ → List ℕ
spaces n = replicate n 32

-- how many spaces stand before a cell of this column, behind so many bytes: two at least
abbrev pub gap : ℕ → ℕ → ℕ
gap column len = if nat_lt (len + 2) column then column - len else 2

-- the line, and a cell behind it; an empty one leaves no space
abbrev pub with_cell : ℕ → List ℕ → List ℕ → List ℕ
with_cell column line [] = line
with_cell column line (c ∷ cs) = line ++ spaces (gap column (length line)) ++ c ∷ cs

-- a number to the right of so many places
abbrev pub right : ℕ → ℕ → List ℕ
right width n = spaces (width - length (decimal n)) ++ decimal n
