-- What the steps at some places add up to.
use Rattle.std.specs.Prelude.{ℕ, ◌-◌, max, List, map}
use Rattle.std.specs.List.{fold, range_with_len, sum}

-- the places from the first one on, before the end
abbrev pub places : ℕ → ℕ → List ℕ
places first end = range_with_len first (end - first)

-- what so much at each place adds up to
abbrev pub sum_over : (ℕ → ℕ) → ℕ → ℕ → ℕ
sum_over amount first end = sum (map amount (places first end))

-- the most of it at one place
abbrev pub most_over : (ℕ → ℕ) → ℕ → ℕ → ℕ
most_over amount first end = fold max 0 (map amount (places first end))
