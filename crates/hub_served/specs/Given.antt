-- What contracts see of the journal that is followed, and what is kept of where each process's entries stand.
use Rattle.std.specs.Prelude.{◌≡◌, ◌≤◌, ◌<◌, ◌+◌, ◌==◌, ℕ, List, length, drop, slice_get, slice_index_or, Option, Some, unwrap_or}
use Rattle.std.specs.List.{position_from}
use Rattle.hub_base.specs.Entry.{Entry}

-- a journal, of which so many entries are made
pub record GivenView : Type 0 where
  pub entries : List Entry
  pub made : ℕ

-- the place of the first entry of process n, from this place on
abbrev pub turn_from : ℕ → ℕ → List Entry → Option ℕ
turn_from n place es = position_from (λ e. e.pid.0 == n) place (drop place es)

-- the same; where there is none, the number of entries
abbrev pub place_from : ℕ → ℕ → List Entry → ℕ
place_from n place es = unwrap_or (turn_from n place es) (length es)

-- the links of the entries from this place on lead to the next entries of their processes
pub record AreLinks (links : List ℕ) (from : ℕ) (es : List Entry) : Type 0 where
  pub whole : length links ≡ length es
  pub lead : (place : ℕ) (e : Entry) → from ≤ place → slice_get es place ≡ Some e
      → slice_index_or links place 0 ≡ place_from e.pid.0 (place + 1) es

-- for each process it has the place of its first entry, from this place on
pub record AreTurns (turns : List ℕ) (place : ℕ) (es : List Entry) : Type 0 where
  pub whole : length turns ≡ 256
  pub first : (n : ℕ) → n < 256 → slice_index_or turns n 0 ≡ place_from n place es
