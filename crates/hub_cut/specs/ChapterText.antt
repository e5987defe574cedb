-- How long a journal's text can be, by the number of its entries and of their cases.
use Rattle.std.specs.Prelude.{◌≤◌, ◌+◌, ◌*◌, ℕ, List, [], ◌∷◌, length, if◌then◌else◌}
use Rattle.std.specs.List.{flat_map}
use Rattle.hub_base.specs.Entry.{Entry}
use Rattle.hub_base.specs.declared.limits.TheConstants.{MOST_BYTES}
use Rattle.hub_base.specs.Lines.{line}
use Rattle.hub_base.specs.Reading.{is_exit, text}
use Rattle.hub_base.specs.Text.{steps_of}
use Rattle.hub_laws.specs.Limits.{all_starts, is_start}
use Rattle.hub_core.specs.HubView.{HubView}
use Rattle.hub_core.specs.LogView.{cases_of}
use Rattle.hub_cut.specs.declared.limits.TheConstants.{LINE_BYTES, CASE_BYTES, CHECKPOINT_BYTES}

-- so many bytes are kept for the line of an entry, at least as many as it has. A start keeps those of a second line, for the
-- exit that its process may then make again
abbrev pub most_line : Entry → ℕ
most_line e = if is_start e.step then 2 * LINE_BYTES else LINE_BYTES + CASE_BYTES * length (cases_of e)

-- and so many the lines of these
abbrev pub most_lines : List Entry → ℕ
most_lines [] = 0
most_lines (e ∷ es) = most_line e + most_lines es

-- so many bytes count towards a full chapter; an exit counts none of its own
abbrev pub counted : Entry → ℕ
counted e = if is_exit e.step then 0 else most_line e

-- and so many of these
abbrev pub counted_in : List Entry → ℕ
counted_in [] = 0
counted_in (e ∷ es) = counted e + counted_in es

-- the lines of these entries are those of a checkpoint, so many bytes that count behind it, and those of exits for which no
-- start keeps a line
abbrev pub FitLines : List Entry → ℕ → Type 0
FitLines es bytes =
    length (flat_map line es) + LINE_BYTES * (steps_of es + length (all_starts es))
    ≤ CHECKPOINT_BYTES + bytes + LINE_BYTES * length es

-- the text of its journal is not longer than a reader takes
abbrev pub FitsText : HubView → Type 0
FitsText h = length (text h.terms.head h.journal) ≤ MOST_BYTES
