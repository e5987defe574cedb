-- What every reader keeps: the limits of a text hold of what was read.
use Rattle.std.specs.Prelude.{◌≤◌, ◌+◌}
use Rattle.hub_base.specs.declared.limits.TheConstants.{MOST_STEPS, MOST_BYTES}
use Rattle.hub_text.specs.declared.reader.Reader.TheInside.{Inside}
use Rattle.hub_base.specs.Head.{IsHead}
use Rattle.hub_base.specs.Reading.{Reading, entries_from, rows}

-- what the lines that are left say
abbrev pub left_of : Inside → Reading
left_of r = entries_from r.head r.line r.place r.steps (rows r.rest.now)

-- a hub may have so many processes, two lines were read at least, and what was read is within the
-- limits
pub record ReaderKeeps (r : Inside) : Type 0 where
  pub head : IsHead r.head
  pub place : r.place ≤ MOST_BYTES
  pub behind_head : 3 ≤ r.line
  pub line : r.line ≤ r.place + 3
  pub steps : r.steps ≤ MOST_STEPS
