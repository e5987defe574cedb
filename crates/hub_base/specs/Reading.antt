-- A whole text: how it is spelled, and what any list of bytes says when its lines are read in
-- order. The first faulty line decides, and of its faults the first in this order: a byte past the
-- limit, no newline, the head lines, the shape of a step, its numbers, its spelling, one step too
-- many.
use Rattle.std.specs.Prelude.{ℕ, ◌+◌, ◌<◌, ◌==◌, ◌&&◌, not, nat_lt, nat_le, Bool, true, false, List, [], ◌∷◌, ◌++◌}
use Rattle.std.specs.Prelude.{length, codes, decimal, Option, None, Some, Result, Ok, Err, if◌then◌else◌}
use Rattle.std.specs.List.{flat_map}
use Rattle.hub_base.specs.Entry.{Entry, Step}
use Rattle.hub_base.specs.declared.entry.Step.TheVariants.{Exit}
use Rattle.hub_base.specs.declared.head.Edition.{Edition}
use Rattle.hub_base.specs.declared.head.Edition.TheVariants as edition
use Rattle.hub_base.specs.declared.head.Head.{Head}
use Rattle.hub_base.specs.declared.read_fault.Kind.{Kind}
use Rattle.hub_base.specs.declared.limits.TheConstants.{MOST_PROCS, MOST_STEPS, MOST_BYTES}
use Rattle.hub_base.specs.declared.read_fault.Kind.TheVariants.{BadHeader, BadProcs, CutLine, TooLong}
use Rattle.hub_base.specs.Head.{head_of}
use Rattle.hub_base.specs.Lines.{line, pieces, read_fields, number, same_text}

-- the first line without its newline
abbrev pub header : Edition → List ℕ
header edition.One = codes "chanhub journal 1"
header edition.Two = codes "chanhub journal 2"
header edition.Three = codes "chanhub journal 3"

-- the second line without its newline
abbrev pub procs_line : ℕ → List ℕ
procs_line n = codes "procs " ++ decimal n

-- the two head lines
abbrev pub head_lines : Head → List ℕ
head_lines h = header h.edition ++ (codes "\n" ++ (procs_line h.procs ++ codes "\n"))

-- the text of this head and these entries
abbrev pub text : Head → List Entry → List ℕ
text h es = head_lines h ++ flat_map line es

-- a line without its newline, and whether it has one
pub record Row : Type 0 where
  pub bytes : List ℕ
  pub whole : Bool

-- the first line with this byte before it
abbrev pub front : ℕ → List Row → List Row
front c [] = record { bytes = c ∷ []; whole = false } ∷ []
front c (r ∷ rs) = record { bytes = c ∷ r.bytes; whole = r.whole } ∷ rs

-- the lines of a text: it is cut behind each newline, and a last part without one is a line if it
-- is not empty
abbrev pub rows : List ℕ → List Row
rows [] = []
rows (c ∷ cs) = if c == 10 then record { bytes = []; whole = true } ∷ rows cs else front c (rows cs)

-- the step is an exit; all others count as steps
abbrev pub is_exit : Step → Bool
is_exit Exit = true
is_exit other = false

-- what a text says: this head and these entries, or its first faulty line, counted from 1,
-- and the fault
pub data Reading : Type 0 where
  Reads : Head → List Entry → Reading
  Faulty : ℕ → Kind → Reading

-- the place behind a line that begins at this place
abbrev pub end_of : ℕ → Row → ℕ
end_of start r = start + length r.bytes + (if r.whole then 1 else 0)

-- what is wrong with a line that ends before this place, before anything is read of it
abbrev pub row_fault : ℕ → Row → Option Kind
row_fault end r =
    if nat_lt MOST_BYTES end then Some TooLong else if r.whole then None else Some CutLine

-- the same of the first line
abbrev pub line_fault : ℕ → List Row → Option Kind
line_fault start [] = None
line_fault start (r ∷ rs) = row_fault (end_of start r) r

-- the fault of line k, or else what was said
abbrev pub faulty_or : ℕ → Reading → Option Kind → Reading
faulty_or k said None = said
faulty_or k said (Some kind) = Faulty k kind

-- a line that passes the limit of bytes, or has no newline; else what it says
abbrev pub within : ℕ → ℕ → Row → Reading → Reading
within end k r said = faulty_or k said (row_fault end r)

-- what is said, behind this entry
abbrev pub with_entry : Entry → Reading → Reading
with_entry e (Reads h es) = Reads h (e ∷ es)
with_entry e (Faulty k kind) = Faulty k kind

-- what is said, behind these entries
abbrev pub behind : List Entry → Reading → Reading
behind es (Reads h fs) = Reads h (es ++ fs)
behind es (Faulty k kind) = Faulty k kind

-- some entry is said: no fault stands in the head or in the first line behind it
abbrev pub HasEntry : Reading → Type 0
HasEntry (Reads h es) = 0 < length es
HasEntry (Faulty k kind) = 3 < k

-- how many steps stand up to this entry, where so many stand before it
abbrev pub counted : ℕ → Entry → ℕ
counted steps e = if is_exit e.step then steps else steps + 1

-- this entry is one step too many
abbrev pub over : ℕ → Entry → Bool
over steps e = not (is_exit e.step) && nat_le MOST_STEPS steps

-- what line k says, and the lines behind it: `goes` tells those, by the entry
abbrev pub entry_says : ℕ → ℕ → Result Entry Kind → (Entry → Reading) → Reading
entry_says k steps (Err kind) goes = Faulty k kind
entry_says k steps (Ok e) goes = if over steps e then Faulty k TooLong else with_entry e (goes e)

-- what the lines from the k-th on say, where the k-th begins at this place and so many steps stand
-- before it
abbrev pub entries_from : Head → ℕ → ℕ → ℕ → List Row → Reading
entries_from h k start steps [] = Reads h []
entries_from h k start steps (r ∷ rs) =
    within (end_of start r) k r (
    entry_says k steps (read_fields h.edition (pieces 32 r.bytes)) (
    λ e. entries_from h (k + 1) (end_of start r) (counted steps e) rs))

-- `procs`, and a number that a hub may have
abbrev pub procs_field : List (List ℕ) → Option ℕ
procs_field (w ∷ n ∷ []) = if same_text w (codes "procs") then number MOST_PROCS n else None
procs_field other = None

-- not 0
abbrev pub above_zero : Option ℕ → Option ℕ
above_zero None = None
above_zero (Some n) = if n == 0 then None else Some n

-- the number of processes that the second line says
abbrev pub procs_number : List ℕ → Option ℕ
procs_number bytes = above_zero (procs_field (pieces 32 bytes))

-- the lines behind the second, where it says so
abbrev pub procs_say : Edition → Option ℕ → ℕ → List Row → Reading
procs_say ed None start rs = Faulty 2 BadProcs
procs_say ed (Some n) start rs = entries_from (head_of ed n) 3 start 0 rs

-- what the lines from the second on say, in a journal of this edition
abbrev pub procs_from : Edition → ℕ → List Row → Reading
procs_from ed start [] = Faulty 2 BadProcs
procs_from ed start (r ∷ rs) =
    within (end_of start r) 2 r (procs_say ed (procs_number r.bytes) (end_of start r) rs)

-- the edition that the first line says
abbrev pub edition_of : List ℕ → Option Edition
edition_of bytes =
    if same_text bytes (header edition.One) then Some edition.One
    else if same_text bytes (header edition.Two) then Some edition.Two
    else if same_text bytes (header edition.Three) then Some edition.Three else None

-- the lines behind the first, where it says so
abbrev pub edition_says : Option Edition → ℕ → List Row → Reading
edition_says None start rs = Faulty 1 BadHeader
edition_says (Some ed) start rs = procs_from ed start rs

-- what all lines say
abbrev pub reading : List Row → Reading
reading [] = Faulty 1 BadHeader
reading (r ∷ rs) =
    within (end_of 0 r) 1 r (edition_says (edition_of r.bytes) (end_of 0 r) rs)

-- what a text says
abbrev pub read_text : List ℕ → Reading
read_text bs = reading (rows bs)
