-- What a journal's text is, and where other bytes are faulty, said of whole lines and their
-- spellings. How bytes are read is no part of it: that both agree is what `read_journal` and
-- `one_reading` promise.
use Rattle.std.specs.Prelude.{◌≡◌, ℕ, ◌+◌, ◌≤◌, true, List, [], ◌∷◌, ◌++◌, ◌⊎◌, length, map}
use Rattle.std.specs.Prelude.{decimal, Option, None, Some, Result, Ok, Err, if◌then◌else◌}
use Rattle.std.specs.List.{flat_map, AllByRecursion, join_with_byte}
use Rattle.hub_base.specs.declared.case.Case.{Case}
use Rattle.hub_base.specs.declared.case.Case.TheVariants.{Send, Recv}
use Rattle.hub_base.specs.Entry.{Entry, Step}
use Rattle.hub_base.specs.declared.entry.Step.TheVariants.{Make, Call, Close, Exit, Cancel, Start, Reopen}
use Rattle.hub_base.specs.declared.head.Edition.{Edition}
use Rattle.hub_base.specs.declared.head.Head.{Head}
use Rattle.hub_base.specs.Value.{IsValue}
use Rattle.hub_base.specs.declared.read_fault.Kind.{Kind}
use Rattle.hub_base.specs.declared.limits.TheConstants.{CASE_PLACES, MOST_STEPS, MOST_BYTES, GREATEST_PID}
use Rattle.hub_base.specs.declared.limits.TheConstants.{GREATEST_PORT, GREATEST_CAP, GREATEST_WORD}
use Rattle.hub_base.specs.declared.read_fault.Kind.TheVariants.{BadHeader, BadProcs, TooLong}
use Rattle.hub_base.specs.Lines.{line, step_fields, pieces, read_fields}
use Rattle.hub_base.specs.Head.{IsHead, is_of}
use Rattle.hub_base.specs.Reading.{text, header, head_lines, procs_line, Row, rows, is_exit, row_fault, end_of, over}
use Rattle.hub_base.specs.Reading.{edition_of, procs_number}

-- the port and the value of a case are such as a text can hold
abbrev pub CaseFits : Case → Type 0
CaseFits (Send p v) = (p.0 ≤ GREATEST_PORT) × IsValue v
CaseFits (Recv p) = p.0 ≤ GREATEST_PORT

-- a call whose cases have places in an entry, with such parts
pub record CallFits (cases : List Case) (word : ℕ) : Type 0 where
  pub few : length cases ≤ CASE_PLACES
  pub each : AllByRecursion CaseFits cases
  pub word_fits : word ≤ GREATEST_WORD

-- the same of a step
abbrev pub StepFits : Step → Type 0
StepFits (Make cap) = cap ≤ GREATEST_CAP
StepFits (Call cases default word) = CallFits cases.items word
StepFits (Close p) = p.0 ≤ GREATEST_PORT
StepFits Exit = 0 ≤ 0
StepFits (Cancel q) = q.0 ≤ GREATEST_PID
StepFits (Start q) = q.0 ≤ GREATEST_PID
StepFits (Reopen p cap) = (p.0 ≤ GREATEST_PORT) × (cap ≤ GREATEST_CAP)

-- and of an entry, in a journal of this edition
pub record Fits (edition : Edition) (e : Entry) : Type 0 where
  pub pid : e.pid.0 ≤ GREATEST_PID
  pub step : StepFits e.step
  pub of_edition : is_of edition e.step ≡ true

-- 1 for a step, 0 for an exit
abbrev pub one_step : Entry → ℕ
one_step e = if is_exit e.step then 0 else 1

-- how many entries are no exits
abbrev pub steps_of : List Entry → ℕ
steps_of [] = 0
steps_of (e ∷ es) = one_step e + steps_of es

-- the bytes are the text of this head and these entries, and keep within its limits
pub record IsText (bytes : List ℕ) (h : Head) (es : List Entry) : Type 0 where
  pub spelled : bytes ≡ text h es
  pub head : IsHead h
  pub fits : AllByRecursion (Fits h.edition) es
  pub bytes_fit : length bytes ≤ MOST_BYTES
  pub steps_fit : steps_of es ≤ MOST_STEPS

-- the fields of an entry's line
abbrev pub fields_of : Entry → List (List ℕ)
fields_of e = decimal e.pid.0 ∷ step_fields e.step

-- an entry's line without its newline
abbrev pub body : Entry → List ℕ
body e = join_with_byte 32 (fields_of e)

-- these fields spell this entry, in a journal of this edition
abbrev pub Spells : Edition → List (List ℕ) → Entry → Type 0
Spells edition fields e = (fields ≡ fields_of e) × Fits edition e

-- the line of an entry, as a row
abbrev pub row_of : Entry → Row
row_of e = record { bytes = body e; whole = true }

-- what is wrong with what a further line says, where so many steps stand before it
abbrev pub fault_of_entry : ℕ → Result Entry Kind → Option Kind
fault_of_entry steps (Err kind) = Some kind
fault_of_entry steps (Ok e) = if over steps e then Some TooLong else None

-- the first of two faults
abbrev pub first_fault : Option Kind → Option Kind → Option Kind
first_fault None other = other
first_fault (Some kind) other = Some kind

-- what is wrong with a further line that begins at this place: the first fault that applies
abbrev pub entry_fault : Edition → ℕ → ℕ → Row → Option Kind
entry_fault edition place steps r =
    first_fault (row_fault (end_of place r) r)
    (fault_of_entry steps (read_fields edition (pieces 32 r.bytes)))

-- lines of entries within the limits, and then a faulty line: the first of these lines has number k
-- and begins at this place, and so many lines before it are no exits
pub record EntryFails (edition : Edition) (place steps k : ℕ) (rs : List Row) (faulty : ℕ) (kind : Kind) : Type 0 where
  pub es : List Entry
  pub bad : Row
  pub more : List Row
  pub lines : rs ≡ map row_of es ++ bad ∷ more
  pub count : faulty ≡ k + length es
  pub fits : AllByRecursion (Fits edition) es
  pub bytes_fit : place + length (flat_map line es) ≤ MOST_BYTES
  pub steps_fit : steps + steps_of es ≤ MOST_STEPS
  pub fault : entry_fault edition (place + length (flat_map line es)) (steps + steps_of es) bad ≡ Some kind

-- ---- the head
-- the first line
abbrev pub header_row : Edition → Row
header_row edition = record { bytes = header edition; whole = true }

-- the second line
abbrev pub procs_row : ℕ → Row
procs_row n = record { bytes = procs_line n; whole = true }

-- it says no edition
abbrev pub fault_of_edition : Option Edition → Option Kind
fault_of_edition None = Some BadHeader
fault_of_edition (Some edition) = None

-- what is wrong with the first line
abbrev pub header_fault : Row → Option Kind
header_fault r = first_fault (row_fault (end_of 0 r) r) (fault_of_edition (edition_of r.bytes))

-- it says no number of processes
abbrev pub fault_of_procs : Option ℕ → Option Kind
fault_of_procs None = Some BadProcs
fault_of_procs (Some n) = None

-- what is wrong with the second line; 18 is its place
abbrev pub procs_fault : Row → Option Kind
procs_fault r = first_fault (row_fault (end_of 18 r) r) (fault_of_procs (procs_number r.bytes))

-- the fault of the first of these lines, or the fault that there is none
abbrev pub fault_of_first : (Row → Option Kind) → Kind → List Row → Option Kind
fault_of_first fault missing [] = Some missing
fault_of_first fault missing (r ∷ rs) = fault r

-- line 1 is faulty
pub record FaultyFirst (rs : List Row) (k : ℕ) (kind : Kind) : Type 0 where
  pub number : k ≡ 1
  pub fault : fault_of_first header_fault BadHeader rs ≡ Some kind

-- line 2 is, behind the header
pub record FaultySecond (rs : List Row) (k : ℕ) (kind : Kind) : Type 0 where
  pub edition : Edition
  pub more : List Row
  pub lines : rs ≡ header_row edition ∷ more
  pub number : k ≡ 2
  pub fault : fault_of_first procs_fault BadProcs more ≡ Some kind

-- a further line is, behind the head lines and lines of entries
pub record FaultyEntry (rs : List Row) (k : ℕ) (kind : Kind) : Type 0 where
  pub head : Head
  pub more : List Row
  pub lines : rs ≡ header_row head.edition ∷ procs_row head.procs ∷ more
  pub possible : IsHead head
  pub fails : EntryFails head.edition (length (head_lines head)) 0 3 more k kind

-- the lines before the k-th are head lines and spellings within the limits, and of the k-th this is
-- the first fault
abbrev pub IsFaulty : List ℕ → ℕ → Kind → Type 0
IsFaulty bytes k kind =
    FaultyFirst (rows bytes) k kind
    ⊎ (FaultySecond (rows bytes) k kind ⊎ FaultyEntry (rows bytes) k kind)

-- each list of bytes is a text or faulty
abbrev pub IsEither : List ℕ → Type 0
IsEither bytes =
    ((h : Head) × (es : List Entry) × IsText bytes h es)
    ⊎ ((k : ℕ) × (kind : Kind) × IsFaulty bytes k kind)
