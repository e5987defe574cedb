-- What contracts see of a reader: the head, what the rest of the text says, and in how many bytes it
-- stands.
use Rattle.std.specs.Prelude.{ℕ, ◌<◌, ◌≡◌, List, [], ◌∷◌, Option, None, Some, Result, Ok, Err, Bool, true, false}
use Rattle.hub_base.specs.Entry.{Entry}
use Rattle.hub_base.specs.declared.head.Edition.{Edition}
use Rattle.hub_base.specs.declared.head.Head.{Head}
use Rattle.hub_base.specs.declared.read_fault.TextFault.{TextFault}
use Rattle.hub_base.specs.Head.{is_of}
use Rattle.hub_base.specs.Reading.{Reading, Reads, Faulty, Row, edition_of, procs_number, with_entry}

-- a reader
pub record ReaderView : Type 0 where
  pub head : Head
  pub left : Reading
  pub bytes : ℕ

-- the edition that the first of these lines says, whatever those behind it say
abbrev pub edition_said : List Row → Option Edition
edition_said [] = None
edition_said (r ∷ rs) = edition_of r.bytes

-- the number of processes that the first of these lines says, whatever those behind it say
abbrev pub procs_said : List Row → Option ℕ
procs_said [] = None
procs_said (r ∷ rs) = procs_number r.bytes

-- where nothing is left the text ends; else what is left is this entry and what the reader says
-- after it, and the entry is one that the text's edition has
abbrev pub Continues : ReaderView → ReaderView → Option Entry → Type 0
Continues old new None = (old.left ≡ Reads old.head []) × (new ≡ old)
Continues old new (Some e) =
    (old.left ≡ with_entry e new.left) × (new.head ≡ old.head) × (new.bytes < old.bytes)
    × (is_of old.head.edition e.step ≡ true)

-- the first fault of what is left; the reader stays where it is
pub record StopsAt (old new : ReaderView) (at : TextFault) : Type 0 where
  pub fault : old.left ≡ Faulty at.line at.kind
  pub unchanged : new ≡ old

-- what one call of a reader does
abbrev pub ReadsOn : ReaderView → ReaderView → Result (Option Entry) TextFault → Type 0
ReadsOn old new (Ok next) = Continues old new next
ReadsOn old new (Err fault) = StopsAt old new fault

-- the same, where the entry was read into a given one; at the end and at a fault that may be any
abbrev pub FillsOn : ReaderView → ReaderView → Entry → Result Bool TextFault → Type 0
FillsOn old new entry (Ok true) = Continues old new (Some entry)
FillsOn old new entry (Ok false) = Continues old new None
FillsOn old new entry (Err fault) = StopsAt old new fault
