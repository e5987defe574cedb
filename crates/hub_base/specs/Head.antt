-- Heads of journals.
use Rattle.std.specs.Prelude.{ℕ, ◌≤◌, ◌≡◌, Bool, true, false, List}
use Rattle.std.specs.List.{list_all}
use Rattle.hub_base.specs.declared.case.Case.{Case}
use Rattle.hub_base.specs.declared.case.Case.TheVariants.{Send, Recv}
use Rattle.hub_base.specs.Entry.{Entry, Step}
use Rattle.hub_base.specs.declared.entry.Step.TheVariants.{Make, Call, Close, Exit, Cancel, Start, Reopen}
use Rattle.hub_base.specs.declared.head.Edition.{Edition}
use Rattle.hub_base.specs.declared.head.Edition.TheVariants.{One, Two, Three}
use Rattle.hub_base.specs.declared.head.Head.{Head}
use Rattle.hub_base.specs.declared.limits.TheConstants.{CASE_PLACES, MOST_CASES, MOST_PROCS}
use Rattle.hub_base.specs.declared.value.Value.{Value}
use Rattle.hub_base.specs.Content.{Content}
use Rattle.hub_base.specs.Value.{content}
use Rattle.hub_base.specs.Content.Content.{Num, Bytes}

-- a hub may have so many processes
abbrev pub IsHead : Head → Type 0
IsHead h = (1 ≤ h.procs) × (h.procs ≤ MOST_PROCS)

-- the head of a journal of this edition and so many processes
abbrev pub head_of : Edition → ℕ → Head
head_of edition procs = record { edition = edition; procs = procs }

-- the most cases that a call may have
abbrev pub most_cases : Edition → ℕ
most_cases One = MOST_CASES
most_cases Two = CASE_PLACES
most_cases Three = CASE_PLACES

-- whether a process may cancel the open call of another
abbrev pub has_cancel : Edition → Bool
has_cancel One = false
has_cancel Two = true
has_cancel Three = true

-- whether a process that has exited may be started again, and a port that is closed and drained opened again
abbrev pub has_lives : Edition → Bool
has_lives One = false
has_lives Two = false
has_lives Three = true

-- whether a value may be bytes
abbrev pub has_bytes : Edition → Bool
has_bytes One = false
has_bytes Two = true
has_bytes Three = true

-- a journal of this edition can have a value that says this
abbrev pub has_content : Edition → Content → Bool
has_content edition (Num n) = true
has_content edition (Bytes bs) = has_bytes edition

-- the value is one that a journal of this edition can have
abbrev pub has_value : Edition → Value → Bool
has_value edition v = has_content edition (content v)

-- so is the value of the case
abbrev pub has_case : Edition → Case → Bool
has_case edition (Send p v) = has_value edition v
has_case edition (Recv p) = true

-- the step is one that a journal of this edition can have
abbrev pub is_of : Edition → Step → Bool
is_of edition (Make cap) = true
is_of edition (Call cases default word) = list_all (has_case edition) cases.items
is_of edition (Close p) = true
is_of edition Exit = true
is_of edition (Cancel q) = has_cancel edition
is_of edition (Start q) = has_lives edition
is_of edition (Reopen p cap) = has_lives edition

-- and so is each of these entries' steps
abbrev pub AreOf : Edition → List Entry → Type 0
AreOf edition es = list_all (λ e. is_of edition e.step) es ≡ true
