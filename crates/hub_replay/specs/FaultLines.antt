-- The one line that a program writes to standard error where it did not do what it was asked for.
use Rattle.std.specs.Prelude.{◌≡◌, ◌⊎◌, ℕ, List, [], ◌∷◌, ◌++◌, codes, decimal, Option}
use Rattle.std.specs.Borrow.{Bor}
use Rattle.std.specs.Io.KnownBytes.{Appends}
use Rattle.hub_base.specs.Faults.{kind_text}
use Rattle.hub_replay.specs.Devices.{AppendsBeginning, Failed}
use Rattle.hub_replay.specs.declared.fault.ReplayFault.{ReplayFault}
use Rattle.hub_replay.specs.declared.fault.ReplayFault.TheVariants.{Text, Read, Write, NoMemory}

-- texts, one behind the other
abbrev pub joined : List (Bor (List ℕ)) → List ℕ
joined [] = []
joined (piece ∷ pieces) = piece.now ++ joined pieces

abbrev pub fault_text : ReplayFault → List ℕ
fault_text (Text fault) = codes "line " ++ decimal fault.line ++ codes ": " ++ kind_text fault.kind
fault_text Read = codes "read failed"
fault_text Write = codes "write failed"
fault_text NoMemory = codes "out of memory"

-- the line of such a text
abbrev pub line_of : List ℕ → List ℕ
line_of text = codes "chanhub: " ++ text ++ codes "\n"

-- these bytes were written and no write failed, or a beginning of them was and one write failed
abbrev pub TellsOnce : (held holds : Option (List ℕ)) → (before after : ℕ) → List ℕ → Type 0
TellsOnce held holds before after bytes =
    (Appends held holds bytes × (after ≡ before)) ⊎ (AppendsBeginning held holds bytes × Failed before after)

-- the status: 2 for a malformed journal, and 1 for a device or memory
abbrev pub status_of : ReplayFault → ℕ
status_of (Text fault) = 2
status_of Read = 1
status_of Write = 1
status_of NoMemory = 1
