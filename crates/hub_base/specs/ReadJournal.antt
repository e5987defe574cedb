-- What `read_journal` answers, by what the text says. A refusal of memory may come in place of any
-- answer.
use Rattle.std.specs.Prelude.{◌≡◌, ℕ, List, Result, Ok, Err}
use Rattle.hub_base.specs.declared.read_fault.ReadFault.{ReadFault}
use Rattle.hub_base.specs.declared.read_fault.ReadFault.TheVariants as fault
use Rattle.hub_base.specs.Journal.{JournalView}
use Rattle.hub_base.specs.Text.{IsFaulty}
use Rattle.hub_base.specs.Reading.{Reading, Reads, Faulty}

-- a fault of the text is the reading's fault
abbrev pub Fails : ReadFault → Reading → Type 0
Fails (fault.Text f) reading = reading ≡ Faulty f.line f.kind
Fails fault.NoMemory reading = Unit {0}

-- what was answered is what the reading is, unless memory was refused
abbrev pub Gives : Result JournalView ReadFault → Reading → Type 0
Gives (Ok j) reading = reading ≡ Reads j.head j.entries
Gives (Err f) reading = Fails f reading

-- a fault of the text is its first one, as the definition of faulty texts has it
abbrev pub IsFaultOf : List ℕ → ReadFault → Type 0
IsFaultOf bytes (fault.Text f) = IsFaulty bytes f.line f.kind
IsFaultOf bytes fault.NoMemory = Unit {0}
