-- The numbers of faults, as event texts print them, and their texts; and the numbers and texts of what is wrong with a line.
use Rattle.std.specs.Prelude.{ℕ, List, codes}
use Rattle.hub_base.specs.declared.fault.Fault.{Fault}
use Rattle.hub_base.specs.declared.fault.Fault.TheVariants.{NoProcess, Gone, Busy, TooManyCases, NoPort, BadCap}
use Rattle.hub_base.specs.declared.fault.Fault.TheVariants.{TooManyPorts, NilClose, AlreadyClosed, JournalFull, NoMemory, NotParked, InUse, NotGone}
use Rattle.hub_base.specs.declared.read_fault.Kind.{Kind}
use Rattle.hub_base.specs.declared.read_fault.Kind.TheVariants as kind

-- the number of a fault, and why a step had no effect, in words
abbrev pub fault_row : Fault → ℕ × List ℕ
fault_row NoProcess = (1, codes "no such process")
fault_row Gone = (2, codes "the process has exited")
fault_row Busy = (3, codes "the process has an open call")
fault_row TooManyCases = (4, codes "too many cases")
fault_row NoPort = (5, codes "no such port")
fault_row BadCap = (6, codes "the capacity is too large")
fault_row TooManyPorts = (7, codes "too many ports")
fault_row NilClose = (8, codes "close of the nil port")
fault_row AlreadyClosed = (9, codes "close of a closed port")
fault_row JournalFull = (10, codes "the journal is full")
fault_row NoMemory = (11, codes "out of memory")
fault_row NotParked = (12, codes "no open call")
fault_row InUse = (16, codes "the port is in use")
fault_row NotGone = (17, codes "the process has not exited")

abbrev pub fault_number : Fault → ℕ
fault_number f = (fault_row f).0

abbrev pub fault_text : Fault → List ℕ
fault_text f = (fault_row f).1

-- the number of a kind, and what is wrong with a journal's line, in two words
abbrev pub kind_row : Kind → ℕ × List ℕ
kind_row kind.BadHeader = (1, codes "bad header")
kind_row kind.BadProcs = (2, codes "bad procs")
kind_row kind.BadStep = (3, codes "bad step")
kind_row kind.BadNumber = (4, codes "bad number")
kind_row kind.CutLine = (5, codes "cut line")
kind_row kind.TooLong = (6, codes "too long")

abbrev pub kind_number : Kind → ℕ
kind_number k = (kind_row k).0

abbrev pub kind_text : Kind → List ℕ
kind_text k = (kind_row k).1
