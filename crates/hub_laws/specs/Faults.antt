-- The faults that answer an entry: of one that is not admitted, and of one that is.
use Rattle.std.specs.Prelude.{Bool, true, false}
use Rattle.hub_base.specs.Entry.{Step}
use Rattle.hub_base.specs.declared.entry.Step.TheVariants.{Make, Call, Close, Cancel, Start, Reopen}
use Rattle.hub_base.specs.declared.fault.Fault.{Fault}
use Rattle.hub_base.specs.declared.fault.Fault.TheVariants as fault

-- the faults of entries that are not admitted
abbrev pub refuses_entry : Fault → Bool
refuses_entry fault.NoProcess = true
refuses_entry fault.Gone = true
refuses_entry fault.Busy = true
refuses_entry f = false

-- the process has an open call
abbrev pub is_busy : Fault → Bool
is_busy fault.Busy = true
is_busy f = false

-- the faults of an admitted entry, by its step
abbrev pub is_fault_of : Step → Fault → Bool
is_fault_of (Make cap) fault.BadCap = true
is_fault_of (Make cap) fault.TooManyPorts = true
is_fault_of (Call cases default word) fault.TooManyCases = true
is_fault_of (Call cases default word) fault.NoPort = true
is_fault_of (Close p) fault.NoPort = true
is_fault_of (Close p) fault.NilClose = true
is_fault_of (Close p) fault.AlreadyClosed = true
is_fault_of (Cancel q) fault.NotParked = true
is_fault_of (Start q) fault.NotGone = true
is_fault_of (Reopen p cap) fault.NoPort = true
is_fault_of (Reopen p cap) fault.BadCap = true
is_fault_of (Reopen p cap) fault.NilClose = true
is_fault_of (Reopen p cap) fault.InUse = true
is_fault_of step f = false
