-- Short words for heads, entries and events, in which the worked rows are written: `procs 2` is the head
-- of a journal of two processes, `procs_two 2` the same in the second edition, `send 0 1 7` is process 0
-- that sends 7 on port 1, and `case 0 0 (got 7)` tells it that case 0 of its call got 7.
use Rattle.std.specs.Prelude.{ℕ, Bool, false, List, [], ◌∷◌}
use Rattle.hub_base.specs.declared.value.Port.{Port}
use Rattle.hub_base.specs.declared.case.Case.{Case}
use Rattle.hub_base.specs.declared.case.Case.TheVariants.{Send, Recv}
use Rattle.hub_base.specs.declared.entry.Step.TheVariants.{Make, Close, Exit, Cancel, Start, Reopen}
use Rattle.hub_base.specs.Entry.{Entry}
use Rattle.hub_base.specs.declared.event.Outcome.{Outcome}
use Rattle.hub_base.specs.declared.event.Outcome.TheVariants.{Got}
use Rattle.hub_base.specs.declared.event.What.{What}
use Rattle.hub_base.specs.declared.event.What.TheVariants as what
use Rattle.hub_base.specs.declared.event.Event.{Event}
use Rattle.hub_base.specs.declared.fault.Fault.{Fault}
use Rattle.hub_base.specs.declared.head.Edition.TheVariants as edition
use Rattle.hub_base.specs.declared.head.Head.{Head}
use Rattle.hub_base.specs.Head.{head_of}
use Rattle.hub_base.specs.Value.{value_of}
use Rattle.hub_base.specs.Lines.{by, call}

-- ---- heads
-- the head of a journal of the first edition, of so many processes
abbrev pub procs : ℕ → Head
procs n = head_of edition.One n

-- the same of the second edition
abbrev pub procs_two : ℕ → Head
procs_two n = head_of edition.Two n

-- and the third
abbrev pub procs_three : ℕ → Head
procs_three n = head_of edition.Three n

-- ---- cases
-- the port of this number
abbrev pub port : ℕ → Port
port n = record { 0 = n }

-- the case that sends a number on a port, as texts write it: `s1:7` is `s 1 7`
abbrev pub s : ℕ → ℕ → Case
s p v = Send (port p) (value_of v)

-- the case that receives from a port: `r1` is `r 1`
abbrev pub r : ℕ → Case
r p = Recv (port p)

-- ---- entries; the process comes first
-- makes a port of this capacity
abbrev pub make : ℕ → ℕ → Entry
make pid cap = by pid (Make cap)

-- a call with this word, these cases and perhaps a default
abbrev pub select : ℕ → ℕ → List Case → Bool → Entry
select pid word cases default = by pid (call cases default word)

-- sends a number on a port
abbrev pub send : ℕ → ℕ → ℕ → Entry
send pid p v = select pid 0 (s p v ∷ []) false

-- receives from a port
abbrev pub recv : ℕ → ℕ → Entry
recv pid p = select pid 0 (r p ∷ []) false

-- closes a port
abbrev pub close : ℕ → ℕ → Entry
close pid p = by pid (Close (port p))

-- ends the process
abbrev pub exit : ℕ → Entry
exit pid = by pid Exit

-- ends the open call of another process
abbrev pub cancel : ℕ → ℕ → Entry
cancel pid q = by pid (Cancel (record { 0 = q }))

-- starts another process again
abbrev pub start : ℕ → ℕ → Entry
start pid q = by pid (Start (record { 0 = q }))

-- opens a port again, with this capacity
abbrev pub reopen : ℕ → ℕ → ℕ → Entry
reopen pid p cap = by pid (Reopen (port p) cap)

-- ---- events; the process that is told comes first
-- this process is told so
abbrev pub told : ℕ → What → Event
told pid w = record { pid = record { 0 = pid }; what = w }

-- the port of this number was made
abbrev pub made : ℕ → ℕ → Event
made pid p = told pid (what.Made (port p))

-- this case of the call fired
abbrev pub case : ℕ → ℕ → Outcome → Event
case pid index outcome = told pid (what.Fired index outcome)

-- the number was received
abbrev pub got : ℕ → Outcome
got n = Got (value_of n)

-- the default was taken
abbrev pub defaulted : ℕ → Event
defaulted pid = told pid what.Default

-- the close, the exit, the cancel, the start or the reopen is done
abbrev pub done : ℕ → Event
done pid = told pid what.Done

-- the call waits
abbrev pub parked : ℕ → Event
parked pid = told pid what.Parked

-- everyone waited, so the call ended
abbrev pub stalled : ℕ → Event
stalled pid = told pid what.Stalled

-- another process cancelled the call
abbrev pub cancelled : ℕ → Event
cancelled pid = told pid what.Cancelled

-- the step had no effect, for this reason
abbrev pub faulted : ℕ → Fault → Event
faulted pid fault = told pid (what.Fault fault)
