-- What is told to C: each struct is a function of what happened.
use Rattle.std.specs.Prelude.{ℕ, nat_lt, ◌^◌, Bool, true, false, List, [], ◌∷◌, Option, None, Some, Result, Ok, Err, if◌then◌else◌}
use Rattle.std.specs.Int.Bits.{bit_or}
use Rattle.hub_base.specs.declared.case.Case.{Case}
use Rattle.hub_base.specs.declared.case.Case.TheVariants.{Send, Recv}
use Rattle.hub_base.specs.declared.entry.Step.TheVariants.{Make, Call, Close, Exit, Cancel, Start, Reopen}
use Rattle.hub_base.specs.declared.event.Event.{Event}
use Rattle.hub_base.specs.declared.event.Outcome.{Outcome}
use Rattle.hub_base.specs.declared.event.Outcome.TheVariants.{Sent, Got, Drained, Closed}
use Rattle.hub_base.specs.declared.event.What.{What}
use Rattle.hub_base.specs.declared.event.What.TheVariants.{Made, Fired, Default, Done, Parked, Stalled, Fault, Cancelled}
use Rattle.hub_base.specs.declared.fault.Fault as faults
use Rattle.hub_base.specs.declared.limits.TheConstants.{MOST_PROCS}
use Rattle.hub_base.specs.declared.value.Pid.{Pid}
use Rattle.hub_base.specs.Entry.{Entry, Step}
use Rattle.hub_base.specs.Faults.{fault_number}
use Rattle.hub_base.specs.Content.Content.{Num}
use Rattle.hub_cut.specs.declared.totals.Totals.{Totals}
use Rattle.hub_cut.specs.declared.fault.ChainFault.{ChainFault}
use Rattle.hub_cut.specs.declared.fault.ChainFault.TheVariants as chain
use Rattle.hub_served.specs.declared.not_made.NotMade.{NotMade}
use Rattle.hub_served.specs.declared.not_made.NotMade.TheVariants.{Refused, NotYet, Diverged}
use Rattle.hub_session.specs.declared.structs.CountsC.{CountsC}
use Rattle.hub_session.specs.declared.structs.FollowC.{FollowC}
use Rattle.hub_session.specs.declared.structs.NextC.{NextC}
use Rattle.hub_session.specs.declared.structs.ToldC.{ToldC}
use Rattle.hub_session.specs.declared.structs.TheConstants as number
use Rattle.hub_session.specs.Structs.{told_as, value_told}

-- ---- what a process is told
-- this number, and nothing with it
abbrev pub only_told : ℕ → ToldC
only_told what =
    record { what = what; fault = 0; index = 0; port = 0; value = told_as (Num 0); ended = 0; chapter = 0 }

-- a fault
abbrev pub fault_told : ℕ → ToldC
fault_told fault = record (only_told number.FAULT) { fault = fault }

-- what C asks for is not asked of a hub, or not of one of its edition
abbrev pub bad_call : ToldC
bad_call = fault_told number.BAD_CALL

-- a case
abbrev pub case_told : ℕ → ℕ → ToldC
case_told what index = record (only_told what) { index = index }

-- how a communication ended
abbrev pub outcome_told : ℕ → Outcome → ToldC
outcome_told index Sent = case_told number.SENT index
outcome_told index (Got v) = record (case_told number.GOT index) { value = value_told v }
outcome_told index Drained = case_told number.DRAINED index
outcome_told index Closed = case_told number.CLOSED index

abbrev pub what_told : What → ToldC
what_told (Made p) = record (only_told number.MADE) { port = p.0 }
what_told (Fired index outcome) = outcome_told index outcome
what_told Default = only_told number.DEFAULT
what_told Done = only_told number.DONE
what_told Parked = only_told number.PARKED
what_told Stalled = only_told number.STALLED
what_told (Fault f) = fault_told (fault_number f)
what_told Cancelled = only_told number.CANCELLED

-- ---- what a step came to
-- 1 for true
abbrev pub flag : Bool → ℕ
flag true = 1
flag false = 0

-- the bit of a process
abbrev pub bit_of : Pid → ℕ
bit_of p = if nat_lt p.0 MOST_PROCS then 2 ^ p.0 else 0

-- these bits, and those of these processes
abbrev pub bits_with : ℕ → List Pid → ℕ
bits_with bits [] = bits
bits_with bits (p ∷ ps) = bits_with (bit_or bits (bit_of p)) ps

-- the bits of these processes
abbrev pub bits_of : List Pid → ℕ
bits_of ps = bits_with 0 ps

-- its answer and the bits of those whose calls it ended, or the fault that refused it; and whether a chapter waits to be read
abbrev pub came_told : Result Event faults.Fault → ℕ → Bool → ToldC
came_told (Ok x) ended chapter = record (what_told x.what) { ended = ended; chapter = flag chapter }
came_told (Err f) ended chapter = record (fault_told (fault_number f)) { chapter = flag chapter }

-- the number of the journal's step at which the hub diverged
abbrev pub diverged_told : ℕ → ToldC
diverged_told step = record (fault_told number.DIVERGED) { value = told_as (Num step) }

-- the same of a hub that follows a journal: 0 if the step's turn has not come
abbrev pub follow_told : Result Event NotMade → ℕ → ToldC
follow_told (Ok x) ended = came_told (Ok x) ended false
follow_told (Err (Refused f)) ended = came_told (Err f) ended false
follow_told (Err NotYet) ended = only_told 0
follow_told (Err (Diverged step)) ended = diverged_told step

-- an answer that waited, or 0
abbrev pub answer_told : Option Event → ToldC
answer_told None = only_told 0
answer_told (Some x) = what_told x.what

-- ---- why a journal is not followed
abbrev pub follow_refused : ChainFault → FollowC
follow_refused (chain.Text f) = record { refusal = number.MALFORMED; line = f.line }
follow_refused (chain.NotAdmitted line f) = record { refusal = number.NOT_ADMITTED; line = line }
follow_refused other = record { refusal = number.REFUSED_MEMORY; line = 0 }

-- ---- a process's next step of the journal
-- what it is, and nothing with it
abbrev pub only_next : ℕ → ℕ → NextC
only_next number what = record { number = number; what = what; other = 0; port = 0 }

-- on this port
abbrev pub next_on : ℕ → ℕ → ℕ → NextC
next_on number what p = record (only_next number what) { port = p }

-- for this process
abbrev pub next_for : ℕ → ℕ → ℕ → NextC
next_for number what q = record (only_next number what) { other = q }

-- a call of one case
abbrev pub case_next : ℕ → Case → NextC
case_next n (Send p v) = next_on n number.STEP_SEND p.0
case_next n (Recv p) = next_on n number.STEP_RECV p.0

-- a call. One of one case without a default is a send or a receive, whatever its choice word
abbrev pub call_next : ℕ → List Case → Bool → NextC
call_next n (c ∷ []) false = case_next n c
call_next n cases false = only_next n number.STEP_SELECT
call_next n cases true = only_next n number.STEP_SELECT_DEFAULT

-- the step of this number
abbrev pub step_next : ℕ → Step → NextC
step_next n (Make cap) = only_next n number.STEP_MAKE
step_next n (Call cases default word) = call_next n cases.items default
step_next n (Close p) = next_on n number.STEP_CLOSE p.0
step_next n Exit = only_next n number.STEP_EXIT
step_next n (Cancel q) = next_for n number.STEP_CANCEL q.0
step_next n (Start q) = next_for n number.STEP_START q.0
step_next n (Reopen p cap) = next_on n number.STEP_REOPEN p.0

abbrev pub next_told : Option (ℕ × Entry) → NextC
next_told None = only_next 0 0
next_told (Some next) = step_next next.0 next.1.step

-- the number of a journal's clock
abbrev pub clock_told : Option Pid → ℕ
clock_told None = number.NO_CLOCK
clock_told (Some clock) = clock.0

-- ---- what a look shows
abbrev pub counts_told : Option Totals → CountsC
counts_told None = record { made = false; closed = false; cap = 0; sent = 0; received = 0 }
counts_told (Some t) = record { made = true; closed = t.closed; cap = t.cap; sent = t.sent; received = t.received }
