-- Worked rows of reports.
use Rattle.std.specs.Prelude.{◌≡◌, true, false, List, [], ◌∷◌, slice_get, Some, refl}
use Rattle.hub_base.specs.Entry.{Entry}
use Rattle.hub_base.specs.Notation.{procs, make, send, recv, close, exit, select, r}
use Rattle.hub_base.specs.Value.{saying}
use Rattle.hub_runner.specs.Reports.{ports_told, stalled_told, faults_told}

-- three processes on a port of capacity 3: 1, 10 and 2 are sent and received
abbrev three : List Entry
three =
    make 0 3 ∷ send 0 1 1 ∷ send 1 1 10 ∷ recv 2 1 ∷ send 0 1 2 ∷ exit 0 ∷ exit 1 ∷ recv 2 1 ∷ recv 2 1
    ∷ exit 2 ∷ []

pub three_row :
    ports_told (procs 3) three
    ≡ record { cap = 3; sent = 3; received = 3; left = 0; sum = 13; closed = false } ∷ []
unfolding saying
three_row = refl

-- two senders whom nobody receives from
abbrev stuck : List Entry
stuck = make 0 0 ∷ send 0 1 1 ∷ send 1 1 2 ∷ exit 1 ∷ exit 0 ∷ []

pub stuck_row :
    ports_told (procs 2) stuck
    ≡ record { cap = 0; sent = 0; received = 0; left = 0; sum = 0; closed = false } ∷ []
stuck_row = refl

pub stalled_row : stalled_told (procs 2) stuck ≡ 2
stalled_row = refl

pub no_fault_row : faults_told (procs 2) stuck ≡ 0
no_fault_row = refl

-- a close of the nil channel, and a send on a port that was not made
abbrev faulty : List Entry
faulty = close 0 0 ∷ send 0 1 5 ∷ exit 0 ∷ []

pub faults_row : faults_told (procs 1) faulty ≡ 2
faults_row = refl

pub no_port_row : ports_told (procs 1) faulty ≡ []
no_port_row = refl

-- a port is closed, and then drained
pub drained_row :
    ports_told (procs 1) (make 0 2 ∷ send 0 1 7 ∷ send 0 1 8 ∷ close 0 1 ∷ recv 0 1 ∷ recv 0 1 ∷ recv 0 1 ∷ exit 0 ∷ [])
    ≡ record { cap = 2; sent = 2; received = 2; left = 0; sum = 15; closed = true } ∷ []
unfolding saying
drained_row = refl

-- values that are left are not in the sum
pub left_row :
    ports_told (procs 1) (make 0 3 ∷ send 0 1 5 ∷ send 0 1 6 ∷ send 0 1 7 ∷ recv 0 1 ∷ exit 0 ∷ [])
    ≡ record { cap = 3; sent = 3; received = 1; left = 2; sum = 5; closed = false } ∷ []
unfolding saying
left_row = refl

-- process 1 waits on both ports and gets 8 from the second
pub selected_row :
    ports_told (procs 2) (make 0 0 ∷ make 0 0 ∷ select 1 0 (r 1 ∷ r 2 ∷ []) false ∷ send 0 2 8 ∷ exit 0 ∷ exit 1 ∷ [])
    ≡ record { cap = 0; sent = 0; received = 0; left = 0; sum = 0; closed = false }
    ∷ record { cap = 0; sent = 1; received = 1; left = 0; sum = 8; closed = false } ∷ []
unfolding saying
selected_row = refl

-- eleven ports: 4 goes through the last
abbrev eleven : List Entry
eleven =
    make 0 1 ∷ make 0 1 ∷ make 0 1 ∷ make 0 1 ∷ make 0 1 ∷ make 0 1 ∷ make 0 1 ∷ make 0 1 ∷ make 0 1
    ∷ make 0 1 ∷ make 0 9 ∷ send 0 11 4 ∷ recv 0 11 ∷ exit 0 ∷ []

pub eleventh_row :
    slice_get (ports_told (procs 1) eleven) 10
    ≡ Some (record { cap = 9; sent = 1; received = 1; left = 0; sum = 4; closed = false })
unfolding saying
eleventh_row = refl
