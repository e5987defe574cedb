-- Values that are bytes, in the second edition. They go through channels as numbers do.
use Rattle.std.specs.Prelude.{◌≡◌, ℕ, List, true, false, [], ◌∷◌, codes, map, refl}
use Rattle.std.specs.List.{range_with_len}
use Rattle.hub_base.specs.declared.case.Case.{Case}
use Rattle.hub_base.specs.declared.case.Case.TheVariants.{Send}
use Rattle.hub_base.specs.Entry.{Entry}
use Rattle.hub_base.specs.declared.event.Event.{Event}
use Rattle.hub_base.specs.declared.event.Outcome.TheVariants.{Sent, Got}
use Rattle.hub_base.specs.Notation.{procs_two, port, s, r, make, select, recv, cancel, made, case, got, defaulted, parked, done, cancelled}
use Rattle.hub_base.specs.Reading.{read_text, Reads}
use Rattle.hub_base.specs.Runs.{events}
use Rattle.hub_base.specs.Value.{saying, value_field, value_of, bytes_of}
use Rattle.hex.specs.Hex.{decode_pairs, encode_with}

-- the case that sends bytes on a port: `s1:#00ff` is `sb 1 (0 ∷ 255 ∷ [])`
abbrev sb : ℕ → List ℕ → Case
sb p bytes = Send (port p) (bytes_of bytes)

-- no byte, and two
abbrev two_byte_values : List Entry
two_byte_values =
    make 0 2 ∷ select 0 0 (sb 1 [] ∷ []) false ∷ select 0 0 (sb 1 (0 ∷ 255 ∷ []) ∷ []) false ∷ recv 0 1 ∷ recv 0 1 ∷ []

abbrev events_of_two_byte_values : List Event
events_of_two_byte_values =
    made 0 1 ∷ case 0 0 Sent ∷ case 0 0 Sent ∷ case 0 0 (Got (bytes_of [])) ∷ case 0 0 (Got (bytes_of (0 ∷ 255 ∷ []))) ∷ []

pub byte_values_are_received : events (procs_two 1) two_byte_values ≡ events_of_two_byte_values
byte_values_are_received = refl

pub byte_values_are_read :
    read_text (codes "chanhub journal 2\nprocs 1\n0 make 2\n0 send 1 #\n0 send 1 #00ff\n0 recv 1\n0 recv 1\n")
    ≡ Reads (procs_two 1) two_byte_values
unfolding decode_pairs
byte_values_are_read = refl

pub byte_values_are_spelled : map value_field (bytes_of [] ∷ bytes_of (0 ∷ 255 ∷ []) ∷ []) ≡ codes "#" ∷ codes "#00ff" ∷ []
unfolding encode_with saying
byte_values_are_spelled = refl

-- a select of two sends, and one with a default
pub selects_of_byte_values_are_read :
    read_text (codes "chanhub journal 2\nprocs 1\n0 select 0 s1:#7f s2:9\n0 select 0 s1:#0a default\n")
    ≡ Reads (procs_two 1)
    (select 0 0 (sb 1 (127 ∷ []) ∷ Send (port 2) (value_of 9) ∷ []) false ∷ select 0 0 (sb 1 (10 ∷ []) ∷ []) true ∷ [])
unfolding decode_pairs
selects_of_byte_values_are_read = refl

-- as many bytes as a value can have, 224 to 255
abbrev most_bytes : List ℕ
most_bytes = range_with_len 224 32

pub thirty_two_bytes_at_most :
    events (procs_two 1) (make 0 1 ∷ select 0 0 (sb 1 most_bytes ∷ []) false ∷ recv 0 1 ∷ [])
    ≡ made 0 1 ∷ case 0 0 Sent ∷ case 0 0 (Got (bytes_of most_bytes)) ∷ []
thirty_two_bytes_at_most = refl

-- the word chooses of a send of bytes and one of a number; then of two receives
pub select_sends_bytes_or_a_number :
    events (procs_two 1) (
    make 0 1 ∷ make 0 1
    ∷ select 0 1 (sb 1 (127 ∷ []) ∷ s 2 9 ∷ []) false
    ∷ select 0 1 (sb 1 (127 ∷ []) ∷ s 2 9 ∷ []) false
    ∷ select 0 1 (r 2 ∷ r 1 ∷ []) false ∷ recv 0 2 ∷ [])
    ≡ made 0 1 ∷ made 0 2 ∷ case 0 1 Sent ∷ case 0 0 Sent ∷ case 0 1 (Got (bytes_of (127 ∷ []))) ∷ case 0 0 (got 9) ∷ []
select_sends_bytes_or_a_number = refl

-- the buffer is full, so the default is taken, and its bytes are not sent
pub select_of_bytes_takes_its_default :
    events (procs_two 1) (
    make 0 1 ∷ select 0 0 (sb 1 (10 ∷ []) ∷ []) true ∷ select 0 0 (sb 1 (11 ∷ []) ∷ []) true ∷ recv 0 1 ∷ [])
    ≡ made 0 1 ∷ case 0 0 Sent ∷ defaulted 0 ∷ case 0 0 (Got (bytes_of (10 ∷ []))) ∷ []
select_of_bytes_takes_its_default = refl

-- bytes that wait are taken by a receiver, and one that waits gets no bytes
pub bytes_are_handed_over :
    events (procs_two 2) (
    make 0 0 ∷ select 0 0 (sb 1 (192 ∷ 255 ∷ 238 ∷ []) ∷ []) false ∷ recv 1 1
    ∷ recv 1 1 ∷ select 0 0 (sb 1 [] ∷ []) false ∷ [])
    ≡ made 0 1 ∷ parked 0 ∷ case 1 0 (Got (bytes_of (192 ∷ 255 ∷ 238 ∷ []))) ∷ case 0 0 Sent
    ∷ parked 1 ∷ case 0 0 Sent ∷ case 1 0 (Got (bytes_of [])) ∷ []
bytes_are_handed_over = refl

-- a sender is cancelled, and the bytes that it brought
pub cancelled_send_brings_no_bytes :
    events (procs_two 2) (
    make 0 0 ∷ select 1 0 (sb 1 (7 ∷ []) ∷ []) false ∷ cancel 0 1 ∷ select 0 0 (r 1 ∷ []) true ∷ [])
    ≡ made 0 1 ∷ parked 1 ∷ done 0 ∷ cancelled 1 ∷ defaulted 0 ∷ []
cancelled_send_brings_no_bytes = refl
