-- Worked rows: what structs say, what is told, and the pieces of a text. The numbers are those of capi/chanhub.h.
use Rattle.std.specs.Prelude.{◌≡◌, true, false, [], ◌∷◌, drop, take, replicate, None, Some, Ok, Err, refl}
use Rattle.hub_base.specs.declared.event.Outcome.TheVariants.{Drained}
use Rattle.hub_base.specs.declared.fault.Fault.TheVariants.{Busy}
use Rattle.hub_base.specs.declared.head.Edition.TheVariants.{Three}
use Rattle.hub_base.specs.Journal.{JournalView}
use Rattle.hub_base.specs.Lines.{line}
use Rattle.hub_base.specs.Notation.{cancel, case, close, exit, faulted, made, make, procs_two, r, recv, s, select, told}
use Rattle.hub_base.specs.declared.event.What.TheVariants as what
use Rattle.hub_session.specs.declared.structs.CaseC.{CaseC}
use Rattle.hub_session.specs.declared.structs.ToldC.{ToldC}
use Rattle.hub_session.specs.declared.structs.ValueC.{ValueC}
use Rattle.hub_session.specs.Opens.{edition_of}
use Rattle.hub_session.specs.Pieces.{joined, none_told, pieces, wants_told}
use Rattle.hub_session.specs.Structs.{call_of, send_of}
use Rattle.hub_session.specs.Tells.{answer_told, bad_call, bits_of, came_told, clock_told, next_told}

-- ---- what structs say
abbrev zeros : ValueC
zeros = record { number = 0; is_bytes = 0; length = 0; bytes = replicate 32 0 }

abbrev seven : ValueC
seven = record zeros { number = 7 }

-- more bytes than a value has
abbrev long : ValueC
long = record zeros { is_bytes = 1; length = 33 }

-- any number but 0 is true
abbrev sends_seven : CaseC
sends_seven = record { sends = 2; port = 1; value = seven }

-- what a receive would send is not looked at
abbrev receives : CaseC
receives = record { sends = 0; port = 3; value = long }

pub call_row : call_of 5 (sends_seven ∷ receives ∷ []) 1 9 ≡ Some (select 5 9 (s 1 7 ∷ r 3 ∷ []) true)
call_row = refl

pub long_row : send_of 5 1 long ≡ None
long_row = refl

pub many_row : call_of 5 (replicate 17 receives) 0 0 ≡ None
many_row = refl

pub edition_row : edition_of 3 ≡ Some Three
edition_row = refl

pub no_edition_row : edition_of 4 ≡ None
no_edition_row = refl

-- ---- what is told
abbrev nothing : ToldC
nothing = record { what = 0; fault = 0; index = 0; port = 0; value = zeros; ended = 0; chapter = 0 }

pub made_row : came_told (Ok (made 0 3)) 0 false ≡ record nothing { what = 1; port = 3 }
made_row = refl

pub drained_row : came_told (Ok (case 0 2 Drained)) 0 false ≡ record nothing { what = 4; index = 2 }
drained_row = refl

-- processes 0 and 5 are woken, and a chapter waits to be read
pub ended_row : came_told (Ok (told 1 what.Done)) (bits_of (record { 0 = 5 } ∷ record { 0 = 0 } ∷ [])) true
    ≡ record nothing { what = 7; ended = 33; chapter = 1 }
ended_row = refl

-- a refused step, and a fault that the hub answers
pub refused_row : came_told (Err Busy) 32 true ≡ record nothing { what = 10; fault = 3; chapter = 1 }
refused_row = refl

pub fault_row : answer_told (Some (faulted 0 Busy)) ≡ record nothing { what = 10; fault = 3 }
fault_row = refl

pub bad_call_row : bad_call ≡ record nothing { what = 10; fault = 13 }
bad_call_row = refl

pub none_waits_row : answer_told None ≡ nothing
none_waits_row = refl

-- ---- the journal that is followed
-- a select of one case is a send, whatever its choice word
pub next_send_row : next_told (Some (7, select 0 3 (s 4 9 ∷ []) false)) ≡ record { number = 7; what = 2; other = 0; port = 4 }
next_send_row = refl

pub next_default_row : next_told (Some (8, select 0 0 (r 4 ∷ []) true)) ≡ record { number = 8; what = 5; other = 0; port = 0 }
next_default_row = refl

pub next_cancel_row : next_told (Some (9, cancel 0 5)) ≡ record { number = 9; what = 8; other = 5; port = 0 }
next_cancel_row = refl

-- a select of two cases has the number of a select, and no port
pub next_select_row : next_told (Some (7, select 0 3 (r 1 ∷ r 4 ∷ []) false)) ≡ record { number = 7; what = 4; other = 0; port = 0 }
next_select_row = refl

pub next_recv_row : next_told (Some (7, recv 0 4)) ≡ record { number = 7; what = 3; other = 0; port = 4 }
next_recv_row = refl

pub next_make_row : next_told (Some (1, make 0 4)) ≡ record { number = 1; what = 1; other = 0; port = 0 }
next_make_row = refl

pub next_close_row : next_told (Some (7, close 0 4)) ≡ record { number = 7; what = 6; other = 0; port = 4 }
next_close_row = refl

pub next_exit_row : next_told (Some (7, exit 0)) ≡ record { number = 7; what = 7; other = 0; port = 0 }
next_exit_row = refl

pub clock_row : clock_told (Some (record { 0 = 2 })) ≡ 2
clock_row = refl

pub no_clock_row : clock_told None ≡ 64
no_clock_row = refl

-- ---- texts
abbrev ended : JournalView
ended = record { head = procs_two 1; entries = make 0 2 ∷ exit 0 ∷ [] }

pub line_row : drop 2 (pieces ended) ≡ line (exit 0) ∷ []
line_row = refl

pub behind_row : drop 3 (pieces ended) ≡ []
behind_row = refl

pub joined_row : joined (take 2 ((7 ∷ 8 ∷ []) ∷ (9 ∷ []) ∷ (4 ∷ []) ∷ [])) ≡ 7 ∷ 8 ∷ 9 ∷ []
joined_row = refl

-- the end, and a piece that wants more room, are two answers
pub end_row : none_told ≡ record { what = 0; count = 0; length = 0 }
end_row = refl

pub no_room_row : wants_told (7 ∷ 8 ∷ []) ≡ record { what = 2; count = 0; length = 2 }
no_room_row = refl
