-- Selects: which case fires, at once or after a wait. Go: "Select statements". That the word
-- chooses, and that a waiting call fires at its lowest case that fits, is this project's choice.
use Rattle.std.specs.Prelude.{◌≡◌, true, false, List, [], ◌∷◌, ◌++◌, flat_map, map, refl}
use Rattle.std.specs.List.{range_with_len}
use Rattle.hub_base.specs.Entry.{Entry}
use Rattle.hub_base.specs.declared.event.Outcome.TheVariants.{Sent}
use Rattle.hub_base.specs.declared.fault.Fault.TheVariants.{TooManyCases}
use Rattle.hub_base.specs.Value.{value_of}
use Rattle.hub_base.specs.Values.{sent_values, received_values}
use Rattle.hub_base.specs.Notation.{procs, procs_two, port, s, r, make, select, send, recv, made, case, got, defaulted, parked, faulted}
use Rattle.hub_base.specs.Runs.{events}

-- of two cases that can proceed the word 3 chooses the second: 3 mod 2 = 1
pub word_chooses :
    events (procs 1) (
    make 0 1 ∷ make 0 1 ∷ send 0 1 1 ∷ send 0 2 2 ∷ select 0 3 (r 1 ∷ r 2 ∷ []) false ∷ [])
    ≡ made 0 1 ∷ made 0 2 ∷ case 0 0 Sent ∷ case 0 0 Sent ∷ case 0 1 (got 2) ∷ []
word_chooses = refl

-- of three cases that can proceed the word 4 chooses the second: 4 mod 3 = 1
pub word_chooses_of_three :
    events (procs 2) (
    make 0 0 ∷ make 0 0 ∷ select 1 0 (s 2 6 ∷ r 1 ∷ []) false
    ∷ select 0 4 (r 2 ∷ s 1 3 ∷ r 2 ∷ []) false ∷ [])
    ≡ made 0 1 ∷ made 0 2 ∷ parked 1 ∷ case 0 1 Sent ∷ case 1 1 (got 3) ∷ []
word_chooses_of_three = refl

-- a select on two ports, and a sender on each of them
abbrev select_on_two_ports : List Entry
select_on_two_ports =
    make 0 0 ∷ make 0 0 ∷ select 1 0 (r 1 ∷ r 2 ∷ []) false
    ∷ send 0 2 8 ∷ send 0 1 9 ∷ recv 1 1 ∷ []

-- a select that waits ends once: the second sender finds nobody
pub select_ends_once :
    events (procs 3) select_on_two_ports
    ≡ made 0 1 ∷ made 0 2 ∷ parked 1 ∷ case 0 0 Sent ∷ case 1 1 (got 8)
    ∷ parked 0 ∷ case 1 0 (got 9) ∷ case 0 0 Sent ∷ []
select_ends_once = refl

-- of these steps 9 was sent on port 1, and 8 was received from port 2
pub sent_on_one_port : sent_values (procs 3) select_on_two_ports (port 1) ≡ value_of 9 ∷ []
sent_on_one_port = refl

pub received_from_the_other : received_values (procs 3) select_on_two_ports (port 2) ≡ value_of 8 ∷ []
received_from_the_other = refl

-- a default is taken where no case can proceed, and where there is no case
pub default_where_nothing_can_proceed :
    events (procs 1) (make 0 0 ∷ select 0 0 (r 1 ∷ []) true ∷ select 0 0 [] true ∷ [])
    ≡ made 0 1 ∷ defaulted 0 ∷ defaulted 0 ∷ []
default_where_nothing_can_proceed = refl

-- a send in a select is a sender like others, and waits in its place
pub select_sends_in_its_turn :
    events (procs 3) (make 0 0 ∷ select 1 0 (s 1 5 ∷ r 0 ∷ []) false ∷ send 2 1 6 ∷ recv 0 1 ∷ [])
    ≡ made 0 1 ∷ parked 1 ∷ parked 2 ∷ case 0 0 (got 5) ∷ case 1 0 Sent ∷ []
select_sends_in_its_turn = refl

-- a waiting call fires at its lowest case that fits
pub lowest_case_fires :
    events (procs 2) (make 0 0 ∷ select 1 0 (r 1 ∷ r 1 ∷ []) false ∷ send 0 1 3 ∷ [])
    ≡ made 0 1 ∷ parked 1 ∷ case 0 0 Sent ∷ case 1 0 (got 3) ∷ []
lowest_case_fires = refl

-- a call has at most eight cases in the first edition
pub eight_cases_at_most :
    events (procs 1) (
    select 0 0 (r 0 ∷ r 0 ∷ r 0 ∷ r 0 ∷ r 0 ∷ r 0 ∷ r 0 ∷ r 0 ∷ []) true
    ∷ select 0 0 (r 0 ∷ r 0 ∷ r 0 ∷ r 0 ∷ r 0 ∷ r 0 ∷ r 0 ∷ r 0 ∷ r 0 ∷ []) true ∷ [])
    ≡ defaulted 0 ∷ faulted 0 TooManyCases ∷ []
eight_cases_at_most = refl

-- in the second edition it has at most sixteen, as many as an entry holds: so it never has too many
pub sixteen_cases_of_edition_two :
    events (procs_two 1) (
    select 0 0 (r 0 ∷ r 0 ∷ r 0 ∷ r 0 ∷ r 0 ∷ r 0 ∷ r 0 ∷ r 0 ∷ r 0 ∷ []) true
    ∷ select 0 0 (map (λ p. r 0) (range_with_len 0 16)) true ∷ [])
    ≡ defaulted 0 ∷ defaulted 0 ∷ []
sixteen_cases_of_edition_two = refl

-- the last of sixteen cases is the one that fits
pub last_of_sixteen_cases_fires :
    events (procs_two 2) (
    make 0 0 ∷ make 0 0 ∷ select 1 0 (map (λ p. r 1) (range_with_len 0 15) ++ r 2 ∷ []) false ∷ send 0 2 7 ∷ [])
    ≡ made 0 1 ∷ made 0 2 ∷ parked 1 ∷ case 0 0 Sent ∷ case 1 15 (got 7) ∷ []
last_of_sixteen_cases_fires = refl

-- each of a hundred selects ends at its second case, and leaves nothing behind at the port of its first
pub hundred_selects_end_once :
    events (procs 2) (
    make 0 0 ∷ make 0 0
    ∷ flat_map (λ v. select 1 0 (r 1 ∷ r 2 ∷ []) false ∷ send 0 2 v ∷ []) (range_with_len 1 100)
    ++ select 1 0 (r 1 ∷ r 2 ∷ []) false ∷ send 0 1 7 ∷ [])
    ≡ made 0 1 ∷ made 0 2
    ∷ flat_map (λ v. parked 1 ∷ case 0 0 Sent ∷ case 1 1 (got v) ∷ []) (range_with_len 1 100)
    ++ parked 1 ∷ case 0 0 Sent ∷ case 1 0 (got 7) ∷ []
hundred_selects_end_once = refl
