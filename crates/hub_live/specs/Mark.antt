-- The mark of a port: whether it is closed and its two counts, as one number below 2^64. A port
-- that is not made has the mark 0.
use Rattle.std.specs.Prelude.{◌≡◌, ◌<◌, ◌≤◌, ◌==◌, ℕ, ◌+◌, ◌-◌, ◌*◌, ◌/◌, ◌%◌, ◌^◌, ◌++◌, nat_le, List, [], ◌∷◌, Option, None, Some, MatchBool, if◌then◌else◌}
use Rattle.std.specs.Option.{option_map, option_map_or}
use Rattle.hub_base.specs.declared.head.Head.{Head}
use Rattle.hub_base.specs.declared.value.Port.{Port}
use Rattle.hub_base.specs.declared.counts.Counts.{Counts}
use Rattle.hub_base.specs.Entry.{Entry}
use Rattle.hub_base.specs.declared.limits.TheConstants.{MOST_PORTS}
use Rattle.hub_base.specs.State.{State, channel_at}
use Rattle.hub_base.specs.Runs.{state}
use Rattle.hub_core.specs.Looks.{counts_of}

-- what one send, a port that is made, and a closed port weigh
abbrev pub of_a_send : ℕ
of_a_send = 2 ^ 31

abbrev pub of_a_port : ℕ
of_a_port = 2 ^ 62

abbrev pub of_a_close : ℕ
of_a_close = 2 ^ 63

-- the mark of a port with these counts
abbrev pub mark_of : Counts → ℕ
mark_of c =
    (if c.closed then of_a_close else 0) + of_a_port + of_a_send * c.sent + c.received

-- the counts of a made port that has this mark
abbrev pub counts_in : ℕ → Counts
counts_in m =
    record {
      len = m / of_a_send % of_a_send - m % of_a_send;
      sent = m / of_a_send % of_a_send;
      received = m % of_a_send;
      closed = nat_le of_a_close m;
    }

-- what a mark tells: nothing of a port that is not made
abbrev pub read_back : ℕ → Option Counts
read_back m = if m == 0 then None else Some (counts_in m)

-- the counts of a port in a state, where it is made
abbrev pub counts_at : State → Port → Option Counts
counts_at s p = option_map counts_of (channel_at s p)

-- the port's mark in a state
abbrev pub mark_at : State → Port → ℕ
mark_at s p = option_map_or mark_of (counts_at s p) 0

-- the port of this number
abbrev pub port_numbered : ℕ → Port
port_numbered number = record { 0 = number }

-- the mark of the port of this number after these entries
abbrev pub mark : Head → List Entry → ℕ → ℕ
mark h es number = mark_at (state h es) (port_numbered number)

-- the entry changes at most the mark of this number, which it makes `new`
abbrev pub MarksOne : Head → List Entry → Entry → ℕ → ℕ → Type 0
MarksOne h es e word new =
    (number : ℕ) → 0 < number → number ≤ MOST_PORTS →
    MatchBool (number == word)
    (mark h (es ++ e ∷ []) number ≡ new)
    (mark h (es ++ e ∷ []) number ≡ mark h es number)

-- but for word 0 this mark is another than the word's port had
abbrev pub IsOther : Head → List Entry → ℕ → ℕ → Type 0
IsOther h es word new = 0 < word → mark h es word ≡ new → ⊥
