-- What contracts see of a machine: the edition, the board, who has exited, what each port has carried, and how
-- many entries were admitted. Names no struct but `Tally`.
use Rattle.std.specs.Prelude.{ℕ, ◌+◌, ◌-◌, Bool, false, List, [], replicate, slice_index_or, slice_set}
use Rattle.hub_base.specs.declared.head.Edition.{Edition}
use Rattle.hub_base.specs.declared.head.Head.{Head}
use Rattle.hub_base.specs.declared.value.Port.{Port}
use Rattle.hub_base.specs.declared.limits.TheConstants.{MOST_PROCS}
use Rattle.hub_core.specs.declared.tally.Tally.{Tally}
use Rattle.hub_parts.specs.Records.{Lists}
use Rattle.hub_parts.specs.Lists.{opened}

pub record MachineLists : Type 0 where
  pub edition : Edition
  pub board : Lists
  -- for each number that a process may have whether that process has exited
  pub gone : List Bool
  -- for each port made, how many values were sent and received
  pub counts : List Tally
  -- how many entries were admitted: the next call's ticket
  pub steps : ℕ

-- the machine of these parts
abbrev pub machine_of : Edition → Lists → List Tally → List Bool → ℕ → MachineLists
machine_of edition board counts gone steps =
    record { edition = edition; board = board; gone = gone; counts = counts; steps = steps }

-- a machine with this head, and nothing made, gone or open
abbrev pub opened_machine : Head → MachineLists
opened_machine h =
    record { edition = h.edition; board = opened h.procs; gone = replicate MOST_PROCS false; counts = []; steps = 0 }

-- nothing was sent
abbrev pub no_tally : Tally
no_tally = record { sent = 0; received = 0 }

-- what the port has carried
abbrev pub tally_at : List Tally → Port → Tally
tally_at ts p = slice_index_or ts (p.0 - 1) no_tally

-- the tallies with this one at the port
abbrev pub with_tally : List Tally → Port → Tally → List Tally
with_tally ts p t = slice_set ts (p.0 - 1) t

-- a tally with one more value sent
abbrev pub sent_tally : Tally → Tally
sent_tally t = record { sent = t.sent + 1; received = t.received }

-- a tally with one more value received
abbrev pub received_tally : Tally → Tally
received_tally t = record { sent = t.sent; received = t.received + 1 }

-- a tally with one more value handed from a sender to a receiver
abbrev pub handed_tally : Tally → Tally
handed_tally t = record { sent = t.sent + 1; received = t.received + 1 }

-- one more value was sent on the port
abbrev pub one_sent : Port → List Tally → List Tally
one_sent p ts = with_tally ts p (sent_tally (tally_at ts p))

-- one more value was received from the port
abbrev pub one_received : Port → List Tally → List Tally
one_received p ts = with_tally ts p (received_tally (tally_at ts p))

-- one more value was handed over at the port
abbrev pub one_handed : Port → List Tally → List Tally
one_handed p ts = with_tally ts p (handed_tally (tally_at ts p))
