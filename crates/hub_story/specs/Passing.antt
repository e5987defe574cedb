-- Which value went from which entry to which: the k-th value that was sent on a port is the k-th that
-- was received from it.
use Rattle.std.specs.Prelude.{List, [], ◌∷◌, Option}
use Rattle.std.specs.List.{filter_map}
use Rattle.std.specs.Option.{option_map}
use Rattle.hub_base.specs.declared.value.Port.{Port}
use Rattle.hub_base.specs.declared.value.Value.{Value}
use Rattle.hub_base.specs.declared.case.Case.{Case}
use Rattle.hub_base.specs.Entry.{Entry}
use Rattle.hub_base.specs.declared.event.Outcome.{Outcome}
use Rattle.hub_base.specs.Values.{cases_at, of_what, sent_on, got_on}
use Rattle.hub_story.specs.declared.told.Told.{Told}
use Rattle.hub_story.specs.declared.moved.Moved.{Moved}
use Rattle.hub_story.specs.declared.moved.Passage.{Passage}

-- the value that is told so, where `pick` tells one of the case that fired
abbrev pub moved_by : (Option Case → Outcome → Option Value) → List Entry → Told → Option Moved
moved_by pick es t =
    option_map (λ v. record { told = t; value = v }) (of_what pick (cases_at es t.asked) t.event.what)

-- of all that is told of these entries, the sends on a port that are done, in the order in which
-- their values went in
abbrev pub sends : List Entry → List Told → Port → List Moved
sends es all p = filter_map (moved_by (sent_on p) es) all

-- the receives from a port that are done, in the order in which their values came out
abbrev pub receives : List Entry → List Told → Port → List Moved
receives es all p = filter_map (moved_by (got_on p) es) all

-- each of these sends beside the receive that stands in its place
abbrev pub beside : List Moved → List Moved → List Passage
beside [] ys = []
beside (x ∷ xs) [] = []
beside (x ∷ xs) (y ∷ ys) = record { sent = x; received = y } ∷ beside xs ys

-- the passages of values through a port: each send, and beside it the receive of its value. A value
-- that is in the buffer has none
abbrev pub passages : List Entry → List Told → Port → List Passage
passages es all p = beside (sends es all p) (receives es all p)
