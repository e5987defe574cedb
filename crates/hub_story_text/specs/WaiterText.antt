-- Who has left, and who waits, since which step, and for what; who was the last to send there, and to receive; and whether all who
-- received there have left.
use Rattle.std.specs.Prelude.{ℕ, ◌+◌, Bool, true, false, List, [], ◌∷◌, ◌++◌, codes, decimal, Option, None, Some}
use Rattle.std.specs.List.{flat_map}
use Rattle.hub_base.specs.declared.value.Port.{Port}
use Rattle.hub_base.specs.declared.case.Case.{Case}
use Rattle.hub_base.specs.declared.case.Case.TheVariants.{Send, Recv}
use Rattle.hub_base.specs.Entry.{Entry}
use Rattle.hub_story.specs.declared.told.Told.{Told}
use Rattle.hub_base.specs.Values.{cases_at}
use Rattle.hub_story.specs.declared.last_moves.AtPort.{AtPort}
use Rattle.hub_story.specs.declared.last_moves.Mover.{Mover}

abbrev pub mover_words : Option Mover → List ℕ
mover_words None = codes "nobody"
mover_words (Some m) = codes "P" ++ decimal m.pid.0 ++ codes " at step " ++ decimal (m.asked + 1)

abbrev pub port_words : AtPort → Port → List ℕ
port_words known p =
    decimal p.0 ++ codes ": last sent by " ++ mover_words known.sender ++ codes ", last received by " ++ mover_words known.receiver

abbrev pub gone_words : Bool → List ℕ
gone_words true = codes "; all who received there have left"
gone_words false = []

-- what a case waits for
abbrev pub case_words : (Port → AtPort) → Case → List ℕ
case_words known (Send p v) = codes "            to send on port " ++ port_words (known p) p ++ gone_words (known p).gone ++ codes "\n"
case_words known (Recv p) = codes "            to receive from port " ++ port_words (known p) p ++ codes "\n"

-- a process, and behind these words its step
abbrev pub who_words : List ℕ → Told → List ℕ
who_words words t = codes "          P" ++ decimal t.event.pid.0 ++ words ++ decimal (t.asked + 1) ++ codes "\n"

abbrev pub left_words : List Told → List ℕ
left_words left = flat_map (who_words (codes " left at step ")) left

-- a call that waited, and its cases
abbrev pub waiter_words : List Entry → (Port → AtPort) → Told → List ℕ
waiter_words es known t = who_words (codes " waits since step ") t ++ flat_map (case_words known) (cases_at es t.asked)

-- below a heading who has left, and these calls; if there are none, words for that
abbrev pub waiters_words : List ℕ → List ℕ → List Entry → (Port → AtPort) → List Told → List Told → List ℕ
waiters_words nobody heading es known left [] = nobody
waiters_words nobody heading es known left (t ∷ ts) = heading ++ left_words left ++ flat_map (waiter_words es known) (t ∷ ts)
