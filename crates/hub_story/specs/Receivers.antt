-- Who received from a port in its present life, and whether all who did have left.
use Rattle.std.specs.Prelude.{◌≡◌, ℕ, ◌==◌, ◌&&◌, not, Bool, List, [], ◌∷◌, length, map, Option, None, Some, if◌then◌else◌}
use Rattle.std.specs.List.{list_all, list_any}
use Rattle.hub_base.specs.declared.value.Port.{Port}
use Rattle.hub_base.specs.Entry.{Entry}
use Rattle.hub_story.specs.declared.told.Told.{Told}
use Rattle.hub_story.specs.declared.receivers.Receivers.{Receivers as Noted}
use Rattle.hub_story.specs.Leavers.{is_told_to, leavers}
use Rattle.hub_story.specs.Lives.{life, reopens}
use Rattle.hub_story.specs.OfPorts.{one_of, things_on}
use Rattle.hub_story.specs.Passing.{receives}

-- the processes that received from the port, value by value
abbrev pub receivers : List Entry → List Told → Port → List ℕ
receivers es all p = map (λ m. m.told.event.pid.0) (receives es (life es p all) p)

-- the process that received from it by this event
abbrev pub receiver_by : List Entry → Told → Port → List ℕ
receiver_by es t p = map (λ m. m.told.event.pid.0) (receives es (t ∷ []) p)

-- there are such processes, and all have left
abbrev pub are_gone : List Told → List ℕ → Bool
are_gone left pids = not (length pids == 0) && list_all (λ n. list_any (is_told_to n) left) pids

-- somebody received from the port, and all who did have left, of all that is told
abbrev pub gone_from : List Entry → List Told → Port → Bool
gone_from es all p = are_gone (leavers es all) (receivers es all p)

-- ---- what is noted of them
-- the process, where this is the port from which it received
abbrev pub got_there : Port → Option Port → ℕ → List ℕ
got_there p None n = []
got_there p (Some q) n = one_of q p n

-- these, but none where the event says that the port was opened again
abbrev pub begun : List Entry → Told → Port → List ℕ → List ℕ
begun es t p ns = if reopens es p t then [] else ns

-- the lists tell who has left, and who received: whatever is asked of all who did has the same answer
pub record AreReceivers (es : List Entry) (all : List Told) (noted : Noted) : Type 0 where
  pub receivers : (p : Port) (test : ℕ → Bool) → list_all test (things_on noted.pids p) ≡ list_all test (receivers es all p)
  pub left : noted.left.items ≡ leavers es all
