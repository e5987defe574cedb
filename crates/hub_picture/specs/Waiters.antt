-- Who waits in vain: whoever the last step of the window that stalls anyone stalls, and, where the window goes to the end,
-- whoever waits then. For each of their cases, who was the last to send on its port by then, who to receive from it, whether all
-- who received there had left, and for whom a stalled call perhaps waits.
use Rattle.std.specs.Prelude.{ℕ, zero, ◌+◌, ◌==◌, Bool, nat_le, List, [], ◌∷◌, ◌++◌, filter, map, length}
use Rattle.std.specs.Prelude.{if◌then◌else◌}
use Rattle.std.specs.List.{flat_map}
use Rattle.hub_base.specs.declared.case.Case.{Case}
use Rattle.hub_base.specs.Entry.{Entry}
use Rattle.hub_story.specs.declared.last_moves.AtPort.{AtPort}
use Rattle.hub_story.specs.declared.told.Told.{Told}
use Rattle.hub_base.specs.Values.{cases_at}
use Rattle.hub_story.specs.declared.window.Window.{Window}
use Rattle.hub_story.specs.LastMoves.{known_of}
use Rattle.hub_story.specs.Levels.{told_by}
use Rattle.hub_story.specs.Whom.{whom}
use Rattle.hub_picture.specs.declared.waiters.Waiter.{Waiter}
use Rattle.hub_base.specs.Ready.{port_of}

-- what a call waits for by one of its cases, where this is known of its port, and a step stalled these
abbrev pub waiter_at : List Entry → List Told → Told → Case → AtPort → Waiter
waiter_at es stalled t c there = record {
  told = t;
  case = c;
  sender = there.sender;
  receiver = there.receiver;
  gone = there.gone;
  whom = whom es stalled t there c;
}

-- as it stands after this step, which stalled these
abbrev pub waits_for : List Entry → List Told → ℕ → List Told → Told → Case → Waiter
waits_for es all step stalled t c = waiter_at es stalled t c (known_of es (told_by (step + 1) all) (port_of c))

abbrev pub waiters_of : List Entry → List Told → ℕ → List Told → Told → List Waiter
waiters_of es all step stalled t = map (waits_for es all step stalled t) (cases_at es t.asked)

-- the step of the last of these, or else that
abbrev pub last_step : ℕ → List Told → ℕ
last_step before [] = before
last_step before (t ∷ ts) = last_step t.by ts

abbrev pub is_by : ℕ → Told → Bool
is_by step t = t.by == step

-- what those of these wait for that this step stalled
abbrev pub stalled_by : List Entry → List Told → ℕ → List Told → List Waiter
stalled_by es all step stalls = flat_map (waiters_of es all step (filter (is_by step) stalls)) (filter (is_by step) stalls)

-- the calls that wait in the end, where the window goes so far
abbrev pub open_in : Window → ℕ → List Told → List Told
open_in w count waiting = if nat_le count w.end then waiting else []

abbrev pub all_waiters : Window → List Entry → List Told → List Told → List Told → List Waiter
all_waiters w es all stalls waiting =
    stalled_by es all (last_step zero stalls) stalls
    ++ flat_map (waiters_of es all (length es) []) (open_in w (length es) waiting)
