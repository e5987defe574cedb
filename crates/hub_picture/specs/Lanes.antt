-- The lanes of a picture: each process has one from the opening on, and one more each time that it is started again. A lane ends when
-- the process exits.
use Rattle.std.specs.Prelude.{ℕ, zero, suc, ◌==◌, ◌&&◌, true, false, List, [], ◌∷◌, ◌++◌, Option, None, Some, if◌then◌else◌}
use Rattle.std.specs.List.{filter_map}
use Rattle.std.specs.Option.{option_map}
use Rattle.hub_base.specs.Entry.{Entry}
use Rattle.hub_story.specs.declared.told.Told.{Told}
use Rattle.hub_story.specs.Leavers.{comes_back, leaves}
use Rattle.hub_picture.specs.declared.lanes.Lane.{Lane}
use Rattle.hub_picture.specs.declared.lanes.Turn.{Turn}

-- ---- what is told of who is there
-- a process exits by the step of this event, or is started again
abbrev pub turn_of : List Entry → Told → Option Turn
turn_of es t =
    if leaves es t then Some (record { pid = t.event.pid.0; by = t.by; begins = false })
    else option_map (λ q. record { pid = q.0; by = t.by; begins = true }) (comes_back es t)

abbrev pub turns : List Entry → List Told → List Turn
turns es all = filter_map (turn_of es) all

-- ---- lanes
-- of process n, from the opening on
abbrev pub opening : ℕ → Lane
opening n = record { pid = n; begun = None; exited = None }

-- by its process's exit a lane ends; when that is started again, another lane begins
abbrev pub after : Lane → Turn → Lane
after l t =
    if t.pid == l.pid
    then (if t.begins then record { pid = l.pid; begun = Some t.by; exited = None }
    else record { pid = l.pid; begun = l.begun; exited = Some t.by })
    else l

-- behind this one, then
abbrev pub left_by : Lane → Turn → List Lane
left_by l t = if (t.pid == l.pid) && t.begins then l ∷ [] else []

-- the lanes of a process from this one on, where these turns come
abbrev pub lanes_from : Lane → List Turn → List Lane
lanes_from l [] = l ∷ []
lanes_from l (t ∷ ts) = left_by l t ++ lanes_from (after l t) ts

-- those of the first so many processes
abbrev pub lanes_of : ℕ → List Entry → List Told → List Lane
lanes_of zero es all = []
lanes_of (suc n) es all = lanes_of n es all ++ lanes_from (opening n) (turns es all)
