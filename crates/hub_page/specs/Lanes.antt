-- What a lane asks, is told and waits, step by step. A lane is a process's number; the number of processes stands for all processes
-- that there are not.
use Rattle.std.specs.Prelude.{Bool, List, None, Option, Some, count_by, false, filter, if◌then◌else◌, is_some, min, not, slice_get, true, ℕ, ◌&&◌, ◌+◌, ◌==◌}
use Rattle.std.specs.List.{last_or}
use Rattle.std.specs.Option.{option_map_or}
use Rattle.hub_base.specs.declared.value.Pid.{Pid}
use Rattle.hub_base.specs.Entry.{Entry}
use Rattle.hub_base.specs.declared.event.Outcome.{Outcome}
use Rattle.hub_base.specs.declared.event.Outcome.TheVariants.{Sent, Got, Drained, Closed}
use Rattle.hub_base.specs.declared.event.What.{What}
use Rattle.hub_base.specs.declared.event.What.TheVariants as what
use Rattle.hub_base.specs.Values.{is_fault}
use Rattle.hub_laws.specs.Replies.{is_parked}
use Rattle.hub_story.specs.declared.told.Told.{Told}
use Rattle.hub_story.specs.Levels.{came_by, told_by}

abbrev pub lane_of : ℕ → Pid → ℕ
lane_of procs pid = min pid.0 procs

-- the process is of this lane
abbrev pub is_in : ℕ → ℕ → Pid → Bool
is_in procs lane pid = lane_of procs pid == lane

abbrev pub one_if : Bool → ℕ
one_if b = if b then 1 else 0

-- ---- what it asks
-- 1 where the entry at this place is of the lane, and else 0
abbrev pub asked_at : List Entry → ℕ → ℕ → ℕ → ℕ
asked_at es procs lane place = option_map_or (λ e. one_if (is_in procs lane e.pid)) (slice_get es place) 0

-- ---- what it is told
-- a send on a closed channel
abbrev pub is_closed : Outcome → Bool
is_closed Closed = true
is_closed Sent = false
is_closed (Got v) = false
is_closed Drained = false

-- the step was stalled, a fault, or closed
abbrev pub is_trouble : What → Bool
is_trouble (what.Fired i o) = is_closed o
is_trouble what.Stalled = true
is_trouble (what.Fault f) = true
is_trouble (what.Made p) = false
is_trouble what.Default = false
is_trouble what.Done = false
is_trouble what.Parked = false
is_trouble what.Cancelled = false

abbrev pub is_trouble_in : ℕ → ℕ → Told → Bool
is_trouble_in procs lane t = is_in procs lane t.event.pid && is_trouble t.event.what

-- how many of its steps are told so by the step at this place
abbrev pub troubles_at : List Told → ℕ → ℕ → ℕ → ℕ
troubles_at all procs lane place = count_by (is_trouble_in procs lane) (came_by place all)

-- ---- where it waits
-- it is told something, and no fault: until its call ends, a process that waits is told nothing but faults
abbrev pub is_news : ℕ → ℕ → Told → Bool
is_news procs lane t = is_in procs lane t.event.pid && not (is_fault t.event.what)

-- the place of the call that this parked
abbrev pub parked_place : Option Told → Option ℕ
parked_place None = None
parked_place (Some t) = if is_parked t.event.what then Some t.asked else None

-- the place of its call that waits, if one does: that it was parked is the last news that the lane has
abbrev pub waiting_call : ℕ → ℕ → List Told → Option ℕ
waiting_call procs lane until = parked_place (last_or None (filter (is_news procs lane) until))

-- 1 where a call of it waits behind the step at this place, and else 0
abbrev pub waits_at : List Told → ℕ → ℕ → ℕ → ℕ
waits_at all procs lane place = one_if (is_some (waiting_call procs lane (told_by (place + 1) all)))
