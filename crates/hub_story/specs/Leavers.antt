-- Who has left: the processes whose exits were done, and that were not started again since, in order.
use Rattle.std.specs.Prelude.{ℕ, ◌==◌, ◌&&◌, not, Bool, true, false, List, [], ◌∷◌, ◌++◌, filter, slice_get, Option, None, Some, if◌then◌else◌}
use Rattle.std.specs.List.{fold}
use Rattle.std.specs.Option.{option_and_then, option_map_or}
use Rattle.hub_base.specs.declared.value.Pid.{Pid}
use Rattle.hub_base.specs.Entry.{Entry, Step}
use Rattle.hub_base.specs.declared.entry.Step.TheVariants.{Exit, Start}
use Rattle.hub_base.specs.declared.event.What.{What}
use Rattle.hub_base.specs.declared.event.What.TheVariants as what
use Rattle.hub_story.specs.declared.told.Told.{Told}

abbrev pub is_done : What → Bool
is_done what.Done = true
is_done other = false

abbrev pub is_exit : Step → Bool
is_exit Exit = true
is_exit other = false

-- the process that the step starts again
abbrev pub started : Step → Option Pid
started (Start q) = Some q
started other = None

-- it is told to process n
abbrev pub is_told_to : ℕ → Told → Bool
is_told_to n t = t.event.pid.0 == n

-- the event says that an exit was done
abbrev pub leaves : List Entry → Told → Bool
leaves es t = is_done t.event.what && option_map_or (λ e. is_exit e.step) (slice_get es t.asked) false

-- the process of which the event says that it was started again
abbrev pub comes_back : List Entry → Told → Option Pid
comes_back es t = if is_done t.event.what then option_and_then (λ e. started e.step) (slice_get es t.asked) else None

-- those of these exits that are of other processes than this one
abbrev pub without : Option Pid → List Told → List Told
without None left = left
without (Some q) left = filter (λ t. not (is_told_to q.0 t)) left

-- who has left after one event more
abbrev pub with_leaver : List Entry → List Told → Told → List Told
with_leaver es left t = if leaves es t then left ++ t ∷ [] else without (comes_back es t) left

-- by all that is told
abbrev pub leavers : List Entry → List Told → List Told
leavers es all = fold (with_leaver es) [] all
