-- Who is outside the hub at the end of a journal: the processes that have neither exited nor wait; and where their last steps stand.
use Rattle.std.specs.Prelude.{ℕ, zero, suc, ◌+◌, ◌==◌, ◌&&◌, not, Bool, List, [], ◌∷◌, ◌++◌, Option, None, Some, if◌then◌else◌}
use Rattle.std.specs.List.{list_any}
use Rattle.hub_base.specs.Entry.{Entry}
use Rattle.hub_story.specs.declared.outside.Outsider.{Outsider}
use Rattle.hub_story.specs.declared.told.Told.{Told}
use Rattle.hub_story.specs.Leavers.{is_told_to, leavers}

-- where the last step of process n stands, where these entries, the first of which stands at this place, come behind others
abbrev pub last_of : ℕ → ℕ → Option ℕ → List Entry → Option ℕ
last_of n place before [] = before
last_of n place before (e ∷ es) = last_of n (place + 1) (if e.pid.0 == n then Some place else before) es

-- process n has not exited, or was started again, and is not among these, which wait
abbrev pub is_outside : List Entry → List Told → List Told → ℕ → Bool
is_outside es all waiting n = not (list_any (is_told_to n) (leavers es all)) && not (list_any (is_told_to n) waiting)

abbrev pub outsider : List Entry → ℕ → Outsider
outsider es n = record { pid = record { 0 = n }; last = last_of n 0 None es }

-- process n, where it is outside
abbrev pub one_outside : List Entry → List Told → List Told → ℕ → List Outsider
one_outside es all waiting n = if is_outside es all waiting n then outsider es n ∷ [] else []

-- of the first so many processes those that are outside, by number
abbrev pub outside : List Entry → List Told → List Told → ℕ → List Outsider
outside es all waiting zero = []
outside es all waiting (suc n) = outside es all waiting n ++ one_outside es all waiting n
