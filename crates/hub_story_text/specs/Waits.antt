-- The calls that waited: how many, and which of them waited longest. Those of the clock are left out.
use Rattle.std.specs.Prelude.{◌≡◌, ℕ, zero, suc, ◌+◌, ◌-◌, ◌&&◌, not, nat_lt, Bool, List, [], ◌∷◌, ◌++◌, codes, count_by, filter}
use Rattle.std.specs.Prelude.{decimal, length, take, slice_get, Option, None, Some, if◌then◌else◌}
use Rattle.std.specs.List.{cons_option, flat_map, fold}
use Rattle.std.specs.Option.{option_map_or}
use Rattle.hub_base.specs.declared.value.Pid.{Pid}
use Rattle.hub_base.specs.Entry.{Entry}
use Rattle.hub_laws.specs.Once.{is_call}
use Rattle.hub_story.specs.declared.told.Told.{Told}
use Rattle.hub_story.specs.Outlines.{ends_late}
use Rattle.hub_story.specs.Told.{end_of}
use Rattle.hub_story_text.specs.declared.waits.TheConstants.{MOST_LONGEST}
use Rattle.hub_story_text.specs.declared.waits.Wait.{Wait}
use Rattle.hub_story_text.specs.declared.waits.Waits.{Waits}
use Rattle.hub_story.specs.ByClock.{is_clock, is_by_clock}
use Rattle.hub_story_text.specs.LineText.{told_line}

-- the entry is a call, and not the clock's
abbrev pub counts : Option Pid → Entry → Bool
counts clock e = is_call e.step && not (is_clock clock e.pid)

-- the wait of the call at a place, by how it ended: until a later step, or until the last of so many
abbrev pub wait_of : ℕ → ℕ → Option Told → Option Wait
wait_of count place None = Some (record { place = place; steps = count - (place + 1) })
wait_of count place (Some t) = if nat_lt place t.by then Some (record { place = place; steps = t.by - place }) else None

-- the wait of the call at a place, unless it is the clock's
abbrev pub told_wait : Option Pid → List Entry → List Told → ℕ → Option Wait
told_wait clock es all place = if is_by_clock clock es place then None else wait_of (length es) place (end_of all place)

-- the waits of the calls at the places below this number, oldest first
abbrev pub waits_below : Option Pid → List Entry → List Told → ℕ → List Wait
waits_below clock es all zero = []
waits_below clock es all (suc n) = waits_below clock es all n ++ cons_option (told_wait clock es all n) []

-- all
abbrev pub waits : Option Pid → List Entry → List Told → List Wait
waits clock es all = waits_below clock es all (length es)

-- one wait more among others that stand longest first; of equal ones the older one is first
abbrev pub with_wait : Wait → List Wait → List Wait
with_wait w [] = w ∷ []
with_wait w (x ∷ xs) = if nat_lt x.steps w.steps then w ∷ x ∷ xs else x ∷ with_wait w xs

-- longest first, but no more than a few
abbrev pub longest : List Wait → List Wait
longest ws = take MOST_LONGEST (fold (λ ranked w. with_wait w ranked) [] ws)

-- they are so many, and the longest of them are these
pub record AreWaits (ws : List Wait) (told : Waits) : Type 0 where
  pub count : told.count ≡ length ws
  pub longest : told.longest.items ≡ longest ws

-- what is known of its end is what it was told by a later step, if anything
abbrev pub EndsLate : List Told → Wait → Type 0
EndsLate all w = end_of (filter ends_late all) w.place ≡ end_of all w.place

-- the line of the step at this place, again
abbrev pub line_at : Option Pid → List Entry → List Told → Wait → List ℕ
line_at clock es all w = option_map_or (λ e. told_line clock es all w.place e []) (slice_get es w.place) []

-- how many of the calls waited, and the lines of those that waited longest
abbrev pub waits_text : Option Pid → List Entry → List Told → List ℕ
waits_text clock es all =
    decimal (length (waits clock es all)) ++ codes " of " ++ decimal (count_by (counts clock) es)
    ++ codes " calls waited, the longest first, five at most\n" ++ flat_map (line_at clock es all) (longest (waits clock es all))
