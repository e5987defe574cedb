-- What a step did to calls that waited: `frees 3`, `cancels 3`, `times out 3`, `wakes 3` or `stalls 3 4`, by the events with which
-- they ended. The clock times calls out, and is woken itself.
use Rattle.std.specs.Prelude.{ℕ, ◌+◌, ◌==◌, ◌&&◌, ◌||◌, not, Bool, true, false, List, [], ◌∷◌, ◌++◌, codes, decimal, filter, Option}
use Rattle.std.specs.List.{flat_map}
use Rattle.hub_base.specs.declared.value.Pid.{Pid}
use Rattle.hub_base.specs.Entry.{Entry}
use Rattle.hub_base.specs.declared.event.What.{What}
use Rattle.hub_base.specs.declared.event.What.TheVariants as what
use Rattle.hub_story.specs.declared.told.Told.{Told}
use Rattle.hub_story_text.specs.declared.cells.TheConstants.{ENDS}
use Rattle.hub_story.specs.declared.by_clock.Part.{Part}
use Rattle.hub_story.specs.declared.by_clock.Part.TheVariants.{OwnCall, OwnStep, NoPart}
use Rattle.hub_story_text.specs.declared.ends.Ending.{Ending}
use Rattle.hub_story_text.specs.declared.ends.Ending.TheVariants.{Frees, Cancels, TimesOut, Wakes, Stalls}
use Rattle.hub_story_text.specs.Cells.{with_cell}
use Rattle.hub_story.specs.ByClock.{part_of}

-- an event ends a call in this way
abbrev pub ends_so : Ending → Part → What → Bool
ends_so Frees part (what.Fired i o) = true
ends_so Cancels NoPart what.Cancelled = true
ends_so TimesOut OwnStep what.Cancelled = true
ends_so Wakes OwnCall what.Cancelled = true
ends_so Wakes OwnCall what.Stalled = true
ends_so Stalls OwnStep what.Stalled = true
ends_so Stalls NoPart what.Stalled = true
ends_so ending part other = false

-- it so ended a step other than the one at this place
abbrev pub ends_other : Option Pid → List Entry → Ending → ℕ → Told → Bool
ends_other clock es ending place t = ends_so ending (part_of clock es t) t.event.what && not (t.asked == place)

-- it is told of the step at this place, or of a case that fired
abbrev pub is_own_or_fired : ℕ → Told → Bool
is_own_or_fired place t = (t.asked == place) || ends_so Frees NoPart t.event.what

abbrev pub ending_word : Ending → List ℕ
ending_word Frees = codes "frees"
ending_word Cancels = codes "cancels"
ending_word TimesOut = codes "times out"
ending_word Wakes = codes "wakes"
ending_word Stalls = codes "stalls"

abbrev pub step_number : Told → List ℕ
step_number t = codes " " ++ decimal (t.asked + 1)

abbrev pub ends_words : Ending → List Told → List ℕ
ends_words ending [] = []
ends_words ending (t ∷ ts) = ending_word ending ++ flat_map step_number (t ∷ ts)

-- an event that so ended one more
abbrev pub with_ended : Ending → List ℕ → Told → List ℕ
with_ended ending [] t = ending_word ending ++ step_number t
with_ended ending (c ∷ cs) t = c ∷ cs ++ step_number t

-- behind a line the steps that so ended by the step at this place, in the last column
abbrev pub with_ends : Option Pid → List Entry → Ending → ℕ → List Told → List ℕ → List ℕ
with_ends clock es ending place came line =
    with_cell ENDS line (ends_words ending (filter (ends_other clock es ending place) came))

-- so in each way
abbrev pub with_all_ends : Option Pid → List Entry → ℕ → List Told → List ℕ → List ℕ
with_all_ends clock es place came line =
    with_ends clock es Stalls place came
    (with_ends clock es Wakes place came
    (with_ends clock es TimesOut place came
    (with_ends clock es Cancels place came (with_ends clock es Frees place came line))))
