-- What is kept of events in little memory, and what they were.
use Rattle.std.specs.Prelude.{◌<◌, ℕ, List, map, slice_get, unwrap_or}
use Rattle.hub_base.specs.declared.event.Outcome.TheVariants.{Sent}
use Rattle.hub_base.specs.declared.event.What.{What}
use Rattle.hub_base.specs.declared.event.What.TheVariants as what
use Rattle.hub_story.specs.declared.told.Told.{Told}
use Rattle.hub_story.specs.declared.told_list.ShortTold.{ShortTold}
use Rattle.hub_story.specs.declared.told_list.ShortWhat.{ShortWhat}
use Rattle.hub_story.specs.declared.told_list.ShortWhat.TheVariants as short

-- what was said; some of it stands whole at a place of these
abbrev pub what_of : List What → ShortWhat → What
what_of whats (short.Sent case) = what.Fired case Sent
what_of whats short.Stalled = what.Stalled
what_of whats short.Cancelled = what.Cancelled
what_of whats (short.Whole place) = unwrap_or (slice_get whats place) what.Stalled

-- the event again
abbrev pub told_again : List What → ShortTold → Told
told_again whats s = record { asked = s.asked; by = s.by; event = record { pid = s.pid; what = what_of whats s.what } }

-- the events again
abbrev pub told_kept : List ShortTold → List What → List Told
told_kept kept whats = map (told_again whats) kept

-- what is kept whole of it, if anything, stands before that place
abbrev pub StandsBelow : ℕ → ShortWhat → Type 0
StandsBelow n (short.Sent case) = Unit {0}
StandsBelow n short.Stalled = Unit {0}
StandsBelow n short.Cancelled = Unit {0}
StandsBelow n (short.Whole place) = place < n
