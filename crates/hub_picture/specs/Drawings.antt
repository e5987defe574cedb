-- What is drawn of a journal, in processes and steps. Colours, lengths and texts are no part of it.
use Rattle.std.specs.Prelude.{◌≡◌, ℕ, zero, suc, ◌+◌, min, Bool, true, false, ◌&&◌, List, [], ◌∷◌, ◌++◌, filter, map, length}
use Rattle.std.specs.Prelude.{Option, None, Some}
use Rattle.hub_base.specs.declared.value.Pid.{Pid}
use Rattle.hub_base.specs.declared.value.Port.{Port}
use Rattle.hub_base.specs.Entry.{Entry}
use Rattle.hub_base.specs.declared.limits.TheConstants.{MOST_PORTS}
use Rattle.hub_base.specs.declared.event.What.{What}
use Rattle.hub_base.specs.declared.event.What.TheVariants as what
use Rattle.hub_base.specs.Journal.{JournalView}
use Rattle.hub_story.specs.declared.told.Told.{Told}
use Rattle.hub_story.specs.declared.moved.Passage.{Passage}
use Rattle.hub_story.specs.declared.story.Story.{Story}
use Rattle.hub_story.specs.Ends.{ended_at}
use Rattle.hub_story.specs.declared.by_clock.Part.{Part}
use Rattle.hub_story.specs.declared.by_clock.Part.TheVariants.{NoPart}
use Rattle.hub_story.specs.ByClock.{other_outsiders, part_of, to_others}
use Rattle.hub_story.specs.Clock.{clock_of}
use Rattle.hub_story.specs.declared.outside.Outsider.{Outsider}
use Rattle.hub_story.specs.Outside.{outside}
use Rattle.hub_story.specs.Passing.{passages}
use Rattle.hub_story.specs.Waiting.{is_stalled}
use Rattle.hub_story.specs.declared.window.Window.{Window}
use Rattle.hub_picture.specs.declared.asked.Asked.{Asked}
use Rattle.hub_picture.specs.declared.asked.Shown.{Shown}
use Rattle.hub_picture.specs.declared.asked.Shown.TheVariants.{Boxes, Bars}
use Rattle.hub_picture.specs.declared.arrows.Arrow.{Arrow}
use Rattle.hub_picture.specs.Lanes.{lanes_of}
use Rattle.hub_picture.specs.Levels.{shown_strips, all_levels}
use Rattle.hub_picture.specs.Waiters.{all_waiters, open_in}
use Rattle.hub_picture.specs.declared.drawing.Drawing.{Drawing}
use Rattle.hub_story.specs.Windows.{goes_on, has, touches, within}

-- ---- what was asked
-- what the clock has to do with how an entry ended
abbrev pub part_in : Option Pid → List Entry → Option Told → Part
part_in clock es None = NoPart
part_in clock es (Some end) = part_of clock es end

-- an entry at this place, and how it ended
abbrev pub asked_at : Option Pid → List Entry → Story → ℕ → Entry → Asked
asked_at clock es s place e =
    record { place = place; entry = e; ended = ended_at s place; part = part_in clock es (ended_at s place) }

-- these, the first of which stands at this place
abbrev pub asked : Option Pid → List Entry → Story → ℕ → List Entry → List Asked
asked clock all s place [] = []
asked clock all s place (e ∷ es) = asked_at clock all s place e ∷ asked clock all s (place + 1) es

-- by which step it ended
abbrev pub ended_by : Option Told → Option ℕ
ended_by None = None
ended_by (Some end) = Some end.by

-- the window shows an entry by a box where it has its step, and by a bar where it waits there: until a later step ended it,
-- or still
abbrev pub shows : Shown → Window → ℕ → Option ℕ → Bool
shows Boxes w place until = has w place
shows Bars w place until = goes_on w place until

abbrev pub is_shown : Shown → Window → Asked → Bool
is_shown shown w a = shows shown w a.place (ended_by a.ended)

-- ---- what passed
abbrev pub is_made : What → Bool
is_made (what.Made p) = true
is_made w = false

-- a value goes from the step that sent it to the step that received it; the window has one of them, or lies between
abbrev pub crosses : Window → Passage → Bool
crosses w m = touches w m.sent.told.by m.received.told.by

abbrev pub arrow_on : Port → Passage → Arrow
arrow_on p m = record { port = p; passage = m }

-- the arrows of a port
abbrev pub arrows_on : Window → Port → List Passage → List Arrow
arrows_on w p ms = map (arrow_on p) (filter (crosses w) ms)

-- those of the first so many ports, which are numbered from 1
abbrev pub arrows_to : ℕ → Window → List Entry → List Told → List Arrow
arrows_to zero w es all = []
arrows_to (suc n) w es all =
    arrows_to n w es all ++ arrows_on w (record { 0 = n + 1 }) (passages es all (record { 0 = n + 1 }))

-- it tells that a port was made
abbrev pub makes_port : Told → Bool
makes_port t = is_made t.event.what

-- how many were made
abbrev pub ports_of : List Told → ℕ
ports_of all = min (length (filter makes_port all)) MOST_PORTS

-- those of all ports that were made
abbrev pub all_arrows : Window → List Entry → List Told → List Arrow
all_arrows w es all = arrows_to (ports_of all) w es all

-- ---- who was stalled
-- it tells that a call ended in the window because everyone waited
abbrev pub stalls_in : Window → Told → Bool
stalls_in w t = is_stalled t.event.what && has w t.by

-- ---- who is outside
-- these, where any of those calls wait
abbrev pub outside_beside : List Outsider → List Told → List Outsider
outside_beside os [] = []
outside_beside os (t ∷ ts) = os

-- those who are, but for the clock, where the window goes to the end and calls of others wait there
abbrev pub outside_in : Window → Option Pid → ℕ → List Entry → List Told → List Told → List Outsider
outside_in w clock procs es all waiting =
    outside_beside (other_outsiders clock (outside es all waiting procs)) (open_in w (length es) (to_others clock waiting))

-- ---- the whole
-- the lanes are the lives of processes, the strips the ports that hold a value in the window; the boxes are the entries of the window, the bars the
-- calls that waited, the arrows the passages of all ports, and the levels what ports held, as far as they touch it; the
-- stalls who was stalled by its steps, the waiters who waits in vain, and for what, and then who is outside, each but for the clock: each
-- once, in order, and nothing else
pub record IsDrawnIn (w : Window) (given : JournalView) (s : Story) (d : Drawing) : Type 0 where
  pub procs : d.procs ≡ given.head.procs
  pub window : d.window ≡ w
  pub clock : d.clock ≡ clock_of given.head given.entries
  pub lanes : d.lanes.items ≡ lanes_of given.head.procs given.entries s.told.items
  pub strips : d.strips.items ≡ shown_strips w given.entries s.told.items
  pub boxes : d.boxes.items ≡ filter (is_shown Boxes w) (asked d.clock given.entries s 0 given.entries)
  pub bars : d.bars.items ≡ filter (is_shown Bars w) (asked d.clock given.entries s 0 given.entries)
  pub arrows : d.arrows.items ≡ all_arrows w given.entries s.told.items
  pub levels : d.levels.items ≡ all_levels w given.entries s.told.items
  pub stalls : d.stalls.items ≡ to_others d.clock (filter (stalls_in w) s.told.items)
  pub waiters : d.waiters.items ≡ all_waiters w given.entries s.told.items d.stalls.items (to_others d.clock s.waiting.items)
  pub outside : d.outside.items ≡ outside_in w d.clock given.head.procs given.entries s.told.items s.waiting.items

-- the same, of the steps of the window that the journal has
abbrev pub IsDrawingOf : JournalView → Story → Window → Drawing → Type 0
IsDrawingOf given s w d = IsDrawnIn (within w (length given.entries)) given s d
