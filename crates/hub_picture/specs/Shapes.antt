-- What a drawing has in it once some of its shapes are put in.
use Rattle.std.specs.Prelude.{◌≡◌, List, filter}
use Rattle.hub_base.specs.Entry.{Entry}
use Rattle.hub_base.specs.Journal.{JournalView}
use Rattle.hub_story.specs.declared.told.Told.{Told}
use Rattle.hub_story.specs.declared.story.Story.{Story}
use Rattle.hub_story.specs.declared.window.Window.{Window}
use Rattle.hub_story.specs.ByClock.{to_others}
use Rattle.hub_picture.specs.declared.asked.Shown.TheVariants.{Boxes, Bars}
use Rattle.hub_picture.specs.declared.drawing.Drawing.{Drawing}
use Rattle.hub_picture.specs.Drawings.{all_arrows, asked, is_shown, outside_in, stalls_in}
use Rattle.hub_picture.specs.Lanes.{lanes_of}
use Rattle.hub_picture.specs.Levels.{all_levels, shown_strips}
use Rattle.hub_picture.specs.Waiters.{all_waiters}

-- what processes ask is in it, whom a step stalled, and who is outside in the end; its processes, its window and its clock are as before
pub record HasAsked (given : JournalView) (s : Story) (w : Window) (old new : Drawing) : Type 0 where
  pub procs : new.procs ≡ old.procs
  pub window : new.window ≡ old.window
  pub clock : new.clock ≡ old.clock
  pub lanes : new.lanes.items ≡ lanes_of given.head.procs given.entries s.told.items
  pub boxes : new.boxes.items ≡ filter (is_shown Boxes w) (asked old.clock given.entries s 0 given.entries)
  pub bars : new.bars.items ≡ filter (is_shown Bars w) (asked old.clock given.entries s 0 given.entries)
  pub stalls : new.stalls.items ≡ to_others old.clock (filter (stalls_in w) s.told.items)
  pub outside : new.outside.items ≡ outside_in w old.clock given.head.procs given.entries s.told.items s.waiting.items

-- what passes the ports is in it, and who waits there in vain; the rest is as before
pub record HasMoved (es : List Entry) (all waiting : List Told) (w : Window) (old new : Drawing) : Type 0 where
  pub procs : new.procs ≡ old.procs
  pub window : new.window ≡ old.window
  pub clock : new.clock ≡ old.clock
  pub lanes : new.lanes ≡ old.lanes
  pub boxes : new.boxes ≡ old.boxes
  pub bars : new.bars ≡ old.bars
  pub stalls : new.stalls ≡ old.stalls
  pub outside : new.outside ≡ old.outside
  pub strips : new.strips.items ≡ shown_strips w es all
  pub arrows : new.arrows.items ≡ all_arrows w es all
  pub levels : new.levels.items ≡ all_levels w es all
  pub waiters : new.waiters.items ≡ all_waiters w es all old.stalls.items waiting
