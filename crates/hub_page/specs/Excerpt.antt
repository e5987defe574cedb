-- Which steps a page tells: all of a window, and of the others those without which they could not be understood.
use Rattle.std.specs.Prelude.{ℕ, nat_lt, ◌&&◌, ◌||◌, not, Bool, true, false, List, Option, slice_get}
use Rattle.std.specs.List.{list_any}
use Rattle.std.specs.Option.{option_map_or}
use Rattle.hub_base.specs.Entry.{Entry, Step}
use Rattle.hub_base.specs.declared.entry.Step.TheVariants.{Make, Call, Close, Exit, Cancel, Start, Reopen}
use Rattle.hub_base.specs.declared.event.What.{What}
use Rattle.hub_base.specs.declared.event.What.TheVariants.{Fired}
use Rattle.hub_story.specs.declared.told.Told.{Told}
use Rattle.hub_story.specs.declared.window.Window.{Window}
use Rattle.hub_laws.specs.Replies.{is_parked}
use Rattle.hub_story.specs.Levels.{came_by}
use Rattle.hub_story.specs.Told.{end_of}
use Rattle.hub_base.specs.Values.{cases_at}
use Rattle.hub_story.specs.Waiting.{is_stalled}
use Rattle.hub_story.specs.Windows.{has, touches}
use Rattle.hub_story.specs.Partners.{partner_of}

-- it asks for what lasts: a port, or its second life; that its process exits, or that another starts again
abbrev pub is_lasting : Step → Bool
is_lasting (Make cap) = true
is_lasting Exit = true
is_lasting (Call cases default word) = false
is_lasting (Close p) = false
is_lasting (Cancel q) = false
is_lasting (Start q) = true
is_lasting (Reopen p cap) = true

abbrev pub has_some : Window → Option ℕ → Bool
has_some w o = option_map_or (has w) o false

-- a case of the entry asked at this place fired, and the window has the other entry of its passage
abbrev pub has_other : Window → List Entry → List Told → ℕ → What → Bool
has_other w es all asked (Fired i o) = option_map_or (λ c. has_some w (partner_of es all asked)) (slice_get (cases_at es asked) i) false
has_other w es all asked what = false

-- by this event a call was stalled; a step ended of which the window has some; or one ended of whose passage the window has the other entry
abbrev pub is_end_of : Window → List Entry → List Told → Told → Bool
is_end_of w es all t = is_stalled t.event.what || touches w t.asked t.by || has_other w es all t.asked t.event.what

-- its call waits when the window begins: it was parked before that, and no step before the window ends it
abbrev pub is_waiting : Window → List Told → ℕ → Bool
is_waiting w all place =
    nat_lt place w.first && list_any (λ t. is_parked t.event.what) (came_by place all)
    && option_map_or (λ t. not (nat_lt t.by w.first)) (end_of all place) true

-- the step at this place is told: it is one of the window's; it lasts; it ends a call that the window needs, or stalls one; its call waits
-- when the window begins; or the window has the other entry of its passage
abbrev pub is_told : Window → List Entry → List Told → ℕ → Entry → Bool
is_told w es all place e =
    has w place || is_lasting e.step || list_any (is_end_of w es all) (came_by place all) || is_waiting w all place
    || has_some w (partner_of es all place)
