-- How full ports were: a strip for each port that holds a value in the window, and on it a level from each value that moves there
-- to the next.
use Rattle.std.specs.Prelude.{ℕ, ◌+◌, ◌==◌, ◌&&◌, Bool, not, nat_lt, length, List, [], ◌∷◌, filter, Option, None, Some, if◌then◌else◌}
use Rattle.std.specs.List.{flat_map}
use Rattle.hub_base.specs.declared.value.Port.{Port}
use Rattle.hub_base.specs.Entry.{Entry}
use Rattle.hub_base.specs.declared.event.What.{What}
use Rattle.hub_base.specs.declared.event.What.TheVariants as what
use Rattle.hub_story.specs.declared.levels.Level.{Level}
use Rattle.hub_story.specs.declared.moves.Move.{Move}
use Rattle.hub_story.specs.declared.told.Told.{Told}
use Rattle.hub_story.specs.declared.window.Window.{Window}
use Rattle.hub_story.specs.Levels.{empty, with_one}
use Rattle.hub_story.specs.Lives.{most_room}
use Rattle.hub_story.specs.Moves.{move_of}
use Rattle.hub_picture.specs.declared.strips.Strip.{Strip}
use Rattle.hub_picture.specs.declared.levels.Held.{Held}
use Rattle.hub_story.specs.Windows.{goes_on}

-- ---- the ports
-- the strip of a port in this row, where it has room
abbrev pub with_room : ℕ → Port → ℕ → Option Strip
with_room row p room = if room == 0 then None else Some (record { row = row; port = p; room = room })

-- that of the port that is told to be made by the entry at this place
abbrev pub made_at : List Entry → List Told → ℕ → ℕ → What → Option Strip
made_at es all row place (what.Made p) = with_room row p (most_room es all p place)
made_at es all row place w = None

abbrev pub strip_of : List Entry → List Told → ℕ → Told → Option Strip
strip_of es all row t = made_at es all row t.asked t.event.what

-- a strip before these, or else those
abbrev pub before : Option Strip → List Strip → List Strip → List Strip
before None these those = those
before (Some s) these those = s ∷ these

-- of all that is told, the strips of the ports that are told to be made here, from this row on
abbrev pub strips_from : List Entry → List Told → ℕ → List Told → List Strip
strips_from es all row [] = []
strips_from es all row (t ∷ ts) = before (strip_of es all row t) (strips_from es all (row + 1) ts) (strips_from es all row ts)

abbrev pub all_strips : List Entry → List Told → List Strip
all_strips es all = strips_from es all 0 all

-- ---- what they held
-- with what moved, where it did so through the port
abbrev pub with_move : Port → Level → Option Move → Level
with_move p l None = l
with_move p l (Some m) = if m.port.0 == p.0 then with_one m.side l else l

-- with what is told here
abbrev pub after : List Entry → Port → Level → Told → Level
after es p l t = with_move p l (move_of es t)

abbrev pub is_same : Level → Level → Bool
is_same l m = (l.sent == m.sent) && (l.received == m.received)

abbrev pub held : Strip → ℕ → Option ℕ → Level → Held
held s from until l = record { strip = s; from = from; until = until; level = l }

-- from this step on the port had this level, and then these things were told
abbrev pub levels_from : List Entry → Strip → ℕ → Level → List Told → List Held
levels_from es s from l [] = held s from None l ∷ []
levels_from es s from l (t ∷ ts) =
    if is_same l (after es s.port l t) then levels_from es s from l ts
    else held s from (Some t.by) l ∷ levels_from es s t.by (after es s.port l t) ts

-- it is shown where the port holds a value at a step of the window
abbrev pub shows_level : Window → Held → Bool
shows_level w h = nat_lt h.level.received h.level.sent && goes_on w h.from h.until

-- the levels of a port that are shown
abbrev pub levels_on : Window → List Entry → List Told → Strip → List Held
levels_on w es all s = filter (shows_level w) (levels_from es s 0 empty all)

-- ---- the strips that are shown
-- the port holds a value at a step of the window
abbrev pub holds_any : Window → List Entry → List Told → Strip → Bool
holds_any w es all s = not (length (levels_on w es all s) == 0)

-- the strip, in this row
abbrev pub in_row : ℕ → Strip → Strip
in_row row s = record { row = row; port = s.port; room = s.room }

-- of these strips those whose ports do, a row each from this one on
abbrev pub rows_from : Window → List Entry → List Told → ℕ → List Strip → List Strip
rows_from w es all row [] = []
rows_from w es all row (s ∷ ss) =
    if holds_any w es all s then in_row row s ∷ rows_from w es all (row + 1) ss
    else rows_from w es all row ss

abbrev pub shown_strips : Window → List Entry → List Told → List Strip
shown_strips w es all = rows_from w es all 0 (all_strips es all)

abbrev pub all_levels : Window → List Entry → List Told → List Held
all_levels w es all = flat_map (levels_on w es all) (shown_strips w es all)
