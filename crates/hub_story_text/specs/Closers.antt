-- Who opened a port again last, and who closed it since.
use Rattle.std.specs.Prelude.{◌==◌, Bool, false, List, None, Some, if◌then◌else◌}
use Rattle.std.specs.List.{fold}
use Rattle.std.specs.Option.{option_map_or}
use Rattle.hub_base.specs.declared.value.Port.{Port}
use Rattle.hub_base.specs.Entry.{Entry}
use Rattle.hub_story.specs.declared.told.Told.{Told}
use Rattle.hub_story.specs.Lives.{closed_port, reopens}
use Rattle.hub_story_text.specs.declared.closers.Turns.{Turns}

-- it is this one
abbrev pub closes : List Entry → Port → Told → Bool
closes es p t = option_map_or (λ q. q.0 == p.0) (closed_port es t) false

-- nobody has closed it, or opened it again
abbrev pub no_turns : Turns
no_turns = record { reopened = None; closed = None }

-- after one event more
abbrev pub with_turn : List Entry → Port → Turns → Told → Turns
with_turn es p turns t =
    if closes es p t then record { reopened = turns.reopened; closed = Some t }
    else if reopens es p t then record { reopened = Some t; closed = None } else turns

-- of all that is told
abbrev pub turns_on : List Entry → List Told → Port → Turns
turns_on es all p = fold (with_turn es p) no_turns all
