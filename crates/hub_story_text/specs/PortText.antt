-- What each port that was made carried, and by whom it was made, opened again and closed.
use Rattle.std.specs.Prelude.{ℕ, ◌+◌, ◌-◌, ◌==◌, if◌then◌else◌, List, [], ◌++◌, Option, None, Some, codes, decimal, length, slice_get}
use Rattle.std.specs.Option.{option_map_or}
use Rattle.hub_base.specs.declared.value.Port.{Port}
use Rattle.hub_base.specs.Entry.{Entry, Step}
use Rattle.hub_base.specs.declared.entry.Step.TheVariants.{Make, Reopen}
use Rattle.hub_base.specs.declared.event.What.{What}
use Rattle.hub_base.specs.declared.event.What.TheVariants as what
use Rattle.hub_story.specs.declared.told.Told.{Told}
use Rattle.hub_story.specs.Levels.{sent_by, received_by}
use Rattle.hub_story_text.specs.declared.fullest.Fullest.{Fullest}
use Rattle.hub_story_text.specs.Closers.{turns_on}
use Rattle.hub_story_text.specs.Fullest.{fullest}

-- the capacity with which the step makes a port, or opens it again
abbrev pub cap_words : Step → List ℕ
cap_words (Make cap) = codes " cap " ++ decimal cap
cap_words (Reopen p cap) = codes " cap " ++ decimal cap
cap_words other = []

-- how much was sent, received and left
abbrev pub counts_words : ℕ → ℕ → List ℕ
counts_words sent received =
    codes " sent " ++ decimal sent ++ codes " received " ++ decimal received ++ codes " left " ++ decimal (sent - received)

-- how much a port held at most, if anything, and after which step first
abbrev pub most_words : Fullest → List ℕ
most_words full = if full.most == 0 then [] else codes " most " ++ decimal full.most ++ codes " at step " ++ decimal (full.place + 1)

-- by whom, behind these words
abbrev pub by_words : List ℕ → Told → List ℕ
by_words words t = words ++ decimal t.event.pid.0 ++ codes " at step " ++ decimal (t.asked + 1)

-- so where there is such an event
abbrev pub turn_words : List ℕ → Option Told → List ℕ
turn_words words None = []
turn_words words (Some t) = by_words words t

-- the place of the step that opened the port last, which this event says was made
abbrev pub opened_at : Told → Option Told → ℕ
opened_at made None = made.asked
opened_at made (Some t) = t.asked

-- of the port that this event says was made
abbrev pub port_line : List Entry → List Told → Told → Port → List ℕ
port_line es all t p =
    codes "port " ++ decimal p.0
    ++ option_map_or (λ e. cap_words e.step) (slice_get es (opened_at t (turns_on es all p).reopened)) []
    ++ counts_words (sent_by es all p (length es)) (received_by es all p (length es)) ++ most_words (fullest es all p (length es))
    ++ by_words (codes " made by P") t ++ turn_words (codes " reopened by P") (turns_on es all p).reopened
    ++ turn_words (codes " closed by P") (turns_on es all p).closed ++ codes "\n"

-- nothing of any other event
abbrev pub made_line : List Entry → List Told → Told → What → List ℕ
made_line es all t (what.Made p) = port_line es all t p
made_line es all t other = []
