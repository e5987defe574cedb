-- What stories tell agrees with the values of a port, with its channel, with time, and with who waits.
use Rattle.std.specs.Prelude.{◌≡◌, ◌≤◌, ℕ, List, filter, length, map, take, Some}
use Rattle.std.specs.List.{AllByRecursion}
use Rattle.hub_base.specs.declared.value.Port.{Port}
use Rattle.hub_base.specs.Entry.{Entry}
use Rattle.hub_base.specs.declared.head.Head.{Head}
use Rattle.hub_base.specs.State.{Channel, channel_at}
use Rattle.hub_base.specs.Runs.{state, events}
use Rattle.hub_base.specs.Values.{sent_values, received_values}
use Rattle.hub_story.specs.declared.moved.Passage.{Passage}
use Rattle.hub_story.specs.Told.{told, ends_it}
use Rattle.hub_story.specs.Passing.{sends, receives, passages}
use Rattle.hub_story.specs.Waiting.{still_waiting, open_call}
use Rattle.hub_story.specs.Levels.{sent_by, received_by}

-- each event is told, once and in order
abbrev pub EventsLaw : Head → List Entry → Type 0
EventsLaw h es = map (λ t. t.event) (told h es) ≡ events h es

-- the values of the sends that are told are the values sent, in order; so with receives
pub record SendsLaw (h : Head) (es : List Entry) : Type 0 where
  pub sent : (p : Port) → map (λ m. m.value) (sends es (told h es) p) ≡ sent_values h es p
  pub received : (p : Port) → map (λ m. m.value) (receives es (told h es) p) ≡ received_values h es p

-- the value that is received is the one that was sent
abbrev pub IsPassage : Passage → Type 0
IsPassage m = m.sent.value ≡ m.received.value

-- every passage is one, and each value that was received has one
pub record PassagesLaw (h : Head) (es : List Entry) : Type 0 where
  pub each : (p : Port) → AllByRecursion IsPassage (passages es (told h es) p)
  pub all : (p : Port) → map (λ m. m.received) (passages es (told h es) p) ≡ receives es (told h es) p

-- a value is received by no earlier step than it was sent
abbrev pub IsInTime : Passage → Type 0
IsInTime m = m.sent.told.by ≤ m.received.told.by

-- of every port
abbrev pub InTimeLaw : Head → List Entry → Type 0
InTimeLaw h es = (p : Port) → AllByRecursion IsInTime (passages es (told h es) p)

-- each entry has one end at most
abbrev pub EndingLaw : Head → List Entry → Type 0
EndingLaw h es = (place : ℕ) → length (filter (ends_it place) (told h es)) ≤ 1

-- the calls that are told to wait in the end are those that wait
abbrev pub WaitingLaw : Head → List Entry → Type 0
WaitingLaw h es = map (open_call es) (still_waiting (told h es)) ≡ (state h es).parked

-- on a port that is made after the first k entries, so many values were sent and received as its
-- channel then tells
pub record LevelsLaw (h : Head) (es : List Entry) : Type 0 where
  pub sent : (k : ℕ) (p : Port) (c : Channel) → channel_at (state h (take k es)) p ≡ Some c
      → sent_by es (told h es) p k ≡ length c.sent
  pub received : (k : ℕ) (p : Port) (c : Channel) → channel_at (state h (take k es)) p ≡ Some c
      → received_by es (told h es) p k ≡ c.received
