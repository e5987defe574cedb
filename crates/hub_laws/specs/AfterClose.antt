-- After a close, and until the port is opened again, no case on it is sent, and its receivers drain the buffer, then
-- learn of the close: from entries and events alone, but for the buffer that the close left.
-- Go: "Close", "Receive operator".
use Rattle.std.specs.Prelude.{◌≡◌, ◌==◌, Bool, true, false, List, [], ◌∷◌, ◌++◌, Option, Some, None, if◌then◌else◌}
use Rattle.std.specs.List.{list_any}
use Rattle.hub_base.specs.declared.value.Port.{Port}
use Rattle.hub_base.specs.declared.value.Pid.{Pid}
use Rattle.hub_base.specs.declared.value.Value.{Value}
use Rattle.hub_base.specs.declared.case.Case.{Case}
use Rattle.hub_base.specs.declared.case.Case.TheVariants.{Recv}
use Rattle.hub_base.specs.declared.entry.Step.TheVariants.{Close}
use Rattle.hub_base.specs.Entry.{Entry}
use Rattle.hub_base.specs.declared.head.Head.{Head}
use Rattle.hub_base.specs.declared.event.Event.{Event}
use Rattle.hub_base.specs.declared.event.Outcome.{Outcome}
use Rattle.hub_base.specs.declared.event.Outcome.TheVariants.{Sent, Got, Drained}
use Rattle.hub_base.specs.declared.event.What.{What}
use Rattle.hub_base.specs.declared.event.What.TheVariants as what
use Rattle.hub_base.specs.State.{Channel, channel_at, opening, buffer_of}
use Rattle.hub_base.specs.Ready.{port_of}
use Rattle.hub_base.specs.Runs.{state, moves}
use Rattle.hub_base.specs.Head.{AreOf, has_lives}
use Rattle.hub_base.specs.Values.{Turned, turns_after, values_from}
use Rattle.hub_laws.specs.OnePort.{is_port, opened}

-- the cases on p that were answered `Sent`
abbrev pub sent_at : Port → Option Case → Outcome → Option Case
sent_at p (Some k) Sent = if (port_of k).0 == p.0 then Some k else None
sent_at p k outcome = None

-- the outcomes of receives on p
abbrev pub heard : Port → Option Case → Outcome → Option Outcome
heard p (Some (Recv q)) outcome = if q.0 == p.0 then Some outcome else None
heard p k outcome = None

-- receives that get these values, in order, and from then on `Drained`
abbrev pub Drains : List Value → List Outcome → Type 0
Drains vs [] = Unit
Drains [] (o ∷ os) = (o ≡ Drained) × Drains [] os
Drains (v ∷ vs) (o ∷ os) = (o ≡ Got v) × Drains vs os

-- whether the answer was `Done`
abbrev pub is_done : What → Bool
is_done what.Done = true
is_done w = false

abbrev pub answers_done : List Event → Bool
answers_done [] = false
answers_done (e ∷ es) = is_done e.what

-- what a reading tells of the entries `fs` that follow the entries `es`
abbrev pub told_later :
    {A : Type 0} → (Option Case → Outcome → Option A) → Head → List Entry → List Entry → List A
told_later pick h es fs =
    values_from pick (turns_after (opening h) es) (turns_after (state h es) fs)

-- of a port that the last of the entries `es` closed: the channel that this left, and what the
-- entries `fs` tell
pub record StaysClosed (h : Head) (es fs : List Entry) (p : Port) : Type 0 where
  pub left : Channel
  pub made : channel_at (state h es) p ≡ Some left
  pub closed : left.closed ≡ true
  pub sent : told_later (sent_at p) h es fs ≡ []
  pub heard : Drains (buffer_of left) (told_later (heard p) h es fs)

-- one of these turns opens the port again
abbrev pub opens_again : Port → List Turned → Bool
opens_again p ts = list_any (λ t. is_port (opened t.entry.step t.events) p) ts

abbrev pub close_by : Pid → Port → Entry
close_by pid p = record { pid = pid; step = Close p }

-- after a close that was answered `Done`, whatever entries follow that do not open the port again
abbrev pub AfterCloseLaw : Head → List Entry → Pid → Port → List Entry → Type 0
AfterCloseLaw h es pid p fs =
    answers_done (moves (state h es) (close_by pid p)).events ≡ true →
    opens_again p (turns_after (state h (es ++ close_by pid p ∷ [])) fs) ≡ false →
    StaysClosed h (es ++ close_by pid p ∷ []) fs p

-- in an edition without reopens no port is opened again
abbrev pub NeverOpensLaw : Head → List Entry → Port → List Entry → Type 0
NeverOpensLaw h es p fs =
    has_lives h.edition ≡ false → AreOf h.edition fs → opens_again p (turns_after (state h es) fs) ≡ false
