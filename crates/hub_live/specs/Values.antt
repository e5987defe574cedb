-- What a call was told, where a caller gets no event.
use Rattle.std.specs.Prelude.{◌≡◌, ◌++◌, ◌∷◌, [], Option, Some}
use Rattle.std.specs.Option.{option_map}
use Rattle.hub_base.specs.Entry.{Step}
use Rattle.hub_base.specs.declared.event.What.{What}
use Rattle.hub_live.specs.Calls.{Refused, entry_of}
use Rattle.hub_live.specs.SeatView.{SeatView, own_of, reply_to}
use Rattle.hub_live.specs.declared.values.Ended.{Ended}
use Rattle.hub_live.specs.declared.values.Ended.TheVariants as ended

-- the last answer to the process, in what its seat has seen
abbrev pub last_answer : SeatView → Option What
last_answer s = option_map (λ x. x.what) (reply_to s)

-- the process made the step, and this is its last answer
pub record LastTold (s t : SeatView) (step : Step) (what : What) : Type 0 where
  pub own : own_of t ≡ own_of s ++ entry_of s step ∷ []
  pub told : last_answer t ≡ Some what

-- why the step was refused, or what else its process was told
abbrev pub EndedBy : SeatView → SeatView → Step → Ended → Type 0
EndedBy s t step (ended.Refused f) = Refused s t step f
EndedBy s t step (ended.Told told) = LastTold s t step told
