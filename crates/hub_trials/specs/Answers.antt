-- What a process is answered among some events: all that it is told but `Parked`, in order.
use Rattle.std.specs.Prelude.{Bool, List, filter}
use Rattle.std.proofs.Common.{◌==◌, ◌&&◌, not}
use Rattle.hub_base.specs.declared.value.Pid.{Pid}
use Rattle.hub_base.specs.declared.event.Event.{Event}
use Rattle.hub_laws.specs.Replies.{is_parked}

-- the event answers a step of the process
abbrev pub is_answer_to : Pid → Event → Bool
is_answer_to pid e = (e.pid.0 == pid.0) && not (is_parked e.what)

abbrev pub answers_to : Pid → List Event → List Event
answers_to pid events = filter (is_answer_to pid) events
