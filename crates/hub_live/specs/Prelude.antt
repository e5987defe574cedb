-- The words of this crate and of those below that its clauses and proofs cite, passed on from one place.
pub use mathlib.Core.Option.{none, some}
pub use mathlib.Core.List.{IsPrefix}
pub use lib.ListN.{get_elem?}
pub use Rattle.atomic_table.specs.Table.{Allows, Me, step}
pub use Rattle.atomic_table.specs.declared.shared.Seat.{Seat}
pub use Rattle.hub_base.specs.State.{Channel}
pub use Rattle.hub_base.specs.declared.value.Pid.{Pid}
pub use Rattle.hub_base.specs.declared.value.Port.{Port}
pub use Rattle.hub_base.specs.declared.fault.Fault.{Fault}
pub use Rattle.hub_base.specs.declared.event.Event.{Event}
pub use Rattle.hub_base.specs.declared.limits.TheConstants.{MOST_PORTS}
pub use Rattle.hub_base.specs.Steps.{is_waiting, refusal, tells}
pub use Rattle.hub_base.specs.Runs.{moves, state}
pub use Rattle.hub_base.specs.Reading.{is_exit}
pub use Rattle.hub_base.specs.Text.{steps_of}
pub use Rattle.hub_base.specs.declared.head.Head.{Head}
pub use Rattle.hub_base.specs.Entry.{Entry, Step}
pub use Rattle.hub_base.specs.declared.entry.Step.TheVariants.{Call, Close, Exit, Make, Cancel, Start, Reopen}
pub use Rattle.hub_base.specs.Head.{is_of, has_cancel, has_lives, has_case, has_value, AreOf}
pub use Rattle.hub_base.specs.declared.head.Edition.TheVariants.{Two}
pub use Rattle.hub_base.specs.Journal.{JournalView}
pub use Rattle.hub_base.specs.declared.case.Case.TheVariants.{Send, Recv}
pub use Rattle.hub_base.specs.Lines.{call}
pub use Rattle.hub_laws.specs.Replies.{is_parked, last_from, own, reply}
pub use Rattle.hub_laws.specs.Journals.{IsLegal}
pub use Rattle.hub_laws.specs.OnePort.{changed, number_of, port_changed, port_changed_by}
pub use Rattle.hub_core.specs.Looks.{counts_of}
pub use Rattle.hub_core.specs.declared.terms.Terms.{Terms}
pub use Rattle.hub_core.specs.HubView.{HubView, Refuses, Steps, state_of}
pub use Rattle.hub_live.specs.declared.rule.View.{View}
pub use Rattle.hub_live.specs.Mark.{IsOther, MarksOne, mark, mark_at, mark_of, port_numbered, read_back, counts_at}
pub use Rattle.hub_live.specs.Rule.{Fits, Holds, IsHistory, Kept, Knows, blank, next_word}
pub use Rattle.hub_live.specs.Moves.{Met, Published, Sees, SeesBoth, given_back, grown, parted, with_joined}
pub use Rattle.hub_live.specs.Locked.{IsReplyTo, LockedView, Serves, ServesStep, pids_of, answer_for, without_answer}
pub use Rattle.hub_live.specs.Name.{Name, name_of}
pub use Rattle.hub_live.specs.Named.{IsSingle, IsToken}
pub use Rattle.hub_live.specs.SeatView.{IsFree, IsIdle, SeatView, own_of, state_seen}
pub use Rattle.hub_live.specs.Seated.{IsAlone, IsHub, seat_of, IsDesk}
pub use Rattle.hub_live.specs.Calls.{AreSeats, Later, MadeEntry, Shows, StandsIn, Made, Refused, RefusedEntry, Answers, AnswersNoCall}
pub use Rattle.hub_live.specs.Calls.{AskedNothing, HasEnded, Tells, Told, ServesSeat, EndsIn, entry_of}
