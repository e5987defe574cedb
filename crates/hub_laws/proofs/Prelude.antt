-- What the proofs cite of the standard library, of the meaning and of the laws, passed on from one place.
pub use Rattle.std.proofs.Common.{◌≡◌, Bool, true, false, List, [], ◌∷◌, ◌++◌, refl, ap, ◌∙◌, sym, subst, Option, Some, None, if◌then◌else◌, ℕ, ◌==◌, zero}
pub use Rattle.std.proofs.Common.{suc, drop, append-nil, append_assoc, add-one, ◌+◌, ◌≤◌, cond, not, length, arith, ◌&&◌, filter, ◌||◌, inl, inr, ◌-◌, ◌<◌}
pub use Rattle.std.proofs.Common.{map, eqb, nat_le, nat_lt, ◌%◌, ◌⊎◌, take, take-append-drop}
pub use Rattle.std.proofs.Math.Bool.{and-false, or-false, and-true}
pub use Rattle.std.proofs.Math.ListN.{length-set}
pub use Rattle.std.proofs.lemmas.Bool.{eqb-true, or_parts, or_left, or_right, or_from, or_cases, false_from_ne_true, eqb-false, leb-false, ltb-false}
pub use Rattle.std.proofs.lemmas.Bool.{lt-ltb}
pub use Rattle.std.proofs.lemmas.Bool.{and_parts, ltb-true, leb-true}
pub use Rattle.std.proofs.lemmas.Bool.Decides.{nat_tests}
pub use Rattle.std.proofs.lemmas.Grind.{common_steps}
pub use Rattle.std.proofs.Math.Seq.{drop-cons, take-suc}
pub use Rattle.std.proofs.lemmas.List.Folds.{list_any-append}
pub use Rattle.std.proofs.lemmas.List.{get_or-set_same, drop_all, nil_from_length, length-map, length-append, map-append, length-drop, take-append-le}
pub use Rattle.std.proofs.lemmas.List.Elements.{filter_map-append, filter-append}
pub use Rattle.std.proofs.lemmas.Map.Steps.{length-le_from_distinct_below}
pub use Rattle.std.proofs.lemmas.Option.{slice_get_past, slice_get_cases, get_or_from_slice_get, slice_get_within, slice_get-get_or}
pub use Rattle.std.specs.List.{list_any, AllByRecursion, filter_map, cons_option, enumerate_from}
pub use Rattle.std.specs.Option.{option_map, option_map_or}
pub use Rattle.std.specs.Prelude.{slice_get, is_some, slice_set, get_or}
pub use Rattle.hub_base.proofs.Lists.{all_snoc, all_append, all_more}
pub use Rattle.hub_base.specs.declared.case.Case.{Case}
pub use Rattle.hub_base.specs.declared.case.Case.TheVariants.{Send, Recv}
pub use Rattle.hub_base.specs.Entry.{Entry, Step}
pub use Rattle.hub_base.specs.declared.entry.Step.TheVariants.{Close, Exit, Make, Call, Cancel, Start, Reopen}
pub use Rattle.hub_base.specs.declared.event.Event.{Event}
pub use Rattle.hub_base.specs.declared.event.Outcome.{Outcome}
pub use Rattle.hub_base.specs.declared.event.Outcome.TheVariants.{Sent, Closed, Got, Drained}
pub use Rattle.hub_base.specs.declared.event.What.{What}
pub use Rattle.hub_base.specs.declared.fault.Fault.{Fault}
pub use Rattle.hub_base.specs.declared.head.Head.{Head}
pub use Rattle.hub_base.specs.declared.head.Edition.{Edition}
pub use Rattle.hub_base.specs.declared.limits.TheConstants.{MOST_PORTS, MOST_CAP}
pub use Rattle.hub_base.specs.declared.value.Pid.{Pid}
pub use Rattle.hub_base.specs.declared.value.Port.{Port}
pub use Rattle.hub_base.specs.declared.value.Value.{Value}
pub use Rattle.hub_base.specs.Reading.{is_exit}
pub use Rattle.hub_base.specs.Ready.{can_proceed, port_of, is_recv_on, first_with, is_send_on, Placed, Ending, or_else, lowest, lowest_from, is_on}
pub use Rattle.hub_base.specs.Ready.{without}
pub use Rattle.hub_base.specs.Ready.{ready, send_can, recv_can}
pub use Rattle.hub_base.specs.Runs.{admits, moves, state_after, state, kept_after, keeps, kept, events_after, events}
pub use Rattle.hub_base.specs.State.{State, Channel, OpenCall, channel_at, opening, buffer_of}
pub use Rattle.hub_base.specs.Steps.{calls, Change, tells, after_receive, shut, stalls, closes, close_fault, is_unmade, fault_of, answers, refusal, turn}
pub use Rattle.hub_base.specs.Steps.{Firing, after_send, send_meets, send_fires, all_wait, fired, closing_event, closing_outcome, next_value, effect}
pub use Rattle.hub_base.specs.Steps.{has_gone, is_waiting, cancels, fires, proceeds, chooses, outcome_of, with_sent, recv_takes, recv_meets}
pub use Rattle.hub_base.specs.Steps.{starts, reopens, reopened, reopen_fault}
pub use Rattle.hub_base.specs.Head.{AreOf, has_lives, is_of}
pub use Rattle.hub_base.specs.Text.{one_step, steps_of}
pub use Rattle.hub_base.specs.Values.{cases_or, of_what, Turned, turns_after, values_from, got_on, received_values, sent_on, is_fault, refused, latest}
pub use Rattle.hub_base.specs.Values.{last_call, sent_values}
pub use Rattle.hub_laws.specs.AfterClose.{close_by, sent_at, heard, Drains, answers_done, StaysClosed, opens_again}
pub use Rattle.hub_laws.specs.Answers.{is_answer_to, IsAnswered, AnswersLaw, PassedOverLaw, ends_waiting}
pub use Rattle.hub_laws.specs.Counts.{CountsLaw}
pub use Rattle.hub_laws.specs.Faults.{is_busy, is_fault_of, refuses_entry}
pub use Rattle.hub_laws.specs.Journals.{JournalLaw, Grows, Begins}
pub use Rattle.hub_laws.specs.Limits.{exits_of, LimitsLaw, is_start_of, starts_of, is_start, all_starts}
pub use Rattle.hub_laws.specs.Once.{counts, endings, is_call, is_refusal, was_admitted, ends_call, endings_until, EndsOnce, AtMostOnce}
pub use Rattle.hub_laws.specs.OnePort.{port_touched_by, found_closed, shown, port_touched, is_port, IsMade, Shown, port_changed, OnePortLaw}
pub use Rattle.hub_laws.specs.OnePort.{opened_by, opened}
pub use Rattle.hub_laws.specs.Received.{value_of_outcome, value_got, got_in, got_at, received_from, received_on, ReceivedLaw}
pub use Rattle.hub_laws.specs.Replies.{is_parked, last_from, reply, told_to, is_told, IsReply, IsLeft, AreReplied, RepliedLaw, own, RepliesLaw}
pub use Rattle.hub_laws.specs.Sound.{Apart, IsSound, PortSound, is_among, some_call, Alone, CallFits}
pub use Rattle.hub_laws.specs.States.{PortLaws, StateLaws}
