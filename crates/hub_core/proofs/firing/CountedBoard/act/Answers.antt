use Rattle.std.proofs.Common.{◌≡◌, ◌∙◌, ap, arith, length, refl, subst, sym}
use Rattle.std.proofs.lemmas.Result.{on_err_weaker}
use Rattle.arrayvec.specs.ArrayVec.{ArrayVec}
use Rattle.hub_base.specs.declared.case.Case.{Case}
use Rattle.hub_base.specs.declared.entry.Step.TheVariants.{Make, Close, Cancel, Start, Reopen}
use Rattle.hub_parts.specs.Keeps.{AllMade}
use Rattle.hub_core.specs.ListSteps.{call_fault_on}
use Rattle.hub_core.specs.Records.{machine_of}
use Rattle.std.proofs.Common.{List, Bool, [], ◌∷◌}
use Rattle.hub_base.specs.declared.event.Event.{Event}
use Rattle.hub_core.proofs.Hearing.{heard_as}
use Rattle.hub_core.proofs.Effects.{gone-within}
use Rattle.hub_core.proofs.Acting.{both_ok, fine_cancel, fine_close, fine_make, fine_reopen, fine_start, is_told, machine_as, makes_or_not, takes_effect}
use Rattle.hub_core.proofs.Counting.{count-exit, count-le-procs, count-start}
use Rattle.hub_core.proofs.Reached.{call_named, calls_apart, gone_here, ports_keep, room_left}
use Rattle.hub_core.proofs.firing.CountedBoard.act.Goals as goal

pub make-requires-clause-few : goal.make-requires-clause-few
make-requires-clause-few g c =
    fine_make c.args.edition c.args.self.now.board c.args.exited.now.gone c.in-Make.cap
    (sym (c.make_fault.ensures c.args.edition c.args.exited.now.gone) ∙ c.in-None.is)

pub make-requires-clause-counts : goal.make-requires-clause-counts
make-requires-clause-counts g c = (ports_keep _ c.requires.may.reached c.requires.may.steps).count

pub returns-in-None-clause-acts : goal.returns-in-None-clause-acts
returns-in-None-clause-acts g c =
    let gone = c.args.exited.now.gone in
    rw c.in-Make.is (makes_or_not (Make c.in-Make.cap) c.make.result tt
    (sym (c.make_fault.ensures c.args.edition c.args.exited.now.gone) ∙ c.in-None.is)
    (both_ok c.make.result (machine_as c.args.edition gone c.args.ticket) c.make.ensures.board c.make.ensures.counts)
    c.make.ensures.told
    (on_err_weaker c.make.result (λ same. ap (λ b. machine_of c.args.edition b.board b.tallies gone c.args.ticket) same) c.make.ensures.unchanged)
    c.make.ensures.silent)

pub returns-in-Some-clause-acts : goal.returns-in-Some-clause-acts
returns-in-Some-clause-acts g c =
    is_told c.in-Make.is (c.make_fault.ensures c.args.edition c.args.exited.now.gone) c.in-Some.is c.tell_fault.ensures

pub call-requires-clause-named : goal.call-requires-clause-named
call-requires-clause-named g c =
    let items : c.few-cases.result.items ≡ c.in-Call.cases.items =
    ap (λ (cases : ArrayVec Case). cases.items) c.few-cases.ensures ∙ c.as_slice.ensures.cases in
    subst (AllMade (length c.args.self.now.board.ports)) (sym items)
    (call_named c.args.edition c.args.self.now.board c.in-Call.cases.items
    (sym (c.call_fault.ensures ∙ ap (call_fault_on c.args.edition c.args.self.now.board) (c.as_slice-in-Call.ensures.cases ∙ items))
    ∙ c.in-None-call_fault.is))

pub call-requires-clause-keep : goal.call-requires-clause-keep
call-requires-clause-keep g c = ports_keep _ c.requires.may.reached c.requires.may.steps

pub close-requires-clause-made : goal.close-requires-clause-made
close-requires-clause-made g c =
    fine_close c.args.edition c.args.self.now.board c.args.exited.now.gone c.in-Close.port
    (sym (c.close_fault.ensures c.args.edition c.args.exited.now.gone) ∙ c.in-None-close_fault.is)

pub close-requires-clause-apart : goal.close-requires-clause-apart
close-requires-clause-apart g c = calls_apart _ c.requires.may.reached

pub close-requires-clause-room : goal.close-requires-clause-room
close-requires-clause-room g c =
    omega (arith, room_left _ c.args.entry.now.pid c.requires.may.reached c.requires.may.admitted c.requires.few, c.requires.room)

pub returns-in-None-close_fault-clause-acts : goal.returns-in-None-close_fault-clause-acts
returns-in-None-close_fault-clause-acts g c =
    rw c.in-Close.is (takes_effect (Close c.in-Close.port)
    (sym (c.close_fault.ensures c.args.edition c.args.exited.now.gone) ∙ c.in-None-close_fault.is)
    (machine_as c.args.edition c.args.exited.now.gone c.args.ticket c.close.ensures.board refl) c.close.ensures.told)

pub returns-in-Some-close_fault-clause-acts : goal.returns-in-Some-close_fault-clause-acts
returns-in-Some-close_fault-clause-acts g c =
    is_told c.in-Close.is (c.close_fault.ensures c.args.edition c.args.exited.now.gone) c.in-Some-close_fault.is c.tell_fault-in-Some-close_fault.ensures

pub add-requires-clause-few : goal.add-requires-clause-few
add-requires-clause-few g c = omega (arith, c.requires.count, c.requires.few, count-le-procs c.args.exited.now.gone c.args.self.now.board.procs)

pub returns-in-Exit-clause-count : goal.returns-in-Exit-clause-count
returns-in-Exit-clause-count g c =
    rw (c.add.ensures.gone, c.add.ensures.count)
    (count-exit c.args.self.now.board c.args.exited.now.gone c.args.entry.now.pid c.args.exited.now.count c.args.self.now.board.procs refl c.requires.count
    (omega (arith, c.requires.few)) c.requires.may.admitted)

pub cancel-requires-clause-open : goal.cancel-requires-clause-open
cancel-requires-clause-open g c =
    fine_cancel c.args.edition c.args.self.now.board c.args.exited.now.gone c.in-Cancel.other
    (sym (c.cancel_fault.ensures c.args.edition c.args.exited.now.gone) ∙ c.in-None-cancel_fault.is)

pub returns-in-None-cancel_fault-clause-acts : goal.returns-in-None-cancel_fault-clause-acts
returns-in-None-cancel_fault-clause-acts g c =
    rw c.in-Cancel.is (takes_effect (Cancel c.in-Cancel.other)
    (sym (c.cancel_fault.ensures c.args.edition c.args.exited.now.gone) ∙ c.in-None-cancel_fault.is)
    (machine_as c.args.edition c.args.exited.now.gone c.args.ticket c.cancel.ensures.board c.cancel.ensures.counts) c.cancel.ensures.told)

pub returns-in-Some-cancel_fault-clause-acts : goal.returns-in-Some-cancel_fault-clause-acts
returns-in-Some-cancel_fault-clause-acts g c =
    is_told c.in-Cancel.is (c.cancel_fault.ensures c.args.edition c.args.exited.now.gone) c.in-Some-cancel_fault.is c.tell_fault-in-Some-cancel_fault.ensures

pub remove-requires : goal.remove-requires
remove-requires g c =
    let some = fine_start c.args.edition c.args.self.now.board c.args.exited.now.gone c.in-Start.other
    (sym (c.start_fault.ensures c.args.edition c.args.self.now.board) ∙ c.in-None-start_fault.is) in
    let below = gone_here _ c.in-Start.other.0 c.requires.may.reached some in
    record {
      below = omega (arith, gone-within c.args.exited.now.gone c.in-Start.other.0 some);
      some = omega (
        arith,
        count-start c.args.exited.now.gone c.in-Start.other.0 c.args.exited.now.count c.args.self.now.board.procs c.requires.count some below,
      );
    }

pub returns-in-None-start_fault-clause-count : goal.returns-in-None-start_fault-clause-count
returns-in-None-start_fault-clause-count g c =
    let some = fine_start c.args.edition c.args.self.now.board c.args.exited.now.gone c.in-Start.other
    (sym (c.start_fault.ensures c.args.edition c.args.self.now.board) ∙ c.in-None-start_fault.is) in
    let below = gone_here _ c.in-Start.other.0 c.requires.may.reached some in
    rw c.remove.ensures.gone
    (omega (
      arith,
      c.remove.ensures.count,
      count-start c.args.exited.now.gone c.in-Start.other.0 c.args.exited.now.count c.args.self.now.board.procs c.requires.count some below,
    ))

pub returns-in-None-start_fault-clause-acts : goal.returns-in-None-start_fault-clause-acts
returns-in-None-start_fault-clause-acts g c =
    rw c.in-Start.is (takes_effect (Start c.in-Start.other)
    (sym (c.start_fault.ensures c.args.edition c.args.self.now.board) ∙ c.in-None-start_fault.is)
    (ap (λ (gone : List Bool). machine_of c.args.edition c.args.self.now.board c.args.self.now.tallies gone c.args.ticket) c.remove.ensures.gone)
    (heard_as (record { events = c.hear-in-None-start_fault.ensures.heard; fits = c.hear-in-None-start_fault.ensures.room })
    (ap (λ (e : Event). e ∷ []) c.tells-in-None-start_fault.ensures)))

pub returns-in-Some-start_fault-clause-acts : goal.returns-in-Some-start_fault-clause-acts
returns-in-Some-start_fault-clause-acts g c =
    is_told c.in-Start.is (c.start_fault.ensures c.args.edition c.args.self.now.board) c.in-Some-start_fault.is c.tell_fault-in-Some-start_fault.ensures

pub reopen-requires-clause-made : goal.reopen-requires-clause-made
reopen-requires-clause-made g c =
    fine_reopen c.args.edition c.args.self.now.board c.args.exited.now.gone c.in-Reopen.port c.in-Reopen.cap
    (sym (c.reopen_fault.ensures c.args.edition c.args.exited.now.gone) ∙ c.in-None-reopen_fault.is)

pub returns-in-None-reopen_fault-clause-acts : goal.returns-in-None-reopen_fault-clause-acts
returns-in-None-reopen_fault-clause-acts g c =
    let gone = c.args.exited.now.gone in
    rw c.in-Reopen.is (makes_or_not (Reopen c.in-Reopen.port c.in-Reopen.cap) c.reopen.result tt
    (sym (c.reopen_fault.ensures c.args.edition c.args.exited.now.gone) ∙ c.in-None-reopen_fault.is)
    (both_ok c.reopen.result (machine_as c.args.edition gone c.args.ticket) c.reopen.ensures.board c.reopen.ensures.counts)
    c.reopen.ensures.told
    (on_err_weaker c.reopen.result (λ same. ap (λ b. machine_of c.args.edition b.board b.tallies gone c.args.ticket) same) c.reopen.ensures.unchanged)
    c.reopen.ensures.silent)

pub returns-in-Some-reopen_fault-clause-acts : goal.returns-in-Some-reopen_fault-clause-acts
returns-in-Some-reopen_fault-clause-acts g c =
    is_told c.in-Reopen.is (c.reopen_fault.ensures c.args.edition c.args.exited.now.gone) c.in-Some-reopen_fault.is c.tell_fault-in-Some-reopen_fault.ensures
