use Rattle.std.proofs.Common.{[], ◌∷◌, false, sym, ap, ◌∙◌}
use Rattle.hub_base.specs.declared.value.Port.{Port}
use Rattle.hub_base.specs.declared.case.Case.TheVariants as case
use Rattle.hub_base.specs.declared.entry.Step.TheVariants as step
use Rattle.hub_base.specs.Lines.{call}
use Rattle.hub_scenario.specs.declared.script.ScriptStep.{ScriptStep}
use Rattle.hub_runner.specs.Scripts.{asks}
use Rattle.hub_runner.proofs.Workers.{made_ok, recv_asks, refused_as}
use Rattle.hub_runner.proofs.worker.ask.Goals as goal

pub returns-in-Send-clause-ok : goal.returns-in-Send-clause-ok
returns-in-Send-clause-ok g c =
    made_ok c.args.seat.now c.send.new.self (call (case.Send c.sender.result c.in-Send.value ∷ []) false 0)
    (asks c.args.turn.step.now c.args.turn.word) c.send.result
    (ap (λ (p : Port). call (case.Send p c.in-Send.value ∷ []) false 0) (c.sender.ensures ∙ c.of.ensures)
    ∙ ap (λ (s : ScriptStep). asks s c.args.turn.word) (sym c.in-Send.is))
    c.pid-pid.ensures.idle.free c.send.ensures.later c.send.ensures.ok

pub returns-in-Select-clause-ok : goal.returns-in-Select-clause-ok
returns-in-Select-clause-ok g c =
    made_ok c.args.seat.now c.call.new.self (step.Call c.copy_cases.result c.in-Select.default c.args.turn.word)
    (asks c.args.turn.step.now c.args.turn.word) c.call.result
    ((λ i. step.Call (c.copy_cases.ensures i) c.in-Select.default c.args.turn.word) ∙ ap (λ (s : ScriptStep). asks s c.args.turn.word) (sym c.in-Select.is))
    c.pid-pid.ensures.idle.free c.call.ensures.later c.call.ensures.ok

pub returns-in-Close-clause-ok : goal.returns-in-Close-clause-ok
returns-in-Close-clause-ok g c =
    made_ok c.args.seat.now c.close.new.self (step.Close c.sender-in-Close.result) (asks c.args.turn.step.now c.args.turn.word) c.close.result
    (ap step.Close (c.sender-in-Close.ensures ∙ c.of-in-Close.ensures) ∙ ap (λ (s : ScriptStep). asks s c.args.turn.word) (sym c.in-Close.is))
    c.pid-pid.ensures.idle.free c.close.ensures.later c.close.ensures.ok

pub returns-in-Recv-clause-ok : goal.returns-in-Recv-clause-ok
returns-in-Recv-clause-ok g c =
    made_ok c.args.seat.now c.recv.new.self (call (case.Recv c.receiver.result ∷ []) false 0) (asks c.args.turn.step.now c.args.turn.word) c.recv.result
    (ap (λ (p : Port). call (case.Recv p ∷ []) false 0) (c.receiver.ensures ∙ c.of-in-Recv.ensures)
    ∙ recv_asks c.args.turn.step.now c.in-Recv.port c.args.turn.word c.in-Recv.is)
    c.pid-pid.ensures.idle.free c.recv.ensures.later c.recv.ensures.ok

pub returns-in-Send-clause-err : goal.returns-in-Send-clause-err
returns-in-Send-clause-err g c =
    refused_as c.args.seat.now c.send.new.self _ _ c.send.result
    (ap (λ (p : Port). call (case.Send p c.in-Send.value ∷ []) false 0) (c.sender.ensures ∙ c.of.ensures)
    ∙ ap (λ (s : ScriptStep). asks s c.args.turn.word) (sym c.in-Send.is)) c.send.ensures.err

pub returns-in-Select-clause-err : goal.returns-in-Select-clause-err
returns-in-Select-clause-err g c =
    refused_as c.args.seat.now c.call.new.self _ _ c.call.result
    ((λ i. step.Call (c.copy_cases.ensures i) c.in-Select.default c.args.turn.word) ∙ ap (λ (s : ScriptStep). asks s c.args.turn.word) (sym c.in-Select.is))
    c.call.ensures.err

pub returns-in-Close-clause-err : goal.returns-in-Close-clause-err
returns-in-Close-clause-err g c =
    refused_as c.args.seat.now c.close.new.self _ _ c.close.result
    (ap step.Close (c.sender-in-Close.ensures ∙ c.of-in-Close.ensures) ∙ ap (λ (s : ScriptStep). asks s c.args.turn.word) (sym c.in-Close.is))
    c.close.ensures.err

pub returns-in-Recv-clause-err : goal.returns-in-Recv-clause-err
returns-in-Recv-clause-err g c =
    refused_as c.args.seat.now c.recv.new.self _ _ c.recv.result
    (ap (λ (p : Port). call (case.Recv p ∷ []) false 0) (c.receiver.ensures ∙ c.of-in-Recv.ensures)
    ∙ recv_asks c.args.turn.step.now c.in-Recv.port c.args.turn.word c.in-Recv.is)
    c.recv.ensures.err
