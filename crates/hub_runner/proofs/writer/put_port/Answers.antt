use Rattle.std.proofs.Common.{rules}
use Rattle.hub_runner.proofs.Appended.{after}
use Rattle.hub_runner.proofs.writer.put_port.Goals as goal

pub returns-in_err-put_field-4-clause-err : goal.returns-in_err-put_field-4-clause-err
returns-in_err-put_field-4-clause-err c =
    let said = after c.args.out.now.items _ c.put_field-4.new.out.items _ c.in_ok-put_field.ensures.ok
    (after _ _ _ _ c.in_ok-put_field-2.ensures.ok (after _ _ _ _ c.in_ok-put_field-3.ensures.ok c.in_err-put_field-4.ensures.err)) in
    search (rules, said)

pub returns-in_err-put_field-5-clause-err : goal.returns-in_err-put_field-5-clause-err
returns-in_err-put_field-5-clause-err c =
    let said = after c.args.out.now.items _ c.put_field-5.new.out.items _ c.in_ok-put_field.ensures.ok (after _ _ _ _ c.in_ok-put_field-2.ensures.ok
    (after _ _ _ _ c.in_ok-put_field-3.ensures.ok (after _ _ _ _ c.in_ok-put_field-4.ensures.ok c.in_err-put_field-5.ensures.err))) in
    search (rules, said)

pub returns-in_err-put_field-6-clause-err : goal.returns-in_err-put_field-6-clause-err
returns-in_err-put_field-6-clause-err c =
    let said = after c.args.out.now.items _ c.put_field-6.new.out.items _ c.in_ok-put_field.ensures.ok
    (after _ _ _ _ c.in_ok-put_field-2.ensures.ok (after _ _ _ _ c.in_ok-put_field-3.ensures.ok
    (after _ _ _ _ c.in_ok-put_field-4.ensures.ok (after _ _ _ _ c.in_ok-put_field-5.ensures.ok c.in_err-put_field-6.ensures.err)))) in
    search (rules, said)
