use Rattle.std.proofs.Common.{sym, ◌∙◌, ap, arith, ◌∷◌}
use Rattle.hub_base.specs.Lines.{read_choice}
use Rattle.hub_text.proofs.Gathered.{so_far, goes-ok, goes-late, goes-err, goes-many}
use Rattle.hub_text.proofs.selects.read_select.Goals as goal

pub returns-then-count-eq-CASE_PLACES : goal.returns-then-count-eq-CASE_PLACES
returns-then-count-eq-CASE_PLACES c =
    ap (read_choice c.args.line.edition c.args.line.pid.now) c.in_ok-word.ensures
    ∙ goes-many c.args.line.edition c.args.line.pid.now c.in_ok-word.word.now c.in-Some.field.now c.loop-field.fields c.next_field.new.self
    c.loop-field.count
    (so_far c.loop-field.fine c.loop-field.cases.items)
    (read_choice c.args.line.edition c.args.line.pid.now (c.in_ok-word.word.now ∷ c.expect_field.new.self)) c.in_ok-case.case c.loop-field.invariant.same
    c.in-Some.ensures
    (sym c.is_last_default.ensures ∙ c.if-is_last_default.false) (sym c.in_ok-case.was ∙ c.read_case.ensures) c.if-count-eq-CASE_PLACES.true

pub loop-field-preserved-then-fine : goal.loop-field-preserved-then-fine
loop-field-preserved-then-fine c = record {
  same = goes-ok c.args.line.edition c.args.line.pid.now c.in_ok-word.word.now c.in-Some.field.now c.loop-field.fields c.next_field.new.self
      c.loop-field.count c.loop-field.fine c.loop-field.cases.items c.push.new.self.items (read_choice c.args.line.edition c.args.line.pid.now
      (c.in_ok-word.word.now ∷ c.expect_field.new.self)) c.in_ok-case.case c.in-Ok.case c.loop-field.invariant.same c.in-Some.ensures
      (sym c.is_last_default.ensures ∙ c.if-is_last_default.false) (sym c.in_ok-case.was ∙ c.read_case.ensures) c.in-Ok.is c.push.ensures.items;
  room = omega arith;
  few = omega arith;
}

pub loop-field-preserved-else-fine : goal.loop-field-preserved-else-fine
loop-field-preserved-else-fine c = record {
  same = goes-late c.args.line.edition c.args.line.pid.now c.in_ok-word.word.now c.in-Some.field.now c.loop-field.fields c.next_field.new.self
      c.loop-field.count c.loop-field.fine c.loop-field.cases.items (read_choice c.args.line.edition c.args.line.pid.now
      (c.in_ok-word.word.now ∷ c.expect_field.new.self)) c.in_ok-case.case c.in-Ok.case c.loop-field.invariant.same c.in-Some.ensures
      (sym c.is_last_default.ensures ∙ c.if-is_last_default.false) (sym c.in_ok-case.was ∙ c.read_case.ensures) c.in-Ok.is c.if-fine.false;
  room = omega arith;
  few = omega arith;
}

pub loop-field-preserved : goal.loop-field-preserved
loop-field-preserved c = record {
  same = goes-err c.args.line.edition c.args.line.pid.now c.in_ok-word.word.now c.in-Some.field.now c.loop-field.fields c.next_field.new.self
      c.loop-field.count c.loop-field.fine c.loop-field.cases.items (read_choice c.args.line.edition c.args.line.pid.now
      (c.in_ok-word.word.now ∷ c.expect_field.new.self)) c.in_ok-case.case c.in-Err._number c.loop-field.invariant.same c.in-Some.ensures
      (sym c.is_last_default.ensures ∙ c.if-is_last_default.false) (sym c.in_ok-case.was ∙ c.read_case.ensures) c.in-Err.is;
  room = omega arith;
  few = omega arith;
}
