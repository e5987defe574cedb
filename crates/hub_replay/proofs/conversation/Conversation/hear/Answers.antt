use Rattle.std.proofs.Common.{subst, Option, arith, ◌++◌}
use Rattle.hub_base.specs.declared.read_fault.TextFault.{TextFault}
use Rattle.hub_replay.specs.Stands.{Ends}
use Rattle.hub_replay.proofs.Hearing.{is-line, line-answered, line-faulty, piece-heard, piece-long}
use Rattle.hub_replay.proofs.conversation.Conversation.hear.Goals as goal

pub returns-in-Some-2 : goal.returns-in-Some-2
returns-in-Some-2 c = λ lines rest said stands none.
    let going = c.lines.invariant lines rest said stands none in
    let cut = c.in-Some.ensures in
    let line = going.rest_now ++ c.in-Some.line.now in
    let came = c.in_ok-add.ensures.ok going.lines_now going.rest_now (said ++ going.more) going.stands in
    let ends = subst (λ (o : Option TextFault). Ends going.lines_now line (said ++ going.more) c.lines.answers.lines
    c.end_line.new.answers.lines c.end_line.new.self o) c.in-Some-2.is
    (c.in_ok-fault.ensures going.lines_now line (said ++ going.more) (going.rest_now ++ cut.body) came (is-line going cut)) in
    line-faulty going cut c.in-Some-2.fault ends

pub lines-preserved : goal.lines-preserved
lines-preserved c = λ lines rest said stands none.
    let going = c.lines.invariant lines rest said stands none in
    let cut = c.in-Some.ensures in
    let line = going.rest_now ++ c.in-Some.line.now in
    let came = c.in_ok-add.ensures.ok going.lines_now going.rest_now (said ++ going.more) going.stands in
    let ends = subst (λ (o : Option TextFault). Ends going.lines_now line (said ++ going.more) c.lines.answers.lines
    c.end_line.new.answers.lines c.end_line.new.self o) c.in_default-2.is
    (c.in_ok-fault.ensures going.lines_now line (said ++ going.more) (going.rest_now ++ cut.body) came (is-line going cut)) in
    line-answered going cut ends

pub returns-then-len-self : goal.returns-then-len-self
returns-then-len-self c = λ lines rest said stands none.
    let going = c.lines.invariant lines rest said stands none in
    piece-long going c.in_default.ensures _ (c.in_ok-add-2.ensures.ok going.lines_now going.rest_now (said ++ going.more) going.stands)
    (omega arith) (omega arith) c.fault.result c.fault.ensures.line c.fault.ensures.kind

pub returns : goal.returns
returns c = λ lines rest said stands none.
    let going = c.lines.invariant lines rest said stands none in
    piece-heard going c.in_default.ensures _ (c.in_ok-add-2.ensures.ok going.lines_now going.rest_now (said ++ going.more) going.stands) (omega arith)
