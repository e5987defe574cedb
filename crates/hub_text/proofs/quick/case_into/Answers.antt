use Rattle.std.proofs.lemmas.Option.{IfSome_then}
use Rattle.hub_text.proofs.QuickLines.{case-recv, case-send, stands-then}
use Rattle.hub_text.proofs.quick.case_into.Goals as goal

pub returns-in-Some : goal.returns-in-Some
returns-in-Some c =
    IfSome_then c.send_into.result c.send_into.ensures
    (λ end so. case-send c.args.edition c.args.bytes.now c.args.start c.in-Some.end c.send_into.new.case end
    (stands-then c.in_ok-start.ensures c.in-Some.ensures) so)

pub returns-in_ok-behind : goal.returns-in_ok-behind
returns-in_ok-behind c =
    IfSome_then c.recv_into.result c.recv_into.ensures
    (λ end so. case-recv c.args.edition c.args.bytes.now c.args.start c.in_ok-behind.field-0 c.recv_into.new.case end
    (stands-then c.in_ok-start.ensures c.in_ok-behind.ensures) so)
