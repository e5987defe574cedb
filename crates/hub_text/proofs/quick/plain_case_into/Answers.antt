use Rattle.std.proofs.lemmas.Option.{IfSome_then}
use Rattle.hub_text.proofs.QuickLines.{plain-recv, plain-send, stands-then}
use Rattle.hub_text.proofs.quick.plain_case_into.Goals as goal

pub returns-in_ok-behind : goal.returns-in_ok-behind
returns-in_ok-behind c =
    IfSome_then c.send_into.result c.send_into.ensures
    (λ end so. plain-send c.args.edition c.args.bytes.now c.args.start c.in_ok-behind.field-0 c.send_into.new.case end
    (stands-then (stands-then c.in-Some.ensures c.in_ok-end.ensures) c.in_ok-behind.ensures) so)

pub returns-in_ok-behind-2 : goal.returns-in_ok-behind-2
returns-in_ok-behind-2 c =
    IfSome_then c.recv_into.result c.recv_into.ensures
    (λ end so. plain-recv c.args.edition c.args.bytes.now c.args.start c.in_ok-behind-2.field-0 c.recv_into.new.case end
    (stands-then (stands-then c.in_ok-end-2.ensures c.in_ok-end-3.ensures) c.in_ok-behind-2.ensures) so)
