use Rattle.std.proofs.Common.{sym, arith}
use Rattle.hub_replay.proofs.Hearing.{rest-cut, no-second, none-there}
use Rattle.hub_replay.proofs.conversation.Conversation.end.Goals as goal

pub returns-then-self-len-clause-err : goal.returns-then-self-len-clause-err
returns-then-self-len-clause-err c = λ lines rest said stands none.
    rest-cut _ lines rest said stands none (omega arith) c.requires _ c.fault.ensures.line c.fault.ensures.kind

pub returns-else-self-eq1-clause-err : goal.returns-else-self-eq1-clause-err
returns-else-self-eq1-clause-err c = λ lines rest said stands none.
    no-second _ lines rest said stands (none-there _ (sym c.if-is_some.ensures)) c.if-self-eq1.false
    (omega arith) _ c.fault-else-self-eq1.ensures.line c.fault-else-self-eq1.ensures.kind
