use Rattle.std.proofs.Common.{refl, arith}
use Rattle.hub_replay.proofs.Hearing.{line-long}
use Rattle.hub_replay.proofs.conversation.Conversation.end_line.Goals as goal

pub returns-then-len-self : goal.returns-then-len-self
returns-then-len-self c = λ lines line said body stands at.
    (line-long _ lines line said stands body at (omega arith) _ c.fault.ensures.line c.fault.ensures.kind, refl)

pub returns-then-self-eq1 : goal.returns-then-self-eq1
returns-then-self-eq1 c = λ lines line said body. c.end_first_line.ensures lines line said body c.args.answers.now.lines
