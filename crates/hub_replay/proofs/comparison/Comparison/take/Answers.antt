use Rattle.std.proofs.Common.{◌∙◌, ap, arith, length}
use Rattle.std.proofs.lemmas.List.{take_rest}
use Rattle.hub_replay.specs.Verify.{common_beginning}
use Rattle.hub_replay.proofs.Comparing.{agrees-more, agreed-within}
use Rattle.hub_replay.proofs.comparison.Comparison.take.Goals as goal

pub overflow_add-self : goal.overflow_add-self
overflow_add-self c =
    let more = c.common_length-more.ensures
    ∙ ap (λ l. length (common_beginning c.args.piece.now l)) (take_rest c.args.self.now.bytes.now c.args.self.now.agreed) in
    let within = agreed-within c.args.self.now.bytes.now c.args.self.now.agreed c.args.piece.now c.common_length-more.result c.args.self.now.within more in
    omega arith

pub invariant_of-self : goal.invariant_of-self
invariant_of-self c =
    let more = c.common_length-more.ensures
    ∙ ap (λ l. length (common_beginning c.args.piece.now l)) (take_rest c.args.self.now.bytes.now c.args.self.now.agreed) in
    record { within = agreed-within c.args.self.now.bytes.now c.args.self.now.agreed c.args.piece.now c.common_length-more.result c.args.self.now.within more }

pub returns-clause-agrees : goal.returns-clause-agrees
returns-clause-agrees c = λ text so_far.
    let more = c.common_length-more.ensures
    ∙ ap (λ l. length (common_beginning c.args.piece.now l)) (take_rest c.args.self.now.bytes.now c.args.self.now.agreed) in
    agrees-more c.args.piece.now c.common_length-more.result so_far c.if-self.false more
