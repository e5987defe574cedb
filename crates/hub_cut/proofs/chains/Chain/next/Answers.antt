use Rattle.std.proofs.Common.{rules}
use Rattle.hub_base.proofs.OneReading.{few-entries}
use Rattle.hub_cut.proofs.Following.{only_next}
use Rattle.hub_cut.proofs.chains.Chain.next.Goals as goal

pub begins_with-requires : goal.begins_with-requires
begins_with-requires c =
    rw (c.entries.ensures) (few-entries c.args.text.now c.in_ok-chapter.chapter.head c.in_ok-chapter.chapter.entries c.in_ok-chapter.ensures.found)

pub returns-in_err-chapter-clause-only : goal.returns-in_err-chapter-clause-only
returns-in_err-chapter-clause-only c = only_next c.args.self.now c.args.text.now c.from_residual.result (search rules)

pub returns-in_err-has_head-clause-only : goal.returns-in_err-has_head-clause-only
returns-in_err-has_head-clause-only c = only_next c.args.self.now c.args.text.now c.from_residual-in_err-has_head.result (search rules)

pub returns-in_err-begins_with-clause-only : goal.returns-in_err-begins_with-clause-only
returns-in_err-begins_with-clause-only c = only_next c.args.self.now c.args.text.now c.from_residual-in_err-begins_with.result (search rules)

pub returns-in_err-self-inside-clause-only : goal.returns-in_err-self-inside-clause-only
returns-in_err-self-inside-clause-only c = only_next c.args.self.now c.args.text.now c.from_residual-in_err-self-inside.result (search rules)
