use Rattle.std.proofs.Common.{ℕ, List, sym, subst}
use Rattle.hub_replay.specs.Replay.{HasNone, IsEventText}
use Rattle.hub_replay.specs.Replayed.{Replayed}
use Rattle.hub_replay.proofs.Replayed.{replayed-more, rest-replayed}
use Rattle.hub_replay.proofs.Verified.{same-fault}
use Rattle.hub_replay.proofs.replayer.event_text.Goals as goal

pub returns-in_err-advance-clause-err : goal.returns-in_err-advance-clause-err
returns-in_err-advance-clause-err c =
    same-fault (HasNone c.args.bytes.now) _ _ c.from_residual-in_err-advance.ensures.1
    (c.in_err-advance.ensures.err c.args.bytes.now c.loop-text.text.lines c.loop-text.invariant)

pub loop-text-preserved : goal.loop-text-preserved
loop-text-preserved c =
    let more = replayed-more c.advance.new.self.reader c.advance.new.self.machine c.if-branch.true
    (c.in_ok-advance.ensures.ok c.args.bytes.now c.loop-text.text.lines c.loop-text.invariant) in
    subst (λ (t : List ℕ). Replayed c.args.bytes.now t c.advance.new.self.reader c.advance.new.self.machine) (sym more.written) more.replayed

pub returns-clause-ok : goal.returns-clause-ok
returns-clause-ok c =
    let none = rest-replayed c.advance.new.self.reader c.advance.new.self.machine c.if-branch.false
    (c.in_ok-advance.ensures.ok c.args.bytes.now c.loop-text.text.lines c.loop-text.invariant) in
    subst (IsEventText c.args.bytes.now) (sym none.written) none.whole.is
