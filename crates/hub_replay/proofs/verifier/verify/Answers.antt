use Rattle.std.proofs.Common.{List, ℕ, [], subst, ◌++◌, ◌∙◌, sym, ap}
use Rattle.hub_replay.specs.Comparing.{Agrees}
use Rattle.hub_replay.specs.Replay.{HasNone}
use Rattle.hub_replay.proofs.Verified.{same-fault, one-more-verified, lines-fit, tells-all}
use Rattle.hub_replay.proofs.Replayed.{replayed-more, rest-replayed}
use Rattle.hub_replay.proofs.verifier.verify.Goals as goal

pub loop-lines-init : goal.loop-lines-init
loop-lines-init c = record {
  so_far = record {
    text = [];
    replayed = c.in_ok-steps.ensures.ok;
    given = c.of-comparison.ensures.given;
    agrees = subst (λ (l : List ℕ). Agrees [] l c.of-comparison.result.agreed c.of-comparison.result.parted)
        (sym c.of-comparison.ensures.given) c.of-comparison.ensures.agrees;
  };
  none = c.new-lines.ensures;
}

pub loop-lines-preserved : goal.loop-lines-preserved
loop-lines-preserved c =
    let so_far = c.loop-lines.invariant.so_far in
    let more = replayed-more c.advance.new.self.reader c.advance.new.self.machine c.if-branch.true
    (c.in_ok-advance.ensures.ok c.args.journal.now so_far.text so_far.replayed) in
    record {
      so_far = one-more-verified so_far more.replayed
          (c.text.ensures ∙ more.written ∙ ap (λ l. l ++ more.more) c.loop-lines.invariant.none)
          c.take.ensures.given (c.take.ensures.agrees so_far.text so_far.agrees);
      none = c.clear.ensures;
    }

pub returns-in_err-advance-clause-err : goal.returns-in_err-advance-clause-err
returns-in_err-advance-clause-err c =
    let so_far = c.loop-lines.invariant.so_far in
    same-fault (HasNone c.args.journal.now) _ _ c.from_residual-in_err-advance.ensures.1
    (c.in_err-advance.ensures.err c.args.journal.now so_far.text so_far.replayed)

pub end-requires : goal.end-requires
end-requires c =
    let so_far = c.loop-lines.invariant.so_far in
    let rest = rest-replayed c.advance.new.self.reader c.advance.new.self.machine c.if-branch.false
    (c.in_ok-advance.ensures.ok c.args.journal.now so_far.text so_far.replayed) in
    let is = c.text-last.ensures ∙ rest.written ∙ ap (λ l. l ++ rest.more) c.loop-lines.invariant.none in
    let now = c.take-2.new.self in
    record {
      few = lines-fit rest.whole (subst (λ (l : List ℕ). Agrees (so_far.text ++ l) now.bytes.now now.agreed now.parted) is
          (c.take-2.ensures.agrees so_far.text so_far.agrees));
    }

pub returns-clause-ok : goal.returns-clause-ok
returns-clause-ok c =
    let so_far = c.loop-lines.invariant.so_far in
    let rest = rest-replayed c.advance.new.self.reader c.advance.new.self.machine c.if-branch.false
    (c.in_ok-advance.ensures.ok c.args.journal.now so_far.text so_far.replayed) in
    let is = c.text-last.ensures ∙ rest.written ∙ ap (λ l. l ++ rest.more) c.loop-lines.invariant.none in
    let now = c.take-2.new.self in
    tells-all c.end.result (c.one_reading.ensures.text c.args.journal.now) rest.whole (c.take-2.ensures.given ∙ so_far.given)
    (c.end.ensures (so_far.text ++ rest.more)
    (subst (λ (l : List ℕ). Agrees (so_far.text ++ l) now.bytes.now now.agreed now.parted) is
    (c.take-2.ensures.agrees so_far.text so_far.agrees)))
