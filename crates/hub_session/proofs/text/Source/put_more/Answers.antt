use Rattle.std.proofs.Common.{◌+◌, arith, subst}
use Rattle.hub_session.specs.Texts.{pieces_by}
use Rattle.hub_session.specs.Pieces.{PutsSome}
use Rattle.std.proofs.Common.{drop}
use Rattle.hub_session.proofs.Texts.{one_more}
use Rattle.hub_session.proofs.text.Source.put_more.Goals as goal

pub loop-count-preserved : goal.loop-count-preserved
loop-count-preserved c =
    record {
      pieces = one_more (pieces_by c.args.self.now) (c.args.number + 1) c.loop-count.count c.in-Some.next c.args.out.now.items
          c.loop-count.out.items c.has_put.new.out.items (omega (arith, c.in-Some.ensures, c.from.ensures)) c.loop-count.invariant.pieces
          (c.has_put.ensures.put c.if-has_put.true);
      fits = c.has_put.ensures.fits;
    }

pub returns-clause-pieces : goal.returns-clause-pieces
returns-clause-pieces c =
    subst (λ n. PutsSome (drop (c.args.number + 1) (pieces_by c.args.self.now)) n c.args.out.now.items c.loop-count.out.items)
    (omega (arith, c.loop-count-test.false, c.loop-count.auto)) c.loop-count.invariant.pieces
