use Rattle.std.proofs.Common.{◌≤◌, ◌+◌, drop, length}
use Rattle.hub_session.specs.Pieces.{PutsSome}
use Rattle.hub_session.specs.Texts.{pieces_by}
use Rattle.hub_session.proofs.text.Source.put_more.Given as goal

-- so many pieces were appended
abbrev pub invariant-loop-count : goal.invariant-loop-count
invariant-loop-count l = record {
  pieces : PutsSome (drop (l.number + 1) (pieces_by l.self)) l.count l.fn.out.items l.out.items;
  fits : length l.out.items ≤ l.most;
}
