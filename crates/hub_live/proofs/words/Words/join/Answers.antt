use Rattle.std.proofs.Common.{arith, sym, ◌∙◌}
use Rattle.hub_live.proofs.Seats.{joins_some}
use Rattle.hub_live.proofs.words.Words.join.Goals as goal

pub join_seat-requires : goal.join_seat-requires
join_seat-requires g c =
    let b = c.args.self.now.is in
    let t = c.requires.token in
    let o = c.requires.other in
    (t.is.table ∙ sym b.same, o.is.table ∙ sym b.same, o.is.free, omega (arith, b.words), joins_some _ _ _ _ _ (t.terms ∙ sym o.terms) o.number o.joined)
