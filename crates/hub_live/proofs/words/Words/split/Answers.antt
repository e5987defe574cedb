use Rattle.std.proofs.Common.{arith, sym, ◌∙◌}
use Rattle.hub_live.proofs.Seats.{parts_some}
use Rattle.hub_live.proofs.words.Words.split.Goals as goal

pub split_seat-requires : goal.split_seat-requires
split_seat-requires g c =
    let b = c.args.self.now.is in
    let t = c.requires.token in
    (t.table ∙ sym b.same, omega (arith, b.words), parts_some _ _ _ c.requires.joined)
