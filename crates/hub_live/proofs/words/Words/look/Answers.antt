use Rattle.std.proofs.Common.{arith, sym, ◌∙◌}
use Rattle.hub_live.proofs.Steps.{looks_as}
use Rattle.hub_live.proofs.words.Words.look.Goals as goal

pub load-requires : goal.load-requires
load-requires g c =
    let b = c.args.self.now.is in
    let t = c.requires.token in
    let small = c.requires.word in
    (t.table ∙ sym b.same, omega (arith, b.words), looks_as _ _ _ _ c.args.token.now.me t.free c.requires.number)
