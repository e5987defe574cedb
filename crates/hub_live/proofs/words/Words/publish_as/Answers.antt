use Rattle.std.proofs.Common.{arith, sym, ◌∙◌, subst, ◌∷◌, [], ◌++◌}
use Rattle.hub_live.specs.Prelude.{Allows, step, none, Entry, Terms, MarksOne, IsHistory, Kept, Published}
use Rattle.hub_live.proofs.Steps.{publishes_as}
use Rattle.hub_live.proofs.words.Words.publish_as.Goals as goal

pub store-requires : goal.store-requires
store-requires g c =
    let me = c.args.token.now.me in
    let e : Entry = c.args.entry.now in
    let b = c.args.self.now.is in
    let z = c.args.self.now.table.shared in
    let t = c.requires.token in
    let words = b.words in
    let n = c.requires.next in
    let small = n.word in
    let history = subst (λ (x : Terms). IsHistory x (me.0.seen ++ e ∷ [])) (sym b.key) n.history in
    let mark = subst (λ (x : Terms). MarksOne x.head me.0.seen e c.args.word c.args.mark) (sym b.key) n.mark in (
      t.table ∙ sym b.same,
      omega arith,
      subst (λ (x : Entry). Allows (Kept z.key) z.table_id.slots c.args.token.now.id me c.args.word (λ _. c.args.mark)
          (λ _. Published x (step z.table_id.slots c.args.word c.args.mark 0 none) me c.args.mark)) c.requires.named
          (publishes_as _ _ _ _ _ me e t.free n.hub n.caller history n.word mark),
    )
