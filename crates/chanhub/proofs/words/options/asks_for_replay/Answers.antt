use Rattle.chanhub.proofs.Asked.{two-ask}
use Rattle.chanhub.proofs.words.options.asks_for_replay.Goals as goal

pub returns-in-len2 : goal.returns-in-len2
returns-in-len2 g c =
    two-ask g.S.AsStr.text c.args.words.now c.word-item.result c.as_str.result.now c.eq.result
    c.in-len2.len_at_least c.in-len2.len_below c.word-item.is c.as_str.ensures c.eq.ensures
