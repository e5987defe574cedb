use Rattle.chanhub.proofs.Asked.{second-asks}
use Rattle.chanhub.proofs.words.options.command.Goals as goal

pub returns-in-len2-up : goal.returns-in-len2-up
returns-in-len2-up g c =
    second-asks g.S.AsStr.text c.args.words.now c.word-item.result c.as_str.result.now c.in-len2-up.len_at_least c.word-item.is c.as_str.ensures
