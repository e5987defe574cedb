use Rattle.std.proofs.lemmas.Option.{IfSome_then}
use Rattle.hub_text.proofs.QuickLines.{select-stands}
use Rattle.hub_text.specs.Place.{step_in}
use Rattle.hub_text.proofs.quick.step_into.Goals as goal

pub returns-in-Some-behind_words : goal.returns-in-Some-behind_words
returns-in-Some-behind_words c =
    IfSome_then c.select_into.result c.select_into.ensures
    (λ end so. select-stands c.args.edition c.args.bytes.now c.args.start c.in-Some-behind_words.word (step_in c.select_into.new.step) end
    c.in-Some-behind_words.ensures so)
